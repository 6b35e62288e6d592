-- Alike words have equal operation parts, and words that are put in another order the same operations.
use Rattle.std.proofs.Common.{◌≡◌, ℕ, ◌+◌, ◌*◌, ◌%◌, ◌^◌, ◌<◌, List, [], ◌∷◌, length, get_or, map, refl, sym, ap, subst, ◌∙◌}
use Rattle.std.specs.List.{AllZip, range_with_len}
use Rattle.std.proofs.lemmas.List.{length-map, get_or-map}
use Rattle.std.proofs.lemmas.List.FromFn.{fill_by_all}
use Rattle.std.proofs.lemmas.Nat.{same_from_place, mod_below, pow_pos}
use Rattle.list_encoding.specs.Word.{unit_in}
use Rattle.size_invariance.specs.Shape.{AreAlike, operation_part, IsRearrangement, HaveSameOperations}
use Rattle.size_invariance.specs.Laws.{PartsDecideLikeness, RearrangementsArePermutations, ReorderingsKeepOperations}
use Rattle.size_invariance.proofs.Rearranged.{permuted, permutation, mapped}

pub alike_parts : (old new : ℕ) → AreAlike old new → operation_part old ≡ operation_part new
alike_parts old new h = ap (λ (u : ℕ). u * 2 ^ 54 + old % 2 ^ 54) (sym h.unit) ∙ ap (λ (o : ℕ). unit_in new * 2 ^ 54 + o) (sym h.operation)

pub parts_decide_likeness : PartsDecideLikeness
parts_decide_likeness old new = (alike_parts old new, back)
  where
    back : operation_part old ≡ operation_part new → AreAlike old new
    back e =
        let h =
        same_from_place (unit_in old) (old % 2 ^ 54) (unit_in new) (new % 2 ^ 54) (2 ^ 54) (mod_below old (2 ^ 54) (pow_pos 54))
        (mod_below new (2 ^ 54) (pow_pos 54)) e in
        record { unit = sym h.0; operation = sym h.1 }

pub rearrangements_are_permutations : RearrangementsArePermutations
rearrangements_are_permutations xs ys = (permutation xs ys, permuted xs ys)

same_parts : (xs ys : List ℕ) → AllZip AreAlike xs ys → map operation_part xs ≡ map operation_part ys
same_parts [] [] h = refl
same_parts [] (y ∷ ys) h = elim h [ ]
same_parts (x ∷ xs) [] h = elim h [ ]
same_parts (x ∷ xs) (y ∷ ys) h = let a = alike_parts x y h.0 in let b = same_parts xs ys h.1 in cc

pub reorderings_keep_operations : ReorderingsKeepOperations
reorderings_keep_operations old new r n =
    let numbers = range_with_len 0 (length old) in
    let own : old ≡ map (λ k. get_or old k 0) numbers = fill_by_all (λ k. get_or old k 0) old (length old) 0 refl (λ k lt. refl) in
    let moved : IsRearrangement (map (λ k. get_or old k 0) numbers) (map (λ k. get_or old k 0) r.listed) =
    mapped (λ k. get_or old k 0) numbers r.listed r.numbers in
    let parts : HaveSameOperations (map (λ k. get_or old k 0) numbers) (map (λ k. get_or old k 0) r.listed) =
    mapped operation_part (map (λ k. get_or old k 0) numbers) (map (λ k. get_or old k 0) r.listed) moved in
    let from : HaveSameOperations old (map (λ k. get_or old k 0) r.listed) =
    subst (λ (l : List ℕ). HaveSameOperations l (map (λ k. get_or old k 0) r.listed)) (sym own) parts in
    subst (λ (l : List ℕ). IsRearrangement (map operation_part old) l) (same_parts (map (λ k. get_or old k 0) r.listed) new r.alike) from n

-- a list that has the operation part of each word
pub all_parts : (words parts : List ℕ) → length parts ≡ length words →
    ((k : ℕ) → k < length words → get_or parts k 0 ≡ operation_part (get_or words k 0)) → map operation_part words ≡ parts
all_parts words parts long each =
    let part = λ (k : ℕ). operation_part (get_or words k 0) in
    fill_by_all part (map operation_part words) (length words) 0 (length-map words operation_part) (λ k lt. get_or-map operation_part words k 0 0 lt)
    ∙ sym (fill_by_all part parts (length words) 0 long each)
