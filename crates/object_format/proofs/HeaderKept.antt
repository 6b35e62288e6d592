-- Where no field of the header is broken, its numbers are in their ranges and the file isn't long.
use Rattle.std.proofs.Common.{◌≡◌, ℕ, zero, suc, ◌+◌, ◌*◌, ◌^◌, ◌<◌, ◌≤◌, Bool, true, false, cond, not, ◌&&◌, List, [], ◌∷◌, drop, get_or, Some, None, refl, arith, lit≤, get_or-drop}
use Rattle.std.specs.Prelude.{option_map, find, slice_index, nat_le}
use Rattle.std.specs.List.{list_all}
use Rattle.std.proofs.lemmas.Bool.{and_parts, and_from, leb-true, eqb-true}
use Rattle.object_format.specs.Layout as at
use Rattle.object_format.specs.Rules.{Field, broken_in, header_fields, header, names_fit, words_fit}

-- the numbers of the header begin near the file's own beginning
pub numbers_near : (two : Bool) → (19 ≤ cond {A = ℕ} two 28 19) × (cond {A = ℕ} two 28 19 ≤ 28)
numbers_near true = (lit≤ tt, lit≤ tt)
numbers_near false = (lit≤ tt, lit≤ tt)

-- none is broken, so all are kept
pub all_kept : (fields : List Field) → broken_in fields ≡ None → list_all (λ f. f.1) fields ≡ true
all_kept [] h = refl
all_kept (f ∷ fs) h = go f.1 refl h (all_kept fs)
  where
    go : (b : Bool) → f.1 ≡ b → option_map (λ g. g.0) (cond (not b) (Some f) (find (λ g. not g.1) fs)) ≡ None → (broken_in fs ≡ None → list_all (λ g. g.1) fs ≡ true) → (f.1 && list_all (λ g. g.1) fs) ≡ true
    go false e g ih = absurd (let k : ⊥ = cc in k)
    go true e g ih = and_from f.1 (list_all (λ g. g.1) fs) e (ih g)

-- the numbers of the header are in their ranges, and fit the tables
pub record IsHeaderKept (bytes : List ℕ) : Type 0 where
  pub pages : at.pages bytes ≤ 256
  pub names : at.name_count bytes ≤ 262144
  pub blocks : at.block_count bytes ≤ 131072
  pub words : at.word_count bytes ≤ 131072
  pub words_fit : words_fit bytes ≡ true
  pub references : at.reference_count bytes ≤ at.word_count bytes
  pub labels : at.label_count bytes ≤ 262144
  pub size : at.data_size bytes ≤ 1048576
  pub initial : at.initial_size bytes ≤ at.data_size bytes
  pub names_fit : names_fit bytes ≡ true

pub header_kept : (bytes : List ℕ) → header bytes ≡ None → IsHeaderKept bytes
header_kept bytes h =
    let all = all_kept (header_fields bytes) h in
    let t1 = and_parts (nat_le (at.pages bytes) 256) _ all in
    let t2 = and_parts (nat_le (at.name_count bytes) 262144) _ t1.1 in
    let t3 = and_parts (nat_le (at.block_count bytes) 131072) _ t2.1 in
    let t4 = and_parts (nat_le (at.word_count bytes) 131072 && words_fit bytes) _ t3.1 in
    let w = and_parts (nat_le (at.word_count bytes) 131072) (words_fit bytes) t4.0 in
    let t5 = and_parts (nat_le (at.reference_count bytes) (at.word_count bytes)) _ t4.1 in
    let t6 = and_parts (nat_le (at.label_count bytes) 262144) _ t5.1 in
    let t7 = and_parts (nat_le (at.data_size bytes) 1048576) _ t6.1 in
    let t8 = and_parts (nat_le (at.initial_size bytes) (at.data_size bytes)) _ t7.1 in
    let t9 = and_parts (names_fit bytes) true t8.1 in
    record {
      pages = leb-true (at.pages bytes) 256 t1.0;
      names = leb-true (at.name_count bytes) 262144 t2.0;
      blocks = leb-true (at.block_count bytes) 131072 t3.0;
      words = leb-true (at.word_count bytes) 131072 w.0;
      words_fit = w.1;
      references = leb-true (at.reference_count bytes) (at.word_count bytes) t5.0;
      labels = leb-true (at.label_count bytes) 262144 t6.0;
      size = leb-true (at.data_size bytes) 1048576 t7.0;
      initial = leb-true (at.initial_size bytes) (at.data_size bytes) t8.0;
      names_fit = t9.0;
    }

-- each byte is below 256, also where there is none
abbrev pub AreBytes : List ℕ → Type 0
AreBytes xs = (i : ℕ) → get_or xs i 0 < 256

-- names take few bytes
names_few : (n : ℕ) (xs : List ℕ) → AreBytes xs → at.names_length n xs ≤ 256 * n
names_few zero xs few = omega arith
names_few (suc n) xs few =
    let b = slice_index xs 0 in
    let here = few 0 in
    let later = names_few n (drop (1 + b) xs) (λ i. rw (get_or-drop (1 + b) xs i 0) (few (1 + b + i))) in
    omega (arith, here, later)

-- the file isn't long
pub near : (bytes : List ℕ) → AreBytes bytes → IsHeaderKept bytes → at.given_length bytes < 2 ^ 32
near bytes few k =
    let offset = numbers_near (at.is_version_two bytes) in
    let walked = eqb-true (at.names_length (at.name_count bytes) (drop (at.names_offset bytes) bytes)) (at.name_bytes bytes) k.names_fit in
    let names = names_few (at.name_count bytes) (drop (at.names_offset bytes) bytes) (λ i. rw (get_or-drop (at.names_offset bytes) bytes i 0) (few (at.names_offset bytes + i))) in
    omega (arith, offset.1, walked, names, k.names, k.blocks, k.words, k.references, k.labels, k.size, k.initial)
