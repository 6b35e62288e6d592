-- Words that name contexts, three each.
use Rattle.std.proofs.Common.{◌≡◌, ◌<◌, ◌≤◌, ℕ, zero, suc, ◌+◌, ◌*◌, ◌/◌, ◌%◌, Bool, true, ◌&&◌, List, [], ◌∷◌, length, map, get_or, refl, sym, ap, ◌∙◌, Option, Some, arith}
use Rattle.std.specs.Prelude.{slice_get, slice_index_or, nat_eq, nat_le}
use Rattle.std.specs.List.{list_all}
use Rattle.std.proofs.lemmas.Bool.{and_parts, eqb-true, leb-true}
use Rattle.tinker_words.specs.Settings.{is_name}
use Rattle.tinker_words.specs.Words.{NamedContext, Target, context_named, contexts_named, is_count, name_contexts}

-- of three words for each context there are a third as many contexts
pub count_named : (words : List (List ℕ)) (n : ℕ) → length words ≡ 3 * n → length (contexts_named words) ≡ n
count_named [] zero h = refl
count_named [] (suc n) h = absurd (omega arith)
count_named (a ∷ []) n h = absurd (omega arith)
count_named (a ∷ (b ∷ [])) n h = absurd (omega arith)
count_named (a ∷ (b ∷ (c ∷ words))) zero h = absurd (omega arith)
count_named (a ∷ (b ∷ (c ∷ words))) (suc n) h = ap suc (count_named words n (omega arith))

-- the context of a number is named by its three words
pub named_at : (words : List (List ℕ)) (i : ℕ) → 3 * i + 2 < length words →
    slice_get (contexts_named words) i
    ≡ Some (context_named (slice_index_or words (3 * i) []) (slice_index_or words (3 * i + 1) []) (slice_index_or words (3 * i + 2) []))
named_at [] i h = absurd (omega arith)
named_at (a ∷ []) i h = absurd (omega arith)
named_at (a ∷ (b ∷ [])) i h = absurd (omega arith)
named_at (a ∷ (b ∷ (c ∷ words))) zero h = refl
named_at (a ∷ (b ∷ (c ∷ words))) (suc i) h =
    let k0 : 3 * suc i ≡ suc (suc (suc (3 * i))) = omega arith in
    let k1 : 3 * suc i + 1 ≡ suc (suc (suc (3 * i + 1))) = omega arith in
    let k2 : 3 * suc i + 2 ≡ suc (suc (suc (3 * i + 2))) = omega arith in
    named_at words i (omega arith)
    ∙ ap (λ n. Some (context_named (slice_index_or (a ∷ (b ∷ (c ∷ words))) n []) (slice_index_or words (3 * i + 1) []) (slice_index_or words (3 * i + 2) []))) (sym k0)
    ∙ ap (λ n. Some (context_named (slice_index_or (a ∷ (b ∷ (c ∷ words))) (3 * suc i) []) (slice_index_or (a ∷ (b ∷ (c ∷ words))) n []) (slice_index_or words (3 * i + 2) []))) (sym k1)
    ∙ ap (λ n. Some (context_named (slice_index_or (a ∷ (b ∷ (c ∷ words))) (3 * suc i) []) (slice_index_or (a ∷ (b ∷ (c ∷ words))) (3 * suc i + 1) []) (slice_index_or (a ∷ (b ∷ (c ∷ words))) n []))) (sym k2)

-- a test of all words, by their bytes
pub all_mapped : {A B : Type 0} (f : A → B) (test : B → Bool) (xs : List A) → list_all (λ x. test (f x)) xs ≡ list_all test (map f xs)
all_mapped f test [] = refl
all_mapped f test (x ∷ xs) = ap (λ b. test (f x) && b) (all_mapped f test xs)

-- so many words are three for each of 1 to 8 contexts
pub record IsCount (n : ℕ) : Type 0 where
  pub threes : n ≡ 3 * (n / 3)
  pub some : 3 ≤ n
  pub few : n ≤ 24

pub count_is : (n : ℕ) → is_count n ≡ true → IsCount n
count_is n h =
    let a = and_parts (nat_eq (n % 3) 0) (nat_le 3 n && nat_le n 24) h in
    let b = and_parts (nat_le 3 n) (nat_le n 24) a.1 in
    let whole : n % 3 ≡ 0 = eqb-true (n % 3) 0 a.0 in
    let some : 3 ≤ n = leb-true 3 n b.0 in
    let few : n ≤ 24 = leb-true n 24 b.1 in
    record { threes = omega arith; some = some; few = few }

-- words that name contexts are so many
pub words_count : (words : List (List ℕ)) → name_contexts words ≡ true → IsCount (length words)
words_count words h = count_is (length words) (and_parts (list_all is_name words) (is_count (length words)) h).1

-- the words are so many as the contexts want
pub inside_words : (words : List (List ℕ)) (i : ℕ) → name_contexts words ≡ true → i < length (contexts_named words) → 3 * i + 2 < length words
inside_words words i h lt =
    let n = words_count words h in
    let t = n.threes in
    let many = count_named words (length words / 3) t in omega arith

-- a word's bytes are those of the word at its place
pub bytes_at : {A : Type 0} (f : A → List ℕ) (xs : List A) (n : ℕ) (x : A) → n < length xs → x ≡ get_or xs n x → slice_index_or (map f xs) n [] ≡ f x
bytes_at f [] n x lt is = absurd (omega arith)
bytes_at f (y ∷ xs) zero x lt is = ap f (sym is)
bytes_at f (y ∷ xs) (suc n) x lt is = bytes_at f xs n x (omega arith) is

-- a context by its parts
pub same_context : (i j : List ℕ) (t u : Target) (f g : Option (List ℕ)) → i ≡ j → t ≡ u → f ≡ g →
    let a : NamedContext = record { image = i; target = t; input = f } in let b : NamedContext = record { image = j; target = u; input = g } in a ≡ b
same_context i j t u f g a b c = cc
