-- Issue cycles never fall, and are bounded by the block's end.
use Rattle.std.proofs.Common.{◌≡◌, ℕ, ◌+◌, ◌-◌, ◌*◌, ◌<◌, ◌≤◌, List, [], ◌∷◌, length, get_or, take, drop, refl, sym, ap, subst, ◌∙◌, Bool, true, false, arith}
use Rattle.std.specs.Prelude.{map, filter, sum, All}
use Rattle.std.specs.List.Sorted.{IsNonDecreasing}
use Rattle.std.proofs.lemmas.List.{take-take, take-append-drop, take_all, length-map}
use Rattle.std.proofs.lemmas.List.Elements.{All-map}
use Rattle.std.proofs.lemmas.List.Sums.{sum_by_more_le}
use Rattle.std.proofs.lemmas.List.FromFn.{length-map-range_with_len, get_or-map-range_with_len}
use Rattle.list_encoding.specs.Word.{is_head, pause_in}
use Rattle.list_encoding.specs.Times.{Pace, word_pace, spans, begun_by, issue_cycle, issue_cycles, block_end, IsTimed}
use Rattle.list_encoding.proofs.Issues.{Timed, heads, heads-take, spans-append, length-spans, sum-append, spans-head, spans-other}

sum_part : (n : ℕ) (xs : List ℕ) → sum (take n xs) ≤ sum xs
sum_part n xs = omega (arith, ap sum (take-append-drop n xs), sum-append (take n xs) (drop n xs))

sum_rises : (m n : ℕ) (xs : List ℕ) → m ≤ n → sum (take m xs) ≤ sum (take n xs)
sum_rises m n xs le = omega (arith, sum_part m (take n xs), ap sum (take-take m n xs le))

begun_rises : (ops : List Pace) (j k : ℕ) → j ≤ k → begun_by ops j ≤ begun_by ops k
begun_rises ops j k le = omega (arith, heads-take (j + 1) (take (k + 1) ops), ap heads (take-take (j + 1) (k + 1) ops (omega arith)))

-- a later operation issues no earlier
pub issues_rise : (ops : List Pace) (j k : ℕ) → j ≤ k → issue_cycle ops j ≤ issue_cycle ops k
issues_rise ops j k le =
    let begun = begun_rises ops j k le in sum_rises (begun_by ops j - 1) (begun_by ops k - 1) (spans ops) (omega arith)

-- no operation issues after the block's end
pub issues_by_end : (ops : List Pace) (k : ℕ) → issue_cycle ops k ≤ block_end ops
issues_by_end ops k = sum_part (begun_by ops k - 1) (spans ops)

-- each operation adds at most its cycle and its pause
end_more : (y : Pace) (ys : List Pace) (b : Bool) → y.head ≡ b → block_end (y ∷ ys) ≤ (1 + y.pause) + block_end ys
end_more y ys true head =
    let one : sum ((1 + y.pause) ∷ []) ≡ 1 + y.pause = omega arith in
    omega (arith, ap sum (spans-append (y ∷ []) ys), sum-append (spans (y ∷ [])) (spans ys), ap sum (spans-head y head), one)
end_more y ys false head =
    let none : sum [] ≡ 0 = omega arith in
    omega (arith, ap sum (spans-append (y ∷ []) ys), sum-append (spans (y ∷ [])) (spans ys), ap sum (spans-other y head), none)

-- a block ends after at most 32 cycles a word
pub ends_in_time : (words : List ℕ) → block_end (map word_pace words) ≤ 32 * length words
ends_in_time [] = omega arith
ends_in_time (word ∷ words) =
    let more = end_more (word_pace word) (map word_pace words) (is_head word) refl in
    let rest = ends_in_time words in
    let pause : pause_in word < 32 = omega arith in
    omega arith

-- each span has its MultiOp's own cycle
some_span : (ops : List Pace) (k : ℕ) → k < length (spans ops) → 1 ≤ get_or (spans ops) k 0
some_span ops k below =
    All-map (λ n. 1 ≤ n) (λ (j : Pace). 1 + j.pause) (filter (λ j. j.head) ops) (λ i d within. omega arith) k 0 below

-- under a first head each operation issues before the block's end
pub issues_under_head : (y : Pace) (ys : List Pace) (k : ℕ) → y.head ≡ true → issue_cycle (y ∷ ys) k < block_end (y ∷ ys)
issues_under_head y ys k head =
    let ops = y ∷ ys in
    let one : begun_by ops 0 ≡ 1 = sym (length-spans (y ∷ [])) ∙ ap length (spans-head y head) in
    let some = begun_rises ops 0 k (omega arith) in
    let few = heads-take (k + 1) ops in
    let below : begun_by ops k - 1 < length (spans ops) = omega (arith, length-spans ops) in
    let positive = some_span ops (begun_by ops k - 1) below in
    let whole = sum_by_more_le (λ n. n) (spans ops) (begun_by ops k - 1) 0 below in
    omega arith

pub issues_before_end : (words : List ℕ) → IsTimed words → (k : ℕ) → k < length words → issue_cycle (map word_pace words) k < block_end (map word_pace words)
issues_before_end [] timed k below = absurd (let c : ⊥ = omega arith in c)
issues_before_end (word ∷ words) timed k below = issues_under_head (word_pace word) (map word_pace words) k timed.heads.first

-- the same of the list of issue cycles

at_cycle : (ops : List Pace) (k d : ℕ) → k < length (issue_cycles ops) → get_or (issue_cycles ops) k d ≡ issue_cycle ops k
at_cycle ops k d below =
    let long = length-map-range_with_len (issue_cycle ops) 0 (length ops) in
    get_or-map-range_with_len (issue_cycle ops) 0 (length ops) k k d (omega arith) (omega arith)

pub count_of_cycles : (words : List ℕ) → length (issue_cycles (map word_pace words)) ≡ length words
count_of_cycles words =
    let ops = map word_pace words in
    length-map-range_with_len (issue_cycle ops) 0 (length ops) ∙ length-map words word_pace

pub cycles_rise : (ops : List Pace) → IsNonDecreasing (issue_cycles ops)
cycles_rise ops j k d le below =
    let first = at_cycle ops j d (omega arith) in
    let second = at_cycle ops k d below in
    let rises = issues_rise ops j k le in
    omega arith

pub cycles_by_end : (ops : List Pace) → All (λ n. n ≤ block_end ops) (issue_cycles ops)
cycles_by_end ops k d below = let this = at_cycle ops k d below in let by = issues_by_end ops k in omega arith

-- the times of a whole block
pub record Bounded (words : List ℕ) (end : ℕ) (at : List ℕ) : Type 0 where
  pub count : length at ≡ length words
  pub rising : IsNonDecreasing at
  pub within : All (λ n. n ≤ end) at

pub bounded : (words : List ℕ) (k present next : ℕ) (at : List ℕ) → Timed words k present next at → length words ≤ k → Bounded words next at
bounded words k present next at h whole =
    let all : take k words ≡ words = take_all k words whole in
    let cycles : issue_cycles (map word_pace words) ≡ at = sym (h.cycles ∙ ap (λ ws. issue_cycles (map word_pace ws)) all) in
    let end : block_end (map word_pace words) ≡ next = sym (h.ends ∙ ap (λ ws. block_end (map word_pace ws)) all) in
    record {
      count = ap length (sym cycles) ∙ count_of_cycles words;
      rising = subst IsNonDecreasing cycles (cycles_rise (map word_pace words));
      within = subst (λ (n : ℕ). All (λ m. m ≤ n) at) end (subst (All (λ n. n ≤ block_end (map word_pace words))) cycles (cycles_by_end (map word_pace words)));
    }
