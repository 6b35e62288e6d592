-- One more operation at a block's end.
use Rattle.std.proofs.Common.{◌≡◌, ℕ, ◌+◌, ◌-◌, ◌*◌, ◌<◌, ◌≤◌, List, [], ◌∷◌, ◌++◌, length, get_or, take, drop, length-append, sym, ap, subst, ◌∙◌, true, false, cond, arith}
use Rattle.std.specs.Prelude.{map, filter, sum, count_by}
use Rattle.std.specs.List.{range_with_len}
use Rattle.std.proofs.lemmas.List.{map-append, length-map, take_more, take-append-le, take-append-drop}
use Rattle.std.proofs.lemmas.List.Elements.{filter-append}
use Rattle.std.proofs.lemmas.List.Sums.{length-filter}
use Rattle.std.proofs.lemmas.List.FromFn.{length-map-range_with_len, get_or-map-range_with_len, map-range_with_len_more, fill_by_all}
use Rattle.std.proofs.lemmas.Grind.{common_steps}
use Rattle.std.proofs.Math.Seq.{take-append_seam, take-append-add}
use Rattle.list_encoding.specs.Word.{is_head, pause_in}
use Rattle.list_encoding.specs.Times.{Pace, word_pace, spans, begun_by, issue_cycle, issue_cycles, block_end}

abbrev pub heads : List Pace → ℕ
heads ops = count_by (λ k. k.head) ops

pub spans-append : (xs ys : List Pace) → spans (xs ++ ys) ≡ spans xs ++ spans ys
spans-append xs ys = ap (map (λ k. 1 + k.pause)) (filter-append (λ k. k.head) xs ys) ∙ map-append (λ k. 1 + k.pause) (filter (λ k. k.head) xs) (filter (λ k. k.head) ys)

pub length-spans : (xs : List Pace) → length (spans xs) ≡ heads xs
length-spans xs = length-map (filter (λ k. k.head) xs) (λ k. 1 + k.pause) ∙ length-filter (λ k. k.head) xs

pub sum-append : (xs ys : List ℕ) → sum (xs ++ ys) ≡ sum xs + sum ys
sum-append xs ys = grind (arith, common_steps)

heads-append : (xs ys : List Pace) → heads (xs ++ ys) ≡ heads xs + heads ys
heads-append xs ys =
    sym (length-spans (xs ++ ys)) ∙ ap length (spans-append xs ys) ∙ length-append (spans xs) (spans ys)
    ∙ ap (λ n. n + length (spans ys)) (length-spans xs) ∙ ap (λ n. heads xs + n) (length-spans ys)

-- a head is one span, and any other operation none
pub spans-head : (y : Pace) → y.head ≡ true → spans (y ∷ []) ≡ (1 + y.pause) ∷ []
spans-head y h = ap (λ b. map (λ (k : Pace). 1 + k.pause) (cond b (y ∷ []) [])) h

pub spans-other : (y : Pace) → y.head ≡ false → spans (y ∷ []) ≡ []
spans-other y h = ap (λ b. map (λ (k : Pace). 1 + k.pause) (cond b (y ∷ []) [])) h

-- the issue cycle of the last operation
abbrev pub last_cycle : List Pace → ℕ
last_cycle ops = sum (take (heads ops - 1) (spans ops))

-- a head adds its pause and 1
pub end-head : (xs : List Pace) (y : Pace) → y.head ≡ true → block_end (xs ++ y ∷ []) ≡ block_end xs + (1 + y.pause)
end-head xs y h =
    let one : sum ((1 + y.pause) ∷ []) ≡ 1 + y.pause = omega arith in
    ap sum (spans-append xs (y ∷ []) ∙ ap (λ s. spans xs ++ s) (spans-head y h))
    ∙ (sum-append (spans xs) ((1 + y.pause) ∷ []) ∙ ap (λ n. block_end xs + n) one)

spans_same : (xs : List Pace) (y : Pace) → y.head ≡ false → spans (xs ++ y ∷ []) ≡ spans xs
spans_same xs y h = spans-append xs (y ∷ []) ∙ ap (λ s. spans xs ++ s) (spans-other y h) ∙ grind (arith, common_steps)

pub end-other : (xs : List Pace) (y : Pace) → y.head ≡ false → block_end (xs ++ y ∷ []) ≡ block_end xs
end-other xs y h = ap sum (spans_same xs y h)

-- a head issues when those before it end
pub last-head : (xs : List Pace) (y : Pace) → y.head ≡ true → last_cycle (xs ++ y ∷ []) ≡ block_end xs
last-head xs y h =
    let all = spans xs ++ (1 + y.pause) ∷ [] in
    let made : spans (xs ++ y ∷ []) ≡ all = spans-append xs (y ∷ []) ∙ ap (λ s. spans xs ++ s) (spans-head y h) in
    let begun : heads (xs ++ y ∷ []) - 1 ≡ length (spans xs) =
    let n = sym (length-spans (xs ++ y ∷ [])) ∙ ap length made in
    omega (arith, n, length-append (spans xs) ((1 + y.pause) ∷ [])) in
    ap (λ n. sum (take n (spans (xs ++ y ∷ [])))) begun ∙ ap (λ s. sum (take (length (spans xs)) s)) made ∙ ap sum (take-append_seam (spans xs) ((1 + y.pause) ∷ []))

-- any other operation issues with the one before it
pub last-other : (xs : List Pace) (y : Pace) → y.head ≡ false → last_cycle (xs ++ y ∷ []) ≡ last_cycle xs
last-other xs y h =
    let same = spans_same xs y h in
    let begun : heads (xs ++ y ∷ []) ≡ heads xs = sym (length-spans (xs ++ y ∷ [])) ∙ ap length same ∙ length-spans xs in
    ap (λ n. sum (take (n - 1) (spans (xs ++ y ∷ [])))) begun ∙ ap (λ s. sum (take (heads xs - 1) s)) same

pub heads-take : (k : ℕ) (xs : List Pace) → heads (take k xs) ≤ heads xs
heads-take k xs = omega (arith, ap heads (take-append-drop k xs), heads-append (take k xs) (drop k xs))

-- the operations before it keep their cycles
issue_same : (xs : List Pace) (y : Pace) (k : ℕ) → k < length xs → issue_cycle (xs ++ y ∷ []) k ≡ issue_cycle xs k
issue_same xs y k below =
    let begun : begun_by (xs ++ y ∷ []) k ≡ begun_by xs k = ap heads (take-append-le (k + 1) xs (y ∷ []) (omega arith)) in
    let few : begun_by xs k - 1 ≤ length (spans xs) = omega (arith, heads-take (k + 1) xs, length-spans xs) in
    ap (λ n. sum (take (n - 1) (spans (xs ++ y ∷ [])))) begun
    ∙ ap (λ s. sum (take (begun_by xs k - 1) s)) (spans-append xs (y ∷ []))
    ∙ ap sum (take-append-le (begun_by xs k - 1) (spans xs) (spans (y ∷ [])) few)

issue_last : (xs : List Pace) (y : Pace) → issue_cycle (xs ++ y ∷ []) (length xs) ≡ last_cycle (xs ++ y ∷ [])
issue_last xs y = ap (λ ops. sum (take (heads ops - 1) (spans (xs ++ y ∷ [])))) (take-append-add xs (y ∷ []) 1)

-- and the last one has its own
pub issue_more : (xs : List Pace) (y : Pace) → issue_cycles (xs ++ y ∷ []) ≡ issue_cycles xs ++ last_cycle (xs ++ y ∷ []) ∷ []
issue_more xs y =
    let all = xs ++ y ∷ [] in
    let n = length xs in
    let long : length all ≡ n + 1 = length-append xs (y ∷ []) in
    let before = map (issue_cycle all) (range_with_len 0 n) in
    let kept : before ≡ issue_cycles xs =
    fill_by_all (issue_cycle xs) before n 0 (length-map-range_with_len (issue_cycle all) 0 n)
    (λ k below. get_or-map-range_with_len (issue_cycle all) 0 n k k 0 below (omega arith) ∙ issue_same xs y k below) in
    ap (λ m. map (issue_cycle all) (range_with_len 0 m)) long
    ∙ map-range_with_len_more (issue_cycle all) 0 n n (omega arith)
    ∙ ap (λ s. s ++ issue_cycle all n ∷ []) kept
    ∙ ap (λ t. issue_cycles xs ++ t ∷ []) (issue_last xs y)

-- the times of the first k words
pub record Timed (words : List ℕ) (k present next : ℕ) (at : List ℕ) : Type 0 where
  pub cycles : at ≡ issue_cycles (map word_pace (take k words))
  pub last : present ≡ last_cycle (map word_pace (take k words))
  pub ends : next ≡ block_end (map word_pace (take k words))
  pub early : next ≤ 32 * k

paces_more : (words : List ℕ) (k : ℕ) → k < length words → map word_pace (take (k + 1) words) ≡ map word_pace (take k words) ++ word_pace (get_or words k 0) ∷ []
paces_more words k below = ap (map word_pace) (take_more words k 0 below) ∙ map-append word_pace (take k words) (get_or words k 0 ∷ [])

-- a word with the head mark
pub timed_head :
    (words : List ℕ) (k present next : ℕ) (at : List ℕ) → Timed words k present next at → k < length words → is_head (get_or words k 0) ≡ true →
    Timed words (k + 1) next (next + (1 + pause_in (get_or words k 0))) (at ++ next ∷ [])
timed_head words k present next at h below head =
    let xs = map word_pace (take k words) in
    let y = word_pace (get_or words k 0) in
    let more = paces_more words k below in
    let this : last_cycle (xs ++ y ∷ []) ≡ next = last-head xs y head ∙ sym h.ends in
    record {
      cycles = ap (λ s. s ++ next ∷ []) h.cycles ∙ ap (λ n. issue_cycles xs ++ n ∷ []) (sym this) ∙ sym (issue_more xs y) ∙ ap issue_cycles (sym more);
      last = sym this ∙ ap last_cycle (sym more);
      ends = ap (λ n. n + (1 + y.pause)) h.ends ∙ sym (end-head xs y head) ∙ ap block_end (sym more);
      early = let e = h.early in omega arith;
    }

-- any other word
pub timed_other :
    (words : List ℕ) (k present next : ℕ) (at : List ℕ) → Timed words k present next at → k < length words → is_head (get_or words k 0) ≡ false →
    Timed words (k + 1) present next (at ++ present ∷ [])
timed_other words k present next at h below head =
    let xs = map word_pace (take k words) in
    let y = word_pace (get_or words k 0) in
    let more = paces_more words k below in
    let this : last_cycle (xs ++ y ∷ []) ≡ present = last-other xs y head ∙ sym h.last in
    record {
      cycles = ap (λ s. s ++ present ∷ []) h.cycles ∙ ap (λ n. issue_cycles xs ++ n ∷ []) (sym this) ∙ sym (issue_more xs y) ∙ ap issue_cycles (sym more);
      last = sym this ∙ ap last_cycle (sym more);
      ends = h.ends ∙ sym (end-other xs y head) ∙ ap block_end (sym more);
      early = let e = h.early in omega arith;
    }

-- the same times under other names
pub timed_at :
    (words : List ℕ) (k present next other later : ℕ) (at more : List ℕ) → Timed words k present next at → other ≡ present → later ≡ next → more ≡ at →
    Timed words k other later more
timed_at words k present next other later at more h same_present same_next same_at =
    subst (λ (n : ℕ). Timed words k n later more) (sym same_present)
    (subst (λ (n : ℕ). Timed words k present n more) (sym same_next)
    (subst (λ (s : List ℕ). Timed words k present next s) (sym same_at) h))
