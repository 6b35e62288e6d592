-- Blocks whose operations issue one by one, each when the one before it has landed.
use Rattle.std.proofs.Common.{◌≡◌, ℕ, suc, ◌+◌, ◌-◌, ◌<◌, ◌≤◌, ◌^◌, true, false, cond, List, [], ◌∷◌, length, get_or, take, refl, sym, ap, ◌∙◌, arith, inl, inr}
use Rattle.std.specs.Prelude.{map, filter, sum, All}
use Rattle.std.proofs.lemmas.Bool.{cases_lt}
use Rattle.std.proofs.lemmas.List.{length-map, length-take-le, get_or-map, take_all}
use Rattle.std.proofs.lemmas.List.Elements.{All-take}
use Rattle.std.proofs.lemmas.List.Sums.{sum_by_more}
use Rattle.operation.specs.declared.Guarded.{Guarded}
use Rattle.operation.specs.Places.{is_branch, latency_kind}
use Rattle.machine_desc.specs.Description.{latency_of}
use Rattle.machine_desc.specs.BuiltIn.{t1}
use Rattle.block_table.specs.Rows.{Rows}
use Rattle.list_encoding.specs.Word.{HasReading}
use Rattle.list_encoding.specs.Times.{Pace, word_pace, spans, begun_by, issue_cycle, block_end}
use Rattle.list_encoding.proofs.Issues.{length-spans}
use Rattle.list_encoding.proofs.Bounds.{issues_rise}
use Rattle.list_encoding.proofs.GuardedIn.{operation_of_reading}
use Rattle.two_timings.specs.Timing.{Timing, lands}
use Rattle.dependences.specs.Before.{is_at_odds}
use Rattle.latency_deps.specs.Timing.{ops_of, own_timing}
use Rattle.latency_deps.specs.Breaks.{prepares_elsewhere}
use Rattle.latency_deps.specs.Rules.{end_of}
use Rattle.workload.proofs.Readings.{serial, latency_range}

-- the word of an operation that issues alone, of which no rule on single operations is broken
pub record IsSerial (word : ℕ) : Type 0 where
  pub guarded : Guarded
  pub read : HasReading word (serial guarded)
  pub small : word < 2 ^ 64
  pub target : (rows : Rows) → prepares_elsewhere rows guarded.op ≡ false
  pub odds : is_at_odds guarded.op ≡ false

-- 1 to 512 such words, of which only the last may be a branch
pub record AreSerial (words : List ℕ) : Type 0 where
  pub some : 1 ≤ length words
  pub few : length words ≤ 512
  pub each : (k : ℕ) → k < length words → IsSerial (get_or words k 0)
  pub stays : (k : ℕ) → suc k < length words → is_branch (ops_of words k).op ≡ false

-- ---- the times of heads

abbrev AreHeads : List Pace → Type 0
AreHeads ps = All (λ p. p.head ≡ true) ps

all_spans : (ps : List Pace) → AreHeads ps → spans ps ≡ map (λ p. 1 + p.pause) ps
all_spans [] h = refl
all_spans (p ∷ ps) h =
    ap (λ b. map (λ (k : Pace). 1 + k.pause) (cond b (p ∷ filter (λ k. k.head) ps) (filter (λ k. k.head) ps))) (h 0 p (omega arith))
    ∙ ap (λ s. (1 + p.pause) ∷ s) (all_spans ps (λ i d l. h (suc i) d (omega arith)))

-- the cycles of the first k
abbrev cycles : List Pace → ℕ → ℕ
cycles ps k = sum (take k (map (λ (p : Pace). 1 + p.pause) ps))

begun : (ps : List Pace) → AreHeads ps → (k : ℕ) → k < length ps → begun_by ps k ≡ k + 1
begun ps h k lt =
    sym (length-spans (take (k + 1) ps))
    ∙ ap length (all_spans (take (k + 1) ps) (All-take (λ (p : Pace). p.head ≡ true) (k + 1) ps h))
    ∙ length-map (take (k + 1) ps) (λ p. 1 + p.pause)
    ∙ length-take-le (k + 1) ps (omega arith)

issues_at : (ps : List Pace) → AreHeads ps → (k : ℕ) → k < length ps → issue_cycle ps k ≡ cycles ps k
issues_at ps h k lt =
    let n : begun_by ps k - 1 ≡ k = (let b = begun ps h k lt in omega arith) in
    ap (λ m. sum (take m (spans ps))) n ∙ ap (λ s. sum (take k s)) (all_spans ps h)

ends_at : (ps : List Pace) → AreHeads ps → block_end ps ≡ cycles ps (length ps)
ends_at ps h =
    ap sum (all_spans ps h)
    ∙ ap sum (sym (take_all (length ps) (map (λ (p : Pace). 1 + p.pause) ps)
    (let n = length-map ps (λ (p : Pace). 1 + p.pause) in omega arith)))

cycles_more : (ps : List Pace) (k : ℕ) (d : Pace) → k < length ps → cycles ps (k + 1) ≡ cycles ps k + (1 + (get_or ps k d).pause)
cycles_more ps k d lt =
    let f = λ (p : Pace). 1 + p.pause in
    let n = length-map ps f in
    let here : get_or (map f ps) k 0 ≡ 1 + (get_or ps k d).pause = get_or-map f ps k d 0 lt in
    sum_by_more (λ n. n) (map f ps) k 0 (omega arith) ∙ ap (λ m. cycles ps k + m) here

-- ---- the times of a block

module _ (words : List ℕ) (s : AreSerial words) where
  abbrev pub ops : ℕ → Guarded
  ops = ops_of words

  abbrev pub times : Timing
  times = own_timing t1 words

  abbrev paces : List Pace
  paces = map word_pace words

  as_many : length paces ≡ length words
  as_many = length-map words word_pace

  -- the operation of a word is that of its reading
  pub op_is : (k : ℕ) (lt : k < length words) → ops k ≡ (s.each k lt).guarded
  op_is k lt = operation_of_reading (get_or words k 0) (serial (s.each k lt).guarded) (s.each k lt).read

  pace_at : (k : ℕ) (d : Pace) → k < length words → get_or paces k d ≡ word_pace (get_or words k 0)
  pace_at k d lt = get_or-map word_pace words k 0 d lt

  heads : AreHeads paces
  heads k d lt =
      let n = as_many in
      let l : k < length words = omega arith in
      ap (λ (p : Pace). p.head) (pace_at k d l) ∙ (s.each k l).read.head

  abbrev latency : ℕ → ℕ
  latency k = latency_of t1 (latency_kind (ops k).op)

  span_is : (k : ℕ) (d : Pace) → k < length words → 1 + (get_or paces k d).pause ≡ latency k
  span_is k d lt =
      let g = (s.each k lt).guarded in
      let r = latency_range g.op in
      let p : (get_or paces k d).pause ≡ latency_of t1 (latency_kind g.op) - 1 = ap (λ (p : Pace). p.pause) (pace_at k d lt)
      ∙ (s.each k lt).read.pause in
      let q : latency k ≡ latency_of t1 (latency_kind g.op) = ap (λ (o : Guarded). latency_of t1 (latency_kind o.op)) (op_is k lt) in
      omega arith

  issue_is : (k : ℕ) → k < length words → times.at k ≡ cycles paces k
  issue_is k lt = let n = as_many in issues_at paces heads k (omega arith)

  -- an operation lands where the next one issues
  lands_is : (k : ℕ) → k < length words → lands ops times k ≡ cycles paces (k + 1)
  lands_is k lt =
      let n = as_many in
      let d : Pace = record { head = true; pause = 0 } in
      let a = issue_is k lt in
      let m = cycles_more paces k d (omega arith) in
      let q = span_is k d lt in
      omega arith

  -- it lands after it issues
  pub lands_late : (k : ℕ) → times.at k < lands ops times k
  lands_late k = let r = latency_range (ops k).op in omega arith

  -- and before each later one issues
  pub in_turn : (i j : ℕ) → i < j → j < length words → lands ops times i ≤ times.at j
  in_turn i j lt below =
      let here = lands_is i (omega arith) in
      let next = issue_is (i + 1) (omega arith) in
      let rise : times.at (i + 1) ≤ times.at j = issues_rise paces (i + 1) j (omega arith) in
      omega arith

  -- the last one lands at the block's end
  pub last_at_end : (k : ℕ) → suc k ≡ length words → lands ops times k ≡ end_of words
  last_at_end k e =
      let n = as_many in
      let all : k + 1 ≡ length paces = omega arith in
      lands_is k (omega arith) ∙ ap (cycles paces) all ∙ sym (ends_at paces heads)

  -- and all others before it
  pub by_end : (k : ℕ) → k < length words → lands ops times k ≤ end_of words
  by_end k lt =
      let m = length words - 1 in
      let last = last_at_end m (omega arith) in
      let late = lands_late m in
      elim (cases_lt k m) [
        | inl before ↦ (let turn = in_turn k m before (omega arith) in omega arith)
        | inr after ↦ (
            let same : k ≡ m = omega arith in
            let e : lands ops times k ≡ lands ops times m = ap (lands ops times) same in omega arith)
      ]
