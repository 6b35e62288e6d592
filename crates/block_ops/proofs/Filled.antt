-- The operations of the first words of a block, with their times.
use Rattle.std.proofs.Common.{◌≡◌, ℕ, ◌+◌, ◌-◌, ◌*◌, ◌<◌, ◌≤◌, ◌⊎◌, inl, inr, List, length, map, take, drop, set, get_or, refl, ap, sym, subst, ◌∙◌, true, false, arith, length-set, get_or-set_same, get_or-set_other}
use Rattle.std.specs.Prelude.{sum}
use Rattle.std.proofs.lemmas.Bool.{cases_lt}
use Rattle.std.proofs.lemmas.List.{take-append-le, take-append-drop, take-map, take_all}
use Rattle.std.proofs.lemmas.List.FromFn.{fill_by_all}
use Rattle.operation.specs.declared.Guarded.{Guarded}
use Rattle.machine_desc.specs.Description.{Description}
use Rattle.list_encoding.specs.Word.{is_head, pause_in}
use Rattle.list_encoding.specs.Reading.{halt}
use Rattle.list_encoding.specs.Times.{Pace, word_pace, spans, issue_cycle, issue_cycles, block_end}
use Rattle.list_encoding.proofs.Issues.{heads, last_cycle, spans-append, length-spans, Timed, timed_head, timed_other}
use Rattle.timed_meaning.specs.declared.TimedOp.{TimedOp}
use Rattle.two_timings.specs.Timing.{timed, timed_ops}
use Rattle.latency_deps.specs.Timing.{ops_of, own_timing}
use Rattle.latency_deps.specs.Rules.{end_of}

-- an operation issues in the last cycle of the operations up to it
cycle_is : (ops : List Pace) (k : ℕ) → issue_cycle ops k ≡ last_cycle (take (k + 1) ops)
cycle_is ops k =
    let xs = take (k + 1) ops in
    let ys = drop (k + 1) ops in
    ap (λ l. sum (take (heads xs - 1) (spans l))) (sym (take-append-drop (k + 1) ops))
    ∙ ap (λ s. sum (take (heads xs - 1) s)) (spans-append xs ys)
    ∙ ap sum (take-append-le (heads xs - 1) (spans xs) (spans ys) (omega (arith, length-spans xs)))

same_op : (x y : TimedOp) → x.guarded ≡ y.guarded → x.at ≡ y.at → x.latency ≡ y.latency → x ≡ y
same_op x y e f h =
    let made : Guarded → ℕ → ℕ → TimedOp = λ o n l. record { guarded = o; at = n; latency = l } in
    ap (λ o. made o x.at x.latency) e ∙ ap (λ n. made y.guarded n x.latency) f ∙ ap (made y.guarded y.at) h

module _ (g : Description) (words : List ℕ) where
  abbrev op_in : ℕ → TimedOp
  op_in k = timed (ops_of words) (own_timing g words) k

  -- the first k operations have their times; the operation k issues in the present cycle or in the next
  pub record IsTimedTo (k present next : ℕ) (ops : List TimedOp) : Type 0 where
    pub last : present ≡ last_cycle (map word_pace (take k words))
    pub ends : next ≡ block_end (map word_pace (take k words))
    pub early : next ≤ 32 * k
    pub size : length ops ≡ length words
    pub made : (j : ℕ) (d : TimedOp) → j < k → get_or ops j d ≡ op_in j

  times : (k present next : ℕ) (ops : List TimedOp) → IsTimedTo k present next ops → Timed words k present next (issue_cycles (map word_pace (take k words)))
  times k present next ops h = record { cycles = refl; last = h.last; ends = h.ends; early = h.early }

  pub begun : (ops : List TimedOp) → length ops ≡ length words → IsTimedTo 0 0 0 ops
  begun ops size = record { last = refl; ends = refl; early = omega arith; size = size; made = λ j d lt. absurd (omega arith) }

  -- one operation more
  one_more : (k present next : ℕ) (at : List ℕ) (old : List TimedOp) (op : TimedOp) → k < length words → Timed words (k + 1) present next at → length old ≡ length words →
      ((j : ℕ) (d : TimedOp) → j < k → get_or old j d ≡ op_in j) → op.guarded ≡ (op_in k).guarded → op.at ≡ present → op.latency ≡ (op_in k).latency → IsTimedTo (k + 1) present next (set old k op)
  one_more k present next at old op below h size made guarded cycle latency =
      record {
        last = h.last;
        ends = h.ends;
        early = h.early;
        size = length-set old k op ∙ size;
        made = λ j d lt. go j d lt (cases_lt j k);
      }
    where
      this : op ≡ op_in k
      this =
          same_op op (op_in k) guarded (cycle ∙ h.last ∙ ap last_cycle (sym (take-map word_pace (k + 1) words)) ∙ sym (cycle_is (map word_pace words) k)) latency

      go : (j : ℕ) (d : TimedOp) → j < k + 1 → (j < k) ⊎ (k ≤ j) → get_or (set old k op) j d ≡ op_in j
      go j d lt (inl less) = get_or-set_other old k j op d (λ e. omega arith) ∙ made j d less
      go j d lt (inr more) =
          let same : k ≡ j = omega arith in
          subst (λ i. get_or (set old k op) i d ≡ op_in i) same (get_or-set_same old k op d (omega arith) ∙ this)

  pub more_head : (k present next : ℕ) (old : List TimedOp) (op : TimedOp) → k < length words → is_head (get_or words k 0) ≡ true → IsTimedTo k present next old →
      op.guarded ≡ (op_in k).guarded → op.at ≡ next → op.latency ≡ (op_in k).latency → IsTimedTo (k + 1) next (next + (1 + pause_in (get_or words k 0))) (set old k op)
  more_head k present next old op below head h guarded cycle latency =
      one_more k next (next + (1 + pause_in (get_or words k 0))) _ old op below (timed_head words k present next _ (times k present next old h) below head) h.size h.made guarded cycle latency

  pub more_other : (k present next : ℕ) (old : List TimedOp) (op : TimedOp) → k < length words → is_head (get_or words k 0) ≡ false → IsTimedTo k present next old →
      op.guarded ≡ (op_in k).guarded → op.at ≡ present → op.latency ≡ (op_in k).latency → IsTimedTo (k + 1) present next (set old k op)
  more_other k present next old op below head h guarded cycle latency =
      one_more k present next _ old op below (timed_other words k present next _ (times k present next old h) below head) h.size h.made guarded cycle latency

  -- all of them
  pub all_ops : (k present next : ℕ) (ops : List TimedOp) → IsTimedTo k present next ops → length words ≤ k → ops ≡ timed_ops (ops_of words) (own_timing g words)
  all_ops k present next ops h all = fill_by_all op_in ops (length words) (record { guarded = halt; at = 0; latency = 0 }) h.size (λ j lt. h.made j _ (omega arith))

  pub end_is : (k present next : ℕ) (ops : List TimedOp) → IsTimedTo k present next ops → length words ≤ k → next ≡ end_of words
  end_is k present next ops h all = h.ends ∙ ap (λ l. block_end (map word_pace l)) (take_all k words all)
