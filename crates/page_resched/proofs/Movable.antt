-- A good block's delays and rules, as facts on its operations and its times; and that it can be scheduled.
use Rattle.std.proofs.Common.{◌≡◌, ◌≢◌, ℕ, ◌<◌, ◌≤◌, ◌&&◌, false, not, length, refl, sym, ap, subst, ◌∙◌, arith, inl, inr, Some, IsTrue}
use Rattle.std.specs.Prelude.{ℤ, ◌≤ℤ◌, nat_lt, nat_eq, IsSome, Option}
use Rattle.std.specs.List.{list_any}
use Rattle.std.proofs.lemmas.Bool.{cases_Bool, and_cases, or_parts, both_ways, ltb-false, false_from_ne_true, not-false, eqb-true}
use Rattle.tnk_base.proofs.Searches.{none_any}
use Rattle.operation.specs.declared.Guarded.{Guarded}
use Rattle.operation.specs.declared.Place.{Place}
use Rattle.operation.specs.Places.{reads, writes, destinations, is_branch}
use Rattle.machine_desc.specs.Description.{Description, latency_of}
use Rattle.serial_order.specs.Lists.{Among}
use Rattle.serial_order.proofs.Members.{among_range, range_among}
use Rattle.serial_order.proofs.Stuck.{same_before_same_stuck}
use Rattle.timed_meaning.specs.declared.TimedOp.{TimedOp}
use Rattle.two_timings.specs.Timing.{Timing, lands}
use Rattle.latency_deps.specs.declared.rules.BlockRule.TheVariants as rule
use Rattle.latency_deps.specs.Timing.{ops_of, own_timing}
use Rattle.dependences.specs.Before.{is_at_odds}
use Rattle.latency_deps.specs.Breaks.{below, is_branch_at, lands_with, shadows}
use Rattle.dependences.specs.Before.{delay_between}
use Rattle.latency_deps.specs.Rules.{end_of}
use Rattle.latency_deps.specs.Block.{Block, IsGood, timed_at}
use Rattle.latency_deps.specs.Delays.{before_in}
use Rattle.latency_deps.proofs.GoodOrders.{timed_is, before_is, kept, one_branch, none_stuck, apart}
use Rattle.latency_deps.proofs.BranchLast.{branch_last}
use Rattle.dependences.proofs.Sound.{feed_at}
use Rattle.latency_deps.proofs.Meetings as meetings
use Rattle.list_sched.specs.Schedule.{IsProblem, is_before}
use Rattle.list_sched.proofs.Serial.{some_delay}
use Rattle.latency_deps.specs.Delays.{delay_among}
use Rattle.page_resched.specs.Block.{problem}
use Rattle.page_resched.specs.Laws.{IsMovable, BlocksAreProblems}
use Rattle.page_resched.proofs.Settings.{Wait, KeepsTimes}
use Rattle.page_resched.proofs.Delays.{there, never_itself, before_there, no_longer, is_short}
use Rattle.page_resched.proofs.Moved.{IsBlock, unit_branch}

module _ (b : Block) (good : IsGood b) where
  abbrev n : ℕ
  n = length b.words

  abbrev ops : ℕ → Guarded
  ops = ops_of b.words

  abbrev own : Timing
  own = own_timing good.description b.words

  abbrev end : ℕ
  end = end_of b.words

  one : (i j : ℕ) → Among i own.listed → Among j own.listed → IsTrue (is_branch (ops i).op) → IsTrue (is_branch (ops j).op) → i ≡ j
  one i j a c u v = one_branch b good i j (range_among n i a) (range_among n j c) u v

  ends : (i : ℕ) → i < n → IsTrue (is_branch (ops i).op) → lands ops own i ≡ end
  ends i lt u =
      elim (and_cases (is_branch_at ops i) (not (nat_eq (lands ops own i) end)) (kept b good rule.BranchEnd i lt)) [
        | inl f ↦ absurd (both_ways (is_branch_at ops i) f u)
        | inr f ↦ eqb-true (lands ops own i) end (not-false (nat_eq (lands ops own i) end) f)
      ]

  drains : (i : ℕ) → i < n → lands ops own i ≤ end
  drains i lt = elim (cases_Bool (is_branch_at ops i)) [
    | inl u ↦ (let e = ends i lt u in omega arith)
    | inr v ↦ elim (and_cases (not (is_branch_at ops i)) (nat_lt end (lands ops own i)) (kept b good rule.Drain i lt)) [
      | inl f ↦ absurd (both_ways (not (is_branch_at ops i)) f (ap not v))
      | inr f ↦ ltb-false end (lands ops own i) f
    ]
  ]

  shadow : (i c : ℕ) (x : Place) → i < n → c < n → i ≢ c → IsTrue (is_branch (ops c).op) → IsTrue (writes (ops i).op x) → IsTrue (reads (ops c) x) → lands ops own i ≤ own.at c
  shadow i c x lt below_n ne u w r =
      let no : is_branch_at ops i ≡ false = false_from_ne_true (is_branch_at ops i) (λ v. ne (one_branch b good i c lt below_n v u)) in
      let any = list_any (reads (ops c)) (destinations (ops i).op) in
      let late = nat_lt (own.at c) (lands ops own i) in
      elim (and_cases (not (is_branch_at ops i)) (list_any (shadows ops own i) (below n)) (kept b good rule.BranchShadow i lt)) [
        | inl f ↦ absurd (both_ways (not (is_branch_at ops i)) f (ap not no))
        | inr f ↦ elim (and_cases (is_branch_at ops c) (any && late) (none_any (shadows ops own i) n c f below_n)) [
          | inl q ↦ absurd (both_ways (is_branch_at ops c) q u)
          | inr q ↦ elim (and_cases any late q) [
            | inl s ↦ absurd (both_ways any s (feed_at (ops i) (ops c) x w r))
            | inr s ↦ ltb-false (own.at c) (lands ops own i) s
          ]
        ]
      ]

  pub keeps_times : KeepsTimes ops own end
  keeps_times = record {
    one_branch = one;
    drain = λ i a. drains i (range_among n i a);
    branch_end = λ i a u. ends i (range_among n i a) u;
    branch_shadow = λ i c x a d ne u w r. shadow i c x (range_among n i a) (range_among n c d) ne u w r;
    landing = λ i j x a c ne w. apart ops own n (kept b good rule.Landing) i j x (range_among n i a) (range_among n j c) ne w;
    dests = λ i a. (or_parts (list_any (lands_with ops own i) (below i)) (is_at_odds (ops i).op) (kept b good rule.Landing i (range_among n i a))).1;
  }

module _ (b : Block) (g : Description) (m : IsMovable b g) where
  abbrev count : ℕ
  count = length b.words

  abbrev d : ℕ → ℕ → Option ℤ
  d = delay_among g b

  abbrev good : IsGood b
  good = m.good

  both : (i j : ℕ) → IsSome (d i j) → (i < count) × (j < count)
  both i j h = let r = some_delay (d i j) h in let q = there g b i j r.0 r.1 in (q.0, q.1)

  -- the delay is that of the operations with their own times
  delay_is : (i j : ℕ) (x : ℤ) → d i j ≡ Some x → delay_between (latency_of g) i j (timed_at b i) (timed_at b j) ≡ Some x
  delay_is i j x e = (there g b i j x e).2

  op_at : (i : ℕ) → i < count → (timed_at b i).guarded ≡ ops_of b.words i
  op_at i lt = ap (λ (o : TimedOp). o.guarded) (timed_is b good i lt)

  longest : (i j : ℕ) (x : ℤ) → d i j ≡ Some x → (w : ℤ) → Wait (latency_of g) (ops_of b.words i) (ops_of b.words j) w → w ≤ℤ x
  longest i j x e w h =
      let q = there g b i j x e in
      no_longer (latency_of g) i j (timed_at b i) (timed_at b j) x (delay_is i j x e) w
      (subst (λ o. Wait (latency_of g) o (timed_at b j).guarded w) (sym (op_at i q.0))
      (subst (λ o. Wait (latency_of g) (ops_of b.words i) o w) (sym (op_at j q.1)) h))

  pub is_problem : IsProblem (problem g b)
  is_problem = record {
    some = (let s = good.some in omega arith);
    machine = m.machine;
    few = good.few;
    inside = λ i j x e. let q = there g b i j x e in (q.0, q.1, never_itself g b i j x q.2);
    short = λ i j x e. is_short g m.machine i j (timed_at b i) (timed_at b j) x (delay_is i j x e);
    ordered = same_before_same_stuck (is_before (problem g b)) (before_in b) count (before_there g b) ∙ none_stuck b good;
    units = m.units;
    one_branch = λ i j lt below_n u v. one_branch b good i j lt below_n (unit_branch (ops_of b.words i).op u) (unit_branch (ops_of b.words j).op v);
    branch_last = λ i j u h.
        let q = both i j h in
        both_ways (before_in b i j)
        (branch_last b good i j q.0 q.1 (ap (λ (o : Guarded). is_branch o.op) (op_at i q.0) ∙ unit_branch (ops_of b.words i).op u))
        (sym (before_there g b i j q.0 q.1) ∙ h);
  }

  pub is_block : IsBlock (ops_of b.words) (own_timing good.description b.words) (end_of b.words) g count d
  is_block = record {
    numbers = λ k. (range_among count k, among_range count k);
    times = keeps_times b good;
    are = record {
      decided = λ i j a c ne.
          let lt = range_among count i a in
          let below_n = range_among count j c in
          let same = before_there g b i j lt below_n ∙ before_is b good i j lt below_n in
          let q = meetings.before_decided (ops_of b.words) (own_timing good.description b.words) count refl i j lt below_n in
          (λ h. (q.0 (sym same ∙ h)).1, λ h. same ∙ q.1 (ne, h));
      greatest = longest;
    };
    ok = is_problem;
  }

pub blocks_are_problems : BlocksAreProblems
blocks_are_problems = is_problem
