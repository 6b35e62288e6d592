-- The cycles of a run, block by block.
use Rattle.std.proofs.Common.{◌≡◌, ◌≢◌, ℕ, zero, suc, ◌+◌, ◌-◌, ◌<◌, List, [], ◌∷◌, length, refl, sym, ap, subst, ◌∙◌, Option, Some, None, MatchOption, zero-add, add-zero, arith}
use Rattle.std.proofs.lemmas.List.FromFn.{sum_by-map-range_with_len_more}
use Rattle.std.specs.Option.{ForSome}
use Rattle.operation.specs.declared.End.{End}
use Rattle.operation.specs.declared.End.TheVariants as end
use Rattle.operation.specs.declared.Trap.{Trap}
use Rattle.timed_meaning.specs.declared.Answer.{Answer}
use Rattle.timed_meaning.specs.declared.TimedOp.{TimedOp}
use Rattle.timed_meaning.specs.Values.{State}
use Rattle.timed_meaning.specs.Block.{Start, Progress, Ran, Through, Stopped, Ending, Ended, Trapped, fresh, act, issued, run, ending, block}
use Rattle.timed_meaning.specs.Program.{Program, Meaning, Next, Goes, Ends, advance, after, mean}
use Rattle.timed_meaning.specs.Cycles.{cycles_at, cycles_after, cycles, TakesNoMoreOnceEnded}
use Rattle.timed_meaning.specs.Evaluator.{ended_at}
use Rattle.timed_meaning.proofs.Afterwards.{after-suc, stands, stands_from, goes_on_from_after_lem, ends_by_its_bound_lem}
use Rattle.timed_meaning.proofs.Running.{ends_there}

-- ---- the operation that traps is one of the block's

-- a run that stops has issued fewer operations than that
abbrev StopsBelow : ℕ → Ran → Type 0
StopsBelow n (Through p) = Unit {0}
StopsBelow n (Stopped t p) = p.count < n

run_stops : (c : Start) (ks : List TimedOp) (p : Progress) → StopsBelow (p.count + length ks) (run c ks p)
run_stops c [] p = tt
run_stops c (k ∷ ks) p = go (subst (λ n. StopsBelow n (run c ks (issued k (act c k p) p))) more (run_stops c ks (issued k (act c k p) p))) (act c k p).trap
  where
    more : p.count + 1 + length ks ≡ p.count + suc (length ks)
    more = omega arith

    go : StopsBelow (p.count + suc (length ks)) (run c ks (issued k (act c k p) p)) → (o : Option Trap) → StopsBelow (p.count + suc (length ks)) (elim o [ None ↦ run c ks (issued k (act c k p) p) | Some t ↦ Stopped t p ])
    go h None = h
    go h (Some t) = omega arith

abbrev EndsBelow : ℕ → Ending → Type 0
EndsBelow n (Ended s answer) = Unit {0}
EndsBelow n (Trapped t k output memory) = k < n

block_stops : (c : Start) (ks : List TimedOp) → EndsBelow (length ks) (block c ks)
block_stops c ks = go (run c ks (fresh c.state)) (run_stops c ks (fresh c.state))
  where
    go : (r : Ran) → StopsBelow (0 + length ks) r → EndsBelow (length ks) (ending c.state r)
    go (Through p) h = tt
    go (Stopped t p) h = omega (arith, h)

pub traps_inside : (trap : Option Trap) (answer : Answer) (n : ℕ) (s : State) (c : Start) (ks : List TimedOp) → ended_at trap answer n s ≡ block c ks → ForSome trap (λ t. n < length ks)
traps_inside trap answer n s c ks e = go trap e
  where
    go : (o : Option Trap) → ended_at o answer n s ≡ block c ks → (t : Trap) → o ≡ Some t → n < length ks
    go None e t h = absurd (let no : ⊥ = cc in no)
    go (Some u) e t h = subst (EndsBelow (length ks)) (sym e) (block_stops c ks)

-- ---- one block more

module _ (p : Program) (input : List ℕ) (limit : ℕ) where
  cycles-more : (k : ℕ) → cycles p input limit (k + 1) ≡ cycles p input limit k + cycles_after p input limit k
  cycles-more k = sum_by-map-range_with_len_more (λ x. x) (cycles_after p input limit) 0 k k (zero-add k)

  abbrev cycles_from : Option (State × ℕ) → ℕ
  cycles_from o = elim o [ None ↦ 0 | Some at ↦ cycles_at p input limit at.1 at.0 ]

  -- the cycles so far, and those of the next block
  pub cycles_here : (k entry : ℕ) (s : State) (sofar here : ℕ) → after p input limit k ≡ Some (s, entry) → sofar ≡ cycles p input limit k → here ≡ cycles_at p input limit entry s → sofar + here ≡ cycles p input limit (k + 1)
  cycles_here k entry s sofar here stands before now =
      ap (λ n. n + here) before
      ∙ ap (λ n. cycles p input limit k + n) (now ∙ sym (ap cycles_from stands))
      ∙ sym (cycles-more k)

  -- what stands after a block
  stands_after : (k entry : ℕ) (s : State) (x : Next) → after p input limit k ≡ Some (s, entry) → x ≡ advance p input limit entry s → after p input limit (k + 1) ≡ stands x
  stands_after k entry s x here came =
      let one : k + 1 ≡ suc k = omega arith in
      ap (after p input limit) one ∙ after-suc p input limit k ∙ ap (stands_from p input limit) here ∙ ap stands (sym came)

  pub stands_on : (k entry : ℕ) (s : State) (to : ℕ) (s' : State) → after p input limit k ≡ Some (s, entry) → Goes to s' ≡ advance p input limit entry s → after p input limit (k + 1) ≡ Some (s', to)
  stands_on k entry s to s' here came = stands_after k entry s (Goes to s') here came

  -- ---- after the end

  none_later : (n m : ℕ) → after p input limit n ≡ None → after p input limit (n + m) ≡ None
  none_later n zero none = ap (after p input limit) (add-zero n) ∙ none
  none_later n (suc m) none =
      let one : n + suc m ≡ suc (n + m) = omega arith in
      ap (after p input limit) one ∙ after-suc p input limit (n + m) ∙ ap (stands_from p input limit) (none_later n m none)

  no_more : (n m : ℕ) → after p input limit n ≡ None → cycles p input limit (n + m) ≡ cycles p input limit n
  no_more n zero none = ap (cycles p input limit) (add-zero n)
  no_more n (suc m) none =
      let one : n + suc m ≡ n + m + 1 = omega arith in
      ap (cycles p input limit) one
      ∙ cycles-more (n + m)
      ∙ ap (λ k. cycles p input limit (n + m) + k) (ap cycles_from (none_later n m none))
      ∙ add-zero (cycles p input limit (n + m))
      ∙ no_more n m none

  -- the cycles of a run whose next block ends it
  pub cycles_end : (bound k entry : ℕ) (s : State) (e : End) (j : ℕ) (output memory : List ℕ) → k < bound → after p input limit k ≡ Some (s, entry) → Ends e j output memory ≡ advance p input limit entry s → cycles p input limit (k + 1) ≡ cycles p input limit bound
  cycles_end bound k entry s e j output memory lt here came =
      let all : k + 1 + (bound - (k + 1)) ≡ bound = omega arith in
      sym (no_more (k + 1) (bound - (k + 1)) (stands_after k entry s (Ends e j output memory) here came)) ∙ ap (cycles p input limit) all

  -- what a run comes to whose next block ends it
  pub means_end : (bound k entry : ℕ) (s : State) (e : End) (j : ℕ) (output memory : List ℕ) → k < bound → after p input limit k ≡ Some (s, entry) → Ends e j output memory ≡ advance p input limit entry s →
      ◌≡◌ {A = Meaning} (record { end = e; blocks = k + j; output = output; memory = memory }) (mean p input limit bound)
  means_end bound k entry s e j output memory lt here came =
      let all : k + (bound - k) ≡ bound = omega arith in
      ends_there p input limit bound k entry s e j output memory lt came
      ∙ sym (goes_on_from_after_lem p input limit k (bound - k) s entry here)
      ∙ ap (mean p input limit) all

  -- what a run comes to that ends by its bound
  pub means_bound : (bound entry : ℕ) (s : State) → after p input limit bound ≡ Some (s, entry) → ◌≡◌ {A = Meaning} (record { end = end.Bound; blocks = bound; output = s.output; memory = s.memory }) (mean p input limit bound)
  means_bound bound entry s here =
      sym (goes_on_from_after_lem p input limit bound 0 s entry here) ∙ ap (mean p input limit) (add-zero bound)

pub takes_no_more_lem : TakesNoMoreOnceEnded
takes_no_more_lem p input limit n m ended = go (after p input limit n) refl (ends_by_its_bound_lem p input limit n)
  where
    go : (o : Option (State × ℕ)) → after p input limit n ≡ o → MatchOption o ((mean p input limit n).end ≢ end.Bound) (λ at. mean p input limit n ≡ record { end = end.Bound; blocks = n; output = at.0.output; memory = at.0.memory }) → cycles p input limit (n + m) ≡ cycles p input limit n
    go None none h = no_more p input limit n m none
    go (Some at) some h = absurd (ended (ap (λ (m : Meaning). m.end) h))
