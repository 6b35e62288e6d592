-- A run and the state after some of its blocks.
use Rattle.std.proofs.Common.{◌≡◌, ◌≢◌, ℕ, zero, suc, ◌+◌, List, refl, sym, ap, ◌∙◌, Option, Some, None, MatchOption, zero-add, add-zero, arith}
use Rattle.operation.specs.declared.End.TheVariants as end
use Rattle.operation.specs.declared.TrapKind.TheVariants.{BadTarget}
use Rattle.timed_meaning.specs.declared.Answer.TheVariants.{GoOn, GoTo, Stop}
use Rattle.timed_meaning.specs.Values.{State}
use Rattle.timed_meaning.specs.Block.{Ending, Ended, Trapped, block}
use Rattle.timed_meaning.specs.Program.{Program, Meaning, Next, Goes, Ends, first_state, block_at, follows, advance, after, mean, mean_from, GoesOnFromAfter, EndsByItsBound}

same_inside : (x y : State × ℕ) → Some x ≡ Some y → x ≡ y
same_inside x y e = cc

-- ---- one block

-- the state and the entry, where the program goes on
abbrev pub stands : Next → Option (State × ℕ)
stands (Goes to s) = Some (s, to)
stands (Ends e j out mem) = None

module _ (p : Program) (input : List ℕ) (limit : ℕ) where
  -- the run of the rest, by what comes of the next block
  abbrev rest : ℕ → ℕ → Next → Meaning
  rest n k (Goes to s) = mean_from p input limit n (k + 1) to s
  rest n k (Ends e j out mem) = record { end = e; blocks = k + j; output = out; memory = mem }

  rest_of : (n k entry : ℕ) (s : State) → mean_from p input limit (suc n) k entry s ≡ rest n k (advance p input limit entry s)
  rest_of n k entry s = elim (advance p input limit entry s) as (λ x. (elim x [ Goes to s' ↦ mean_from p input limit n (k + 1) to s' | Ends e j out mem ↦ record { end = e; blocks = k + j; output = out; memory = mem } ]) ≡ rest n k x) [ Goes to s' ↦ refl | Ends e j out mem ↦ refl ]

  abbrev pub stands_from : Option (State × ℕ) → Option (State × ℕ)
  stands_from None = None
  stands_from (Some at) = stands (advance p input limit at.1 at.0)

  stands_is : (x : Next) → ◌≡◌ {A = Option (State × ℕ)} (elim x [ Goes entry s ↦ Some (s, entry) | Ends e k out mem ↦ None ]) (stands x)
  stands_is (Goes to s) = refl
  stands_is (Ends e j out mem) = refl

  pub after-suc : (b : ℕ) → after p input limit (suc b) ≡ stands_from (after p input limit b)
  after-suc b = go (after p input limit b)
    where
      go : (o : Option (State × ℕ)) → ◌≡◌ {A = Option (State × ℕ)} (elim o [ None ↦ None | Some at ↦ elim (advance p input limit at.1 at.0) [ Goes entry s ↦ Some (s, entry) | Ends e k out mem ↦ None ] ]) (stands_from o)
      go None = refl
      go (Some at) = stands_is (advance p input limit at.1 at.0)

  -- ---- a run of the rest

  goes_on_lem : (b n : ℕ) (s : State) (entry : ℕ) → after p input limit b ≡ Some (s, entry) → mean p input limit (b + n) ≡ mean_from p input limit n b entry s
  goes_on_lem zero n s entry e =
      ap (λ (m : ℕ). mean p input limit m) (zero-add n)
      ∙ ap (λ (at : State × ℕ). mean_from p input limit n 0 at.1 at.0) (same_inside (first_state p, p.entry) (s, entry) e)
  goes_on_lem (suc b) n s entry e = go (goes_on_lem b (suc n)) (after p input limit b) refl (sym (after-suc b) ∙ e)
    where
      from : (at : State × ℕ) (x : Next) → mean p input limit (b + suc n) ≡ rest n b x → stands x ≡ Some (s, entry) → mean p input limit (suc b + n) ≡ mean_from p input limit n (suc b) entry s
      from at (Goes to s') h k =
          let same : suc b + n ≡ b + suc n = omega arith in
          let one : b + 1 ≡ suc b = omega arith in
          ap (λ (m : ℕ). mean p input limit m) same
          ∙ h
          ∙ ap (λ (m : ℕ). mean_from p input limit n m to s') one
          ∙ ap (λ (at : State × ℕ). mean_from p input limit n (suc b) at.1 at.0) (same_inside (s', to) (s, entry) k)
      from at (Ends x j out mem) h k = absurd (let no : ⊥ = cc in no)

      go : ((s : State) (entry : ℕ) → after p input limit b ≡ Some (s, entry) → mean p input limit (b + suc n) ≡ mean_from p input limit (suc n) b entry s) → (o : Option (State × ℕ)) → after p input limit b ≡ o → stands_from o ≡ Some (s, entry) → mean p input limit (suc b + n) ≡ mean_from p input limit n (suc b) entry s
      go ih None h k = absurd (let no : ⊥ = cc in no)
      go ih (Some at) h k = from at (advance p input limit at.1 at.0) (ih at.0 at.1 h ∙ rest_of n b at.1 at.0) k

pub goes_on_from_after_lem : GoesOnFromAfter
goes_on_from_after_lem p input limit b n s entry e = goes_on_lem p input limit b n s entry e

-- ---- the end

-- a block ends the program by a trap or a halt
abbrev IsNoBound : Next → Type 0
IsNoBound (Goes to s) = Unit {0}
IsNoBound (Ends e j out mem) = e ≢ end.Bound

module _ (p : Program) (input : List ℕ) (limit : ℕ) where
  no_bound : (from : ℕ) (next : Option ℕ) (x : Ending) → IsNoBound (follows p from next x)
  no_bound from None (Ended s GoOn) = tt
  no_bound from (Some to) (Ended s GoOn) = tt
  no_bound from next (Ended s (GoTo to)) = elim (block_at p to) as (λ o. IsNoBound (elim o [ None ↦ Ends (end.Trapped (record { kind = BadTarget; block = from; detail = to })) 1 s.output s.memory | Some b ↦ Goes to s ])) [ None ↦ (λ e. cc) | Some b ↦ tt ]
  no_bound from next (Ended s (Stop code)) = λ e. cc
  no_bound from next (Trapped t k output memory) = λ e. cc

  advance_no_bound : (entry : ℕ) (s : State) → IsNoBound (advance p input limit entry s)
  advance_no_bound entry s = elim (block_at p entry) as (λ o. IsNoBound (elim o [ None ↦ Goes entry s | Some b ↦ follows p entry b.next (block (record { state = s; input = input; next = b.next; limit = limit }) b.ops) ])) [ None ↦ tt | Some b ↦ no_bound entry b.next (block (record { state = s; input = input; next = b.next; limit = limit }) b.ops) ]

  -- a run that the program ends within n more blocks doesn't end by its bound
  ends_before : (n b : ℕ) (s : State) (entry : ℕ) → after p input limit b ≡ Some (s, entry) → after p input limit (b + n) ≡ None → (mean_from p input limit n b entry s).end ≢ end.Bound
  ends_before zero b s entry e none = absurd (let no : ⊥ = let same : after p input limit (b + 0) ≡ after p input limit b = ap (after p input limit) (add-zero b) in cc in no)
  ends_before (suc n) b s entry e none =
      let same : b + suc n ≡ suc b + n = omega arith in
      go (ends_before n (suc b)) (advance p input limit entry s) (advance_no_bound entry s) (after-suc p input limit b ∙ ap (stands_from p input limit) e) (ap (after p input limit) (sym same) ∙ none) (ap (λ (m : Meaning). m.end) (rest_of p input limit n b entry s))
    where
      go : ((s : State) (entry : ℕ) → after p input limit (suc b) ≡ Some (s, entry) → after p input limit (suc b + n) ≡ None → (mean_from p input limit n (suc b) entry s).end ≢ end.Bound) → (x : Next) → IsNoBound x → after p input limit (suc b) ≡ stands x → after p input limit (suc b + n) ≡ None → (mean_from p input limit (suc n) b entry s).end ≡ (rest p input limit n b x).end → (mean_from p input limit (suc n) b entry s).end ≢ end.Bound
      go ih (Goes to s') free h k same =
          let one : b + 1 ≡ suc b = omega arith in
          let there : (mean_from p input limit n (b + 1) to s').end ≡ (mean_from p input limit n (suc b) to s').end = ap (λ (m : ℕ). (mean_from p input limit n m to s').end) one in
          λ bound. ih s' to h k (sym there ∙ sym same ∙ bound)
      go ih (Ends x j out mem) free h k same = λ bound. free (sym same ∙ bound)

pub ends_by_its_bound_lem : EndsByItsBound
ends_by_its_bound_lem p input limit n = go (after p input limit n) refl
  where
    go : (o : Option (State × ℕ)) → after p input limit n ≡ o → MatchOption o ((mean p input limit n).end ≢ end.Bound) (λ at. mean p input limit n ≡ record { end = end.Bound; blocks = n; output = at.0.output; memory = at.0.memory })
    go None e = ends_before p input limit n 0 (first_state p) p.entry refl (ap (after p input limit) (zero-add n) ∙ e)
    go (Some at) e = ap (λ (m : ℕ). mean p input limit m) (sym (add-zero n)) ∙ goes_on_lem p input limit n 0 at.0 at.1 e
