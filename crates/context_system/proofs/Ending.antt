-- A context ends: each of its turns but the last of a block leaves fewer MultiOps, and each block fewer blocks.
use Rattle.std.proofs.Common.{◌≡◌, ℕ, zero, suc, ◌+◌, ◌*◌, ◌<◌, ◌≤◌, Bool, true, false, cond, length, refl, sym, ap, subst, ◌∙◌, Option, Some, None, arith}
use Rattle.std.specs.Prelude.{nat_lt, IsSome}
use Rattle.std.proofs.lemmas.Bool.{ltb-true}
use Rattle.operation.specs.declared.End.{End}
use Rattle.operation.specs.declared.End.TheVariants as end
use Rattle.operation.specs.declared.TrapKind.TheVariants.{BadTarget}
use Rattle.timed_meaning.specs.declared.Answer.{Answer}
use Rattle.timed_meaning.specs.declared.Answer.TheVariants.{GoOn, GoTo, Stop}
use Rattle.timed_meaning.specs.Values.{State}
use Rattle.timed_meaning.specs.Block.{Ran, Through, Stopped, Ended, Trapped}
use Rattle.timed_meaning.specs.Program.{Block, Program, Next, Goes as Onward, Ends, block_at, follows}
use Rattle.image_check.specs.Laws.{ProgramsAreSound}
use Rattle.image_resched.specs.Laws.{RescheduledIsAccepted}
use Rattle.block_steps.specs.Steps.{Moment, Outcome, Going, AtEnd, next_issue, over_after, moved_to, run_multi_op, step_by, step as block_step}
use Rattle.block_steps.specs.Laws.{SoundIsInOrder}
use Rattle.block_steps.proofs.Cuts.{in_order, issuing_after, cut_there, fewer_left}
use Rattle.context_system.specs.Context.{Setup, Context, running, opened, end_by_bound, behind_block, behind_step, played_on, turn}
use Rattle.context_system.specs.Turns.{turns, turns_among}
use Rattle.context_system.specs.Meant.{IsReady, StandsInABlock, ContextsStandInBlocks, ContextsEnd}
use Rattle.context_system.proofs.Turns.{behind_its_turns}
use Rattle.context_system.proofs.Setups.{turn_keeps, turns_keep, at_place}
use Rattle.context_system.proofs.Blocks.{Goes, image_goes}

-- a context inside a block that will have ended after fewer turns than a number
record EndsWithin (n : ℕ) (x : Context) : Type 0 where
  pub block : Block
  pub found : block_at (running x.setup) x.entry ≡ Some block
  pub rest : ℕ
  pub all : x.blocks + suc rest ≡ x.setup.bound
  pub left : length (issuing_after x.moment.clock block.ops) + 512 * rest < n

-- one that has ended, or will have
abbrev Within : ℕ → Option End → Context → Type 0
Within n None x = EndsWithin n x
Within n (Some e) x = Unit {0}

-- what follows a block is an end, or an entry with a block
abbrev IsThere : Program → Next → Type 0
IsThere p (Onward to s) = (b : Block) × (block_at p to ≡ Some b)
IsThere p (Ends e k output memory) = Unit {0}

follows_there : (p : Program) (from : ℕ) (b : Block) (s : State) (a : Answer) → Goes p → block_at p from ≡ Some b → IsThere p (follows p from b.next (Ended s a))
follows_there p from b s GoOn goes found = go b.next refl
  where
    go : (o : Option ℕ) → b.next ≡ o → IsThere p (follows p from o (Ended s GoOn))
    go None e = (b, found)
    go (Some to) e = goes.next from to b found e
follows_there p from b s (GoTo to) goes found = go (block_at p to) refl
  where
    go : (o : Option Block) → block_at p to ≡ o →
        IsThere p (elim o [ None ↦ Ends (end.Trapped (record { kind = BadTarget; block = from; detail = to })) 1 s.output s.memory | Some b ↦ Onward to s ])
    go None e = tt
    go (Some c) e = (c, e)
follows_there p from b s (Stop code) goes found = tt

-- behind a block one block fewer is left
behind : (n : ℕ) (x : Context) (m : Moment) (next : Next) → Goes (running x.setup) → EndsWithin (suc n) x → m.clock ≡ 0 → IsThere (running x.setup) next →
    Within n (behind_block x m next).end (behind_block x m next)
behind n x m (Ends e k output memory) goes h fresh there = tt
behind n x m (Onward to s) goes h fresh there = go (nat_lt (x.blocks + 1) x.setup.bound) refl
  where
    less : (rest : ℕ) → x.blocks + suc rest ≡ x.setup.bound → (left : ℕ) → left + 512 * rest < suc n → x.blocks + 1 < x.setup.bound →
        (first : ℕ) → first < 512 → (r : ℕ) × (x.blocks + 1 + suc r ≡ x.setup.bound) × (first + 512 * r < n)
    less zero all left few more first short = absurd (omega arith)
    less (suc r) all left few more first short = (r, omega arith, omega arith)

    go : (b : Bool) → nat_lt (x.blocks + 1) x.setup.bound ≡ b →
        Within n (cond b None (Some end.Bound)) (record x { entry = to; moment = m; blocks = x.blocks + 1; end = end_by_bound x.setup.bound (x.blocks + 1) })
    go false e = tt
    go true e =
        let first : ℕ = length (issuing_after m.clock there.0.ops) in
        let short : first < 512 = subst (λ (t : ℕ). length (issuing_after t there.0.ops) < 512) (sym fresh) (goes.few to there.0 there.1) in
        let fewer = less h.rest h.all (length (issuing_after x.moment.clock h.block.ops)) h.left (ltb-true (x.blocks + 1) x.setup.bound e) first short in
        record { block = there.0; found = there.1; rest = fewer.0; all = fewer.1; left = fewer.2 }

-- behind a MultiOp
stepped : (n : ℕ) (x : Context) → Goes (running x.setup) → x.end ≡ None → (h : EndsWithin (suc n) x) → (r : Ran) →
    let y : Context = behind_step x h.block (step_by h.block x.moment r) in Within n y.end y
stepped n x goes none h (Stopped t p) =
    behind n x (over_after (x.moment.clock + 1) x.moment p)
    (follows (running x.setup) x.entry h.block.next (Trapped t p.count (over_after (x.moment.clock + 1) x.moment p).state.output (over_after (x.moment.clock + 1) x.moment p).state.memory))
    goes h refl tt
stepped n x goes none h (Through p) = go (next_issue x.moment.clock h.block.ops) refl
  where
    go : (o : Option ℕ) → next_issue x.moment.clock h.block.ops ≡ o →
        let r : Moment × Outcome = elim o [ None ↦ (over_after h.block.end x.moment p, AtEnd p.answer) | Some t ↦ (moved_to t h.block x.moment p, Going) ] in
        let y : Context = behind_step x h.block r in Within n y.end y
    go None e =
        behind n x (over_after h.block.end x.moment p) (follows (running x.setup) x.entry h.block.next (Ended (over_after h.block.end x.moment p).state p.answer))
        goes h refl (follows_there (running x.setup) x.entry h.block (over_after h.block.end x.moment p).state p.answer goes h.found)
    go (Some t) e =
        let cut = cut_there x.moment.clock t h.block.ops (in_order h.block.ops (goes.in_order x.entry h.block h.found).rising) e in
        let fewer : length (issuing_after t h.block.ops) < length (issuing_after x.moment.clock h.block.ops) = fewer_left x.moment.clock t h.block.ops cut in
        let now : length (issuing_after x.moment.clock h.block.ops) + 512 * h.rest < suc n = h.left in
        subst (λ (o : Option End). Within n o (record x { moment = moved_to t h.block x.moment p })) (sym none)
        (record { block = h.block; found = h.found; rest = h.rest; all = h.all; left = omega arith })

played : (n : ℕ) (x : Context) → Goes (running x.setup) → x.end ≡ None → EndsWithin (suc n) x → Within n (played_on x).end (played_on x)
played n x goes none h =
    subst (λ (o : Option Block). let y : Context = elim o [ None ↦ x | Some b ↦ behind_step x b (block_step x.setup.input x.setup.limit b x.moment) ] in Within n y.end y)
    (sym h.found) (stepped n x goes none h (run_multi_op x.setup.input x.setup.limit h.block x.moment))

turn_within : (n : ℕ) (x : Context) → Goes (running x.setup) → Within (suc n) x.end x → Within n (turn x).end (turn x)
turn_within n x goes h = go x.end refl h
  where
    go : (o : Option End) → x.end ≡ o → Within (suc n) o x → let y : Context = elim o [ None ↦ played_on x | Some e ↦ x ] in Within n y.end y
    go None e on = played n x goes e on
    go (Some k) e on = subst (λ (o : Option End). Within n o x) (sym e) tt

turns_within : (n k : ℕ) (x : Context) → Goes (running x.setup) → Within (n + k) x.end x → Within n (turns k x).end (turns k x)
turns_within n zero x goes h = let all : n + 0 ≡ n = omega arith in subst (λ (m : ℕ). Within m x.end x) all h
turns_within n (suc k) x goes h =
    let one : n + suc k ≡ suc (n + k) = omega arith in
    turns_within n k (turn x) (subst (λ (s : Setup). Goes (running s)) (sym (turn_keeps x)) goes)
    (turn_within (n + k) x goes (subst (λ (m : ℕ). Within m x.end x) one h))

none_left : (x : Context) → Within 0 x.end x → IsSome x.end
none_left x h = go x.end h
  where
    go : (o : Option End) → Within 0 o x → IsSome o
    go None on = let none : length (issuing_after x.moment.clock on.block.ops) + 512 * on.rest < 0 = on.left in absurd (omega arith)
    go (Some e) on = refl

some_left : (n : ℕ) (s : Setup) (x : Context) → x.setup ≡ s → Within n x.end x → StandsInABlock s x
some_left n s x own h none =
    let on : EndsWithin n x = subst (λ (o : Option End). Within n o x) none h in
    (on.block, ap (λ (z : Setup). block_at (running z) x.entry) (sym own) ∙ on.found)

opened_within : (s : Setup) (bound n : ℕ) → Goes (running s) → s.bound ≡ bound → 0 < bound → 512 * bound ≤ n → EndsWithin n (opened s)
opened_within s zero n goes is some many = absurd (omega arith)
opened_within s (suc rest) n goes is some many =
    let few : length (issuing_after 0 goes.begins.0.ops) < 512 = goes.few s.formed.entry goes.begins.0 goes.begins.1 in
    record { block = goes.begins.0; found = goes.begins.1; rest = rest; all = omega arith; left = omega arith }

module _ (orders : SoundIsInOrder) (sound : ProgramsAreSound) (accepts : RescheduledIsAccepted) where
  ready_goes : (s : Setup) → IsReady s → Goes (running s)
  ready_goes s ready = image_goes orders s.formed (sound s.formed (accepts s.image s.generation s.formed ready.movable ready.formed))

  -- so many turns of a ready context leave as many fewer
  ready_within : (n k : ℕ) (s : Setup) → IsReady s → 512 * s.bound ≤ n + k → Within n (turns k (opened s)).end (turns k (opened s))
  ready_within n k s ready many =
      turns_within n k (opened s) (ready_goes s ready) (opened_within s s.bound (n + k) (ready_goes s ready) refl ready.bound many)

  pub contexts_end : ContextsEnd
  contexts_end setups all frames saved events c s x h k many =
      let n : ℕ = turns_among c events in
      behind_its_turns (λ s x. IsSome x.end) setups frames saved events c s x h k
      (none_left (turns n (opened s)) (ready_within 0 n s (at_place IsReady setups c s all h) (omega arith)))

  pub contexts_stand_in_blocks : ContextsStandInBlocks
  contexts_stand_in_blocks setups all frames saved events c s x h k =
      let n : ℕ = turns_among c events in
      let left : ℕ = 512 * s.bound in
      behind_its_turns StandsInABlock setups frames saved events c s x h k
      (some_left left s (turns n (opened s)) (turns_keep n (opened s)) (ready_within left n s (at_place IsReady setups c s all h) (omega arith)))
