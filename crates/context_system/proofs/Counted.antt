-- A context takes the cycles of its program.
use Rattle.std.proofs.Common.{◌≡◌, ℕ, zero, suc, ◌+◌, ◌<◌, ◌≤◌, Bool, true, false, cond, refl, sym, ap, subst, ◌∙◌, Option, Some, None, arith}
use Rattle.std.specs.Prelude.{nat_lt}
use Rattle.std.proofs.lemmas.Bool.{ltb-false}
use Rattle.operation.specs.declared.End.{End}
use Rattle.operation.specs.declared.End.TheVariants as end
use Rattle.timed_meaning.specs.Values.{State}
use Rattle.timed_meaning.specs.Block.{Ending, Ended, Trapped, block}
use Rattle.timed_meaning.specs.Program.{Block, Next, Goes, Ends, block_at, follows, advance}
use Rattle.timed_meaning.specs.Cycles.{cycles, cycles_at, cycles_by}
use Rattle.timed_meaning.proofs.Counting.{cycles_here, cycles_end}
use Rattle.block_steps.specs.Steps.{Moment, Outcome, Going, AtEnd, AtTrap, start_in, counted, step as block_step}
use Rattle.block_steps.specs.Laws.{BeginsAsMeant, ComesAsMeant, StepsAsMeant, LandsWhole}
use Rattle.context_system.specs.Context.{Setup, Context, running, end_by_bound, behind_block, behind_step, played_on, turn}
use Rattle.context_system.specs.Turns.{turns}
use Rattle.context_system.proofs.Setups.{turn_keeps}
use Rattle.context_system.proofs.Meant.{IsFit, IsOn, Stands, turn_stands, advanced}

-- the cycles of the run of so many blocks
abbrev pub total : Setup → ℕ → ℕ
total s n = cycles (running s) s.input s.limit n

-- the count, by the context's end
abbrev pub Counts : Option End → Context → Type 0
Counts None x = x.moment.cycles ≡ counted 0 (total x.setup x.blocks)
Counts (Some e) x = x.moment.cycles ≡ counted 0 (total x.setup x.setup.bound)

-- counting in two parts
count_more : (a b c n m : ℕ) → n ≡ counted 0 a → m ≡ counted n b → a + b ≡ c → m ≡ counted 0 c
count_more a b c n m e f g = omega arith

behind_counts : (x : Context) (m : Moment) (next : Next) (h : IsOn x) → x.moment.cycles ≡ counted 0 (total x.setup x.blocks) →
    advance (running x.setup) x.setup.input x.setup.limit x.entry h.begun ≡ next → m.cycles ≡ counted x.moment.cycles (cycles_at (running x.setup) x.setup.input x.setup.limit x.entry h.begun) →
    Counts (behind_block x m next).end (behind_block x m next)
behind_counts x m (Goes to s) h before comes more = go (nat_lt (x.blocks + 1) x.setup.bound) refl
  where
    here : total x.setup x.blocks + cycles_at (running x.setup) x.setup.input x.setup.limit x.entry h.begun ≡ total x.setup (x.blocks + 1)
    here = cycles_here (running x.setup) x.setup.input x.setup.limit x.blocks x.entry h.begun (total x.setup x.blocks) (cycles_at (running x.setup) x.setup.input x.setup.limit x.entry h.begun) h.reached refl refl

    all : m.cycles ≡ counted 0 (total x.setup (x.blocks + 1))
    all = count_more (total x.setup x.blocks) (cycles_at (running x.setup) x.setup.input x.setup.limit x.entry h.begun) (total x.setup (x.blocks + 1)) x.moment.cycles m.cycles before more here

    go : (b : Bool) → nat_lt (x.blocks + 1) x.setup.bound ≡ b →
        Counts (cond b None (Some end.Bound)) (record x { entry = to; moment = m; blocks = x.blocks + 1; end = end_by_bound x.setup.bound (x.blocks + 1) })
    go true e = all
    go false e =
        let above : x.setup.bound ≤ x.blocks + 1 = ltb-false (x.blocks + 1) x.setup.bound e in
        let below : x.blocks < x.setup.bound = h.below in
        let same : x.blocks + 1 ≡ x.setup.bound = omega arith in
        all ∙ ap (λ (n : ℕ). counted 0 (total x.setup n)) same
behind_counts x m (Ends e k output memory) h before comes more =
    let here : total x.setup x.blocks + cycles_at (running x.setup) x.setup.input x.setup.limit x.entry h.begun ≡ total x.setup (x.blocks + 1) =
    cycles_here (running x.setup) x.setup.input x.setup.limit x.blocks x.entry h.begun (total x.setup x.blocks) (cycles_at (running x.setup) x.setup.input x.setup.limit x.entry h.begun) h.reached refl refl in
    count_more (total x.setup x.blocks) (cycles_at (running x.setup) x.setup.input x.setup.limit x.entry h.begun) (total x.setup (x.blocks + 1)) x.moment.cycles m.cycles before more here
    ∙ ap (counted 0) (cycles_end (running x.setup) x.setup.input x.setup.limit x.setup.bound x.blocks x.entry h.begun e k output memory h.below h.reached (sym comes))

-- the cycles of the present block, by how it ends
block_takes : (x : Context) (s : State) (b : Block) (e : Ending) → block_at (running x.setup) x.entry ≡ Some b → block (start_in x.setup.input x.setup.limit b s) b.ops ≡ e →
    cycles_by b e ≡ cycles_at (running x.setup) x.setup.input x.setup.limit x.entry s
block_takes x s b e found ends =
    ap (cycles_by b) (sym ends)
    ∙ ap (λ (o : Option Block). elim o [ None ↦ 0 | Some b ↦ cycles_by b (block (record { state = s; input = x.setup.input; next = b.next; limit = x.setup.limit }) b.ops) ]) (sym found)

module _ (begins : BeginsAsMeant) (steps : StepsAsMeant) (lands : LandsWhole) where
  stepped_counts : (x : Context) (b : Block) (h : IsOn x) → x.end ≡ None → x.moment.cycles ≡ counted 0 (total x.setup x.blocks) → block_at (running x.setup) x.entry ≡ Some b →
      (r : Moment × Outcome) → ComesAsMeant x.setup.input x.setup.limit b h.begun x.moment r → Counts (behind_step x b r).end (behind_step x b r)
  stepped_counts x b h none before found (m, Going) comes =
      subst (λ (o : Option End). Counts o (record x { moment = m })) (sym none) (comes.2 ∙ before)
  stepped_counts x b h none before found (m, AtEnd a) comes =
      behind_counts x m (follows (running x.setup) x.entry b.next (Ended m.state a)) h before
      (advanced begins steps lands x h.begun b found (Ended m.state a) comes.0)
      (ap (λ (m : Moment). m.cycles) comes.1 ∙ ap (counted x.moment.cycles) (block_takes x h.begun b (Ended m.state a) found comes.0))
  stepped_counts x b h none before found (m, AtTrap t k) comes =
      behind_counts x m (follows (running x.setup) x.entry b.next (Trapped t k m.state.output m.state.memory)) h before
      (advanced begins steps lands x h.begun b found (Trapped t k m.state.output m.state.memory) comes.0)
      (ap (λ (m : Moment). m.cycles) comes.1 ∙ ap (counted x.moment.cycles) (block_takes x h.begun b (Trapped t k m.state.output m.state.memory) found comes.0))

  played_counts : (x : Context) → IsOn x → IsFit x.setup → x.end ≡ None → x.moment.cycles ≡ counted 0 (total x.setup x.blocks) → Counts (played_on x).end (played_on x)
  played_counts x h fit none before = go (block_at (running x.setup) x.entry) refl
    where
      go : (o : Option Block) → block_at (running x.setup) x.entry ≡ o →
          let y : Context = elim o [ None ↦ x | Some b ↦ behind_step x b (block_step x.setup.input x.setup.limit b x.moment) ] in Counts y.end y
      go None e = subst (λ (o : Option End). Counts o x) (sym none) before
      go (Some b) e =
          stepped_counts x b h none before e (block_step x.setup.input x.setup.limit b x.moment)
          (steps x.setup.input x.setup.limit b h.begun x.moment (fit.in_order x.entry b e) h.whole (h.inside b e))

  turn_counts : (x : Context) → IsFit x.setup → Stands x.end x → Counts x.end x → Counts (turn x).end (turn x)
  turn_counts x fit h before = go x.end refl h before
    where
      go : (o : Option End) → x.end ≡ o → Stands o x → Counts o x → let y : Context = elim o [ None ↦ played_on x | Some e ↦ x ] in Counts y.end y
      go None e on same = played_counts x on fit e same
      go (Some e) same on was = before

  pub turns_count : (n : ℕ) (x : Context) → IsFit x.setup → Stands x.end x → Counts x.end x → Counts (turns n x).end (turns n x)
  turns_count zero x fit h before = before
  turns_count (suc n) x fit h before =
      turns_count n (turn x) (subst IsFit (sym (turn_keeps x)) fit) (turn_stands begins steps lands x fit h) (turn_counts x fit h before)
