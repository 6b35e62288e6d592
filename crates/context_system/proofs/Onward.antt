-- Each turn brings a context on.
use Rattle.std.proofs.Common.{◌≡◌, ℕ, ◌+◌, refl, sym, subst, inl, inr, Option, Some, None}
use Rattle.operation.specs.declared.End.{End}
use Rattle.timed_meaning.specs.Block.{Ran, Through, Stopped, Ended, Trapped}
use Rattle.timed_meaning.specs.Program.{Block, Next, Goes, Ends, follows}
use Rattle.block_steps.specs.Steps.{Moment, Outcome, Going, AtEnd, next_issue, over_after, moved_to, run_multi_op, step_by, step as block_step}
use Rattle.context_system.specs.Context.{Context, running, behind_block, behind_step, played_on}
use Rattle.context_system.specs.Turns.{HasComeOn, TurnsBringOn}
use Rattle.context_system.proofs.Meant.{next_is_later}

behind_on : (x : Context) (m : Moment) (next : Next) → HasComeOn x (behind_block x m next)
behind_on x m (Goes entry s) = inr (inl refl)
behind_on x m (Ends e k output memory) = inl refl

step_on : (x : Context) (b : Block) → x.end ≡ None → (r : Ran) → HasComeOn x (behind_step x b (step_by b x.moment r))
step_on x b none (Stopped t p) =
    behind_on x (over_after (x.moment.clock + 1) x.moment p)
    (follows (running x.setup) x.entry b.next (Trapped t p.count (over_after (x.moment.clock + 1) x.moment p).state.output (over_after (x.moment.clock + 1) x.moment p).state.memory))
step_on x b none (Through p) = go (next_issue x.moment.clock b.ops) refl
  where
    go : (o : Option ℕ) → next_issue x.moment.clock b.ops ≡ o →
        let r : Moment × Outcome = elim o [ None ↦ (over_after b.end x.moment p, AtEnd p.answer) | Some t ↦ (moved_to t b x.moment p, Going) ] in HasComeOn x (behind_step x b r)
    go None e = behind_on x (over_after b.end x.moment p) (follows (running x.setup) x.entry b.next (Ended (over_after b.end x.moment p).state p.answer))
    go (Some t) e = inr (inr (refl, refl, next_is_later x.moment.clock t b.ops e))

pub turns_bring_on : TurnsBringOn
turns_bring_on x b none found =
    subst (λ (o : Option End). let y : Context = elim o [ None ↦ played_on x | Some e ↦ x ] in HasComeOn x y) (sym none)
    (subst (λ (o : Option Block). let y : Context = elim o [ None ↦ x | Some b ↦ behind_step x b (block_step x.setup.input x.setup.limit b x.moment) ] in HasComeOn x y) (sym found)
    (step_on x b none (run_multi_op x.setup.input x.setup.limit b x.moment)))
