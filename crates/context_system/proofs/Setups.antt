-- No step changes what a context was given.
use Rattle.std.proofs.Common.{◌≡◌, ℕ, zero, suc, List, [], ◌∷◌, map, refl, ap, subst, ◌∙◌, Option, Some, None}
use Rattle.std.specs.Prelude.{slice_get, slice_index_or, option_map, All}
use Rattle.std.proofs.lemmas.Option.{slice_get-map, slice_get_within, get_or_from_slice_get}
use Rattle.operation.specs.declared.End.{End}
use Rattle.timed_meaning.specs.Program.{Block, Next, Goes, Ends, block_at, follows}
use Rattle.timed_meaning.specs.Block.{Ended, Trapped}
use Rattle.block_steps.specs.Steps.{Moment, Outcome, Going, AtEnd, AtTrap, step as block_step}
use Rattle.context_system.specs.declared.Event.{Event}
use Rattle.context_system.specs.Context.{Setup, Context, opened, running, behind_block, behind_step, played_on, turn}
use Rattle.context_system.specs.System.{System, step, play}
use Rattle.context_system.specs.Turns.{turns, turns_in}
use Rattle.context_system.proofs.Turns.{step_is}

behind_block_keeps : (x : Context) (m : Moment) (next : Next) → (behind_block x m next).setup ≡ x.setup
behind_block_keeps x m (Goes entry s) = refl
behind_block_keeps x m (Ends e k output memory) = refl

behind_step_keeps : (x : Context) (b : Block) (r : Moment × Outcome) → (behind_step x b r).setup ≡ x.setup
behind_step_keeps x b (m, Going) = refl
behind_step_keeps x b (m, AtEnd a) = behind_block_keeps x m (follows (running x.setup) x.entry b.next (Ended m.state a))
behind_step_keeps x b (m, AtTrap t k) = behind_block_keeps x m (follows (running x.setup) x.entry b.next (Trapped t k m.state.output m.state.memory))

played_on_keeps : (x : Context) → (played_on x).setup ≡ x.setup
played_on_keeps x = go (block_at (running x.setup) x.entry)
  where
    go : (o : Option Block) →
        let y : Context = elim o [ None ↦ x | Some b ↦ behind_step x b (block_step x.setup.input x.setup.limit b x.moment) ] in y.setup ≡ x.setup
    go None = refl
    go (Some b) = behind_step_keeps x b (block_step x.setup.input x.setup.limit b x.moment)

pub turn_keeps : (x : Context) → (turn x).setup ≡ x.setup
turn_keeps x = go x.end
  where
    go : (o : Option End) → let y : Context = elim o [ None ↦ played_on x | Some e ↦ x ] in y.setup ≡ x.setup
    go None = played_on_keeps x
    go (Some e) = refl

pub turns_keep : (n : ℕ) (x : Context) → (turns n x).setup ≡ x.setup
turns_keep zero x = refl
turns_keep (suc n) x = turns_keep n (turn x) ∙ turn_keeps x

-- the contexts of a system have these setups
pub record HasSetups (setups : List Setup) (s : System) : Type 0 where
  pub each : (c : ℕ) → option_map (λ (x : Context). x.setup) (slice_get s.contexts c) ≡ slice_get setups c

same_setups : (n : ℕ) (o : Option Context) → option_map (λ (x : Context). x.setup) (option_map (turns n) o) ≡ option_map (λ (x : Context). x.setup) o
same_setups n None = refl
same_setups n (Some x) = ap (λ (s : Setup). Some s) (turns_keep n x)

pub step_has : (setups : List Setup) (s : System) (e : Event) → HasSetups setups s → HasSetups setups (step s e)
step_has setups s e h = record {
  each = λ c. ap (option_map (λ (x : Context). x.setup)) (step_is s e c) ∙ same_setups (turns_in c e) (slice_get s.contexts c) ∙ h.each c;
}

opened_setup : (o : Option Setup) → option_map (λ (x : Context). x.setup) (option_map opened o) ≡ o
opened_setup None = refl
opened_setup (Some s) = refl

pub opened_have : (setups : List Setup) (c : ℕ) → option_map (λ (x : Context). x.setup) (slice_get (map opened setups) c) ≡ slice_get setups c
opened_have setups c = ap (option_map (λ (x : Context). x.setup)) (slice_get-map opened setups c) ∙ opened_setup (slice_get setups c)

pub play_has : (setups : List Setup) (s : System) (events : List Event) → HasSetups setups s → HasSetups setups (play s events)
play_has setups s [] h = h
play_has setups s (e ∷ es) h = play_has setups (step s e) es (step_has setups s e h)

-- what holds of all setups holds of that at a place
pub at_place : (P : Setup → Type 0) (setups : List Setup) (c : ℕ) (s : Setup) → All P setups → slice_get setups c ≡ Some s → P s
at_place P setups c s all h =
    let same : slice_index_or setups c s ≡ s = get_or_from_slice_get setups c s s h in
    subst P same (all c s (slice_get_within setups c s h))
