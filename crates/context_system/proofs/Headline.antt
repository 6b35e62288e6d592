-- Whatever events come, each context has the meaning of its image's program.
use Rattle.std.proofs.Common.{refl, ◌≡◌, ℕ, sym, ap, subst, ◌∙◌, Option, Some, None}
use Rattle.operation.specs.declared.End.{End}
use Rattle.timed_meaning.specs.Values.{State}
use Rattle.timed_meaning.specs.Program.{mean, after}
use Rattle.image_check.specs.Blocks.{program_in}
use Rattle.image_check.specs.Laws.{ProgramsInOtherTimings, ProgramsAreSound}
use Rattle.image_resched.specs.Laws.{RescheduledIsAccepted, RescheduledMeansTheSame}
use Rattle.block_steps.specs.Steps.{counted}
use Rattle.block_steps.specs.Laws.{BeginsAsMeant, StepsAsMeant, LandsWhole, SoundIsInOrder}
use Rattle.context_system.specs.Context.{Setup, Context, running, opened}
use Rattle.context_system.specs.Turns.{turns, turns_among}
use Rattle.context_system.specs.Meant.{IsReady, IsInTimings, IsAsMeant, ContextsAreAsMeant, TimingsAreAsMeant, TakesItsCycles, CyclesAreCounted}
use Rattle.context_system.proofs.Counted.{total, Counts, turns_count}
use Rattle.context_system.proofs.Turns.{behind_its_turns}
use Rattle.context_system.proofs.Setups.{turns_keep, at_place}
use Rattle.context_system.proofs.InOrder.{blocks_in_order, sound_in_order}
use Rattle.context_system.proofs.Meant.{IsFit, Stands, turns_stand, opened_stands}

-- the program as it runs means what the image's own program means
abbrev MeansTheSame : Setup → Type 0
MeansTheSame s =
    (n : ℕ) → (mean (program_in s.image) s.input s.limit n ≡ mean (running s) s.input s.limit n)
    × (after (program_in s.image) s.input s.limit n ≡ after (running s) s.input s.limit n)

-- a context that stands as its program's meaning says is as its image's
as_meant : (s : Setup) → MeansTheSame s → (x : Context) → x.setup ≡ s → Stands x.end x → IsAsMeant s x
as_meant s means x own h = record {
  ended = λ e is. let there : Stands (Some e) x = subst (λ (o : Option End). Stands o x) is h in
      there ∙ ap (λ (z : Setup). mean (running z) z.input z.limit z.bound) own ∙ sym (means s.bound).0;
  between = λ is at. let on : Stands None x = subst (λ (o : Option End). Stands o x) is h in
      (means x.blocks).1 ∙ ap (λ (z : Setup). after (running z) z.input z.limit x.blocks) (sym own) ∙ on.reached
      ∙ ap (λ (b : State). Some (b, x.entry)) (sym (on.at_first at));
}

-- so are the cycles that it has counted
as_counted : (s : Setup) (x : Context) → x.setup ≡ s → Counts x.end x → TakesItsCycles s x
as_counted s x own counts = record {
  ended = λ e is. let there : Counts (Some e) x = subst (λ (o : Option End). Counts o x) is counts in
      there ∙ ap (λ (z : Setup). counted 0 (total z z.bound)) own;
  going = λ is. let there : Counts None x = subst (λ (o : Option End). Counts o x) is counts in
      there ∙ ap (λ (z : Setup). counted 0 (total z x.blocks)) own;
}

ready_fit : SoundIsInOrder → ProgramsAreSound → RescheduledIsAccepted → (s : Setup) → IsReady s → IsFit s
ready_fit orders sound accepts s ready =
    record { in_order = sound_in_order orders (running s) (sound s.formed (accepts s.image s.generation s.formed ready.movable ready.formed)); some = ready.bound }

module _ (begins : BeginsAsMeant) (steps : StepsAsMeant) (lands : LandsWhole) where
  turns_as_meant : (n : ℕ) (s : Setup) → IsFit s → MeansTheSame s → IsAsMeant s (turns n (opened s))
  turns_as_meant n s fit means =
      as_meant s means (turns n (opened s)) (turns_keep n (opened s))
      (turns_stand begins steps lands n (opened s) fit (opened_stands begins steps lands s fit))

  pub timings_are_as_meant : ProgramsInOtherTimings → TimingsAreAsMeant
  timings_are_as_meant others setups all frames saved events c s x h k =
      let ready : IsInTimings s = at_place IsInTimings setups c s all h in
      behind_its_turns IsAsMeant setups frames saved events c s x h k
      (turns_as_meant (turns_among c events) s
      (record { in_order = blocks_in_order s.image (running s) ready.timings; some = ready.bound })
      (λ n. others s.image ready.accepted (running s) ready.timings s.input s.limit n))

  pub contexts_are_as_meant : SoundIsInOrder → ProgramsAreSound → RescheduledIsAccepted → RescheduledMeansTheSame → ContextsAreAsMeant
  contexts_are_as_meant orders sound accepts same setups all frames saved events c s x h k =
      let ready : IsReady s = at_place IsReady setups c s all h in
      behind_its_turns IsAsMeant setups frames saved events c s x h k
      (turns_as_meant (turns_among c events) s (ready_fit orders sound accepts s ready)
      (λ n. same s.image s.generation s.formed ready.movable ready.formed s.input s.limit n))

  pub cycles_are_counted : SoundIsInOrder → ProgramsAreSound → RescheduledIsAccepted → CyclesAreCounted
  cycles_are_counted orders sound accepts setups all frames saved events c s x h k =
      let fit : IsFit s = ready_fit orders sound accepts s (at_place IsReady setups c s all h) in
      let n : ℕ = turns_among c events in
      behind_its_turns TakesItsCycles setups frames saved events c s x h k
      (as_counted s (turns n (opened s)) (turns_keep n (opened s))
      (turns_count begins steps lands n (opened s) fit (opened_stands begins steps lands s fit) refl))
