-- Each setup has its seat and its program.
use Rattle.std.proofs.Common.{◌≡◌, List, ◌∷◌, [], ◌++◌, length, length-append, sym, ap, subst, ◌∙◌, arith}
use Rattle.page_fault.specs.declared.Loaded.{Loaded}
use Rattle.contexts.specs.declared.Setup.{Setup}
use Rattle.contexts.specs.declared.seat.Seat.{Seat}
use Rattle.contexts.specs.Standing.{IsFirstSame, AreBegun}
use Rattle.contexts.proofs.Lists.{taken_front, none_left}
use Rattle.contexts.proofs.Numbered.{one_more}
use Rattle.contexts.proofs.opening.all_seated.Goals as goal

pub seated-requires : goal.seated-requires
seated-requires c =
    let it = c.loop-setup.setup-iterator in
    let front = taken_front c.into_iter-setup-iterator.result c.loop-setup.yielded it c.loop-setup.yielded_by in
    let all : c.args.setups.items ≡ c.loop-setup.yielded ++ it.rest.items = sym c.into_iter-setup-iterator.ensures.into_iter_gives.0 ∙ front in
    let more : length it.rest.items ≡ length (c.in-Some.setup ∷ c.next.new.self.rest.items) = ap length c.in-Some.ensures.steps.0 in
    let many : length c.args.setups.items ≡ length (c.loop-setup.yielded ++ it.rest.items) = ap length all in
    let own = c.loop-setup.invariant.2.own in
    let same = c.deref.ensures.len in
    let few = c.requires.few in
    record { few = omega (arith, length-append c.loop-setup.yielded it.rest.items) }

pub loop-setup-preserved : goal.loop-setup-preserved
loop-setup-preserved c = (
  tt,
  tt,
  subst (λ (l : List Seat). AreBegun (c.loop-setup.yielded ++ c.in-Some.setup ∷ []) l c.push-in-loop-setup.new.self.items) (sym c.in_ok-push.ensures.items)
      (subst (λ (l : List Loaded). AreBegun (c.loop-setup.yielded ++ c.in-Some.setup ∷ []) (c.loop-setup.seats.items ++ c.in_ok-seat.seat ∷ []) l) (sym c.in_ok-push-2.ensures.items)
      (one_more c.loop-setup.yielded c.loop-setup.seats.items c.loop-setup.programs.items c.in-Some.setup c.in_ok-seat.seat c.in_ok-seat.program c.loop-setup.invariant.2
      c.in_ok-seat.ensures.begun
      (subst (λ (l : List Loaded). IsFirstSame l c.in_ok-seat.program c.in_ok-seat.seat.program) c.deref.ensures.value c.in_ok-seat.ensures.number))),
)

pub returns : goal.returns
returns c =
    let it = c.loop-setup.setup-iterator in
    let front = taken_front c.into_iter-setup-iterator.result c.loop-setup.yielded it c.loop-setup.yielded_by in
    let all : c.args.setups.items ≡ c.loop-setup.yielded ++ it.rest.items = sym c.into_iter-setup-iterator.ensures.into_iter_gives.0 ∙ front in
    let none : length it.rest.items ≡ 0 = sym it.rest.ok.0 ∙ c.in-None.ensures.steps.0 in
    subst (λ (l : List Setup). AreBegun l c.loop-setup.seats.items c.loop-setup.programs.items) (sym (none_left c.args.setups.items c.loop-setup.yielded it.rest.items all none))
    c.loop-setup.invariant.2
