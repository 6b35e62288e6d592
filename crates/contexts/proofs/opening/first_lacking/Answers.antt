use Rattle.std.proofs.Common.{◌≡◌, refl, sym, ap, ◌∙◌, arith}
use Rattle.std.specs.Prelude.{slice_get, Some}
use Rattle.std.proofs.lemmas.Option.{slice_get-get_or, slice_get_within}
use Rattle.machine_desc.specs.Value.{description_of}
use Rattle.image_check.specs.Units.{HasUnits}
use Rattle.contexts.specs.declared.Setup.{Setup}
use Rattle.contexts.proofs.Lists.{all_by_places, one_more_so}
use Rattle.contexts.proofs.Lacking.{found, passed, none_left}
use Rattle.contexts.proofs.opening.first_lacking.Goals as goal

pub loop-c-preserved : goal.loop-c-preserved
loop-c-preserved c =
    let s : Setup = c.index-setups-c.result in
    let at : slice_get c.args.setups.now c.loop-c.c ≡ Some s =
    slice_get-get_or c.args.setups.now c.loop-c.c s c.loop-c-test.true ∙ ap (λ (s : Setup). Some s) (sym c.index-setups-c.is) in
    record {
      rest = sym (passed c.args.setups.now c.loop-c.c s at (sym c.in_default.ensures.first)) ∙ c.loop-c.invariant.rest;
      units = one_more_so (λ (s : Setup). HasUnits s.image (description_of s.chosen)) c.args.setups.now c.loop-c.c s at (c.in_default.ensures.none.0 refl) c.loop-c.invariant.units;
    }

pub returns-in-Some-clause-first : goal.returns-in-Some-clause-first
returns-in-Some-clause-first c =
    let s : Setup = c.index-setups-c.result in
    let at : slice_get c.args.setups.now c.loop-c.c ≡ Some s =
    slice_get-get_or c.args.setups.now c.loop-c.c s c.loop-c-test.true ∙ ap (λ (s : Setup). Some s) (sym c.index-setups-c.is) in
    sym (found c.args.setups.now c.loop-c.c s c.in-Some.kind at (sym c.in-Some.ensures.first)) ∙ c.loop-c.invariant.rest

pub returns-clause-first : goal.returns-clause-first
returns-clause-first c = sym (none_left c.args.setups.now c.loop-c.c c.loop-c-test.false) ∙ c.loop-c.invariant.rest

pub returns-clause-units : goal.returns-clause-units
returns-clause-units c = λ none.
    all_by_places (λ (s : Setup). HasUnits s.image (description_of s.chosen)) c.args.setups.now
    (λ i s at. c.loop-c.invariant.units i s (let w = slice_get_within c.args.setups.now i s at in let t = c.loop-c-test.false in omega arith) at)
