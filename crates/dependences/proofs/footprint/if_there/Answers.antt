use Rattle.std.proofs.Common.{◌∙◌, ap, sym}
use Rattle.std.specs.Int.Bits.{or_zero_r}
use Rattle.operation.specs.declared.Place.{Place}
use Rattle.std.specs.Prelude.{Option}
use Rattle.operation.specs.Places.{if_any}
use Rattle.dependences.specs.Footprint.{only, set_of}
use Rattle.dependences.proofs.footprint.if_there.Goals as goal

pub returns-in-Some : goal.returns-in-Some
returns-in-Some c =
    c.only.ensures ∙ sym (or_zero_r (only c.in-Some.place)) ∙ ap (λ (x : Option Place). set_of (if_any x)) (sym c.in-Some.is)
