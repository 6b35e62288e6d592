use Rattle.std.proofs.Common.{◌∙◌, ap, sym}
use Rattle.operation.specs.Places.{if_any}
use Rattle.dependences.specs.Footprint.{set_of}
use Rattle.dependences.proofs.PlaceSets.{set_of-append}
use Rattle.dependences.proofs.footprint.written.Goals as goal

pub returns : goal.returns
returns c =
    let to = c.destinations-to.result in
    rw (c.if_there.ensures, c.if_there-2.ensures) (sym (set_of-append (if_any to.first) (if_any to.second)) ∙ ap set_of c.destinations-to.ensures.list)
