use Rattle.std.proofs.Common.{◌≡◌, ◌∙◌, ap, rules}
use Rattle.std.specs.Prelude.{◌∷◌, option_map}
use Rattle.std.specs.Bool.{then_some}
use Rattle.operation.specs.declared.Place.TheVariants.{General, Predicate, Target, Memory}
use Rattle.operation.specs.declared.Sources.{Sources}
use Rattle.operation.specs.Places.{if_any}
use Rattle.dependences.specs.Footprint.{set_of, operands}
use Rattle.dependences.proofs.PlaceSets.{set_of-six}
use Rattle.dependences.proofs.footprint.read.Goals as goal

pub returns : goal.returns
returns c =
    let from = c.sources-from.result in
    let guard = Predicate c.args.g.now.guard in
    let first : c.map.result ≡ option_map General from.first = search rules in
    let second : c.map-2.result ≡ option_map General from.second = search rules in
    let target : c.map-3.result ≡ option_map Target from.target = search rules in
    let test : c.map-4.result ≡ option_map Predicate from.test = search rules in
    rw (c.only.ensures, c.if_there.ensures, c.if_there-2.ensures, c.if_there-3.ensures, c.if_there-4.ensures, c.if_there-5.ensures, first, second, target, test, c.then_some.ensures)
    (set_of-six guard
    (if_any (option_map General from.first))
    (if_any (option_map General from.second))
    (if_any (option_map Target from.target))
    (if_any (option_map Predicate from.test))
    (if_any (then_some from.memory Memory))
    ∙ ap (λ (s : Sources). set_of (guard ∷ operands s)) c.sources-from.ensures)
