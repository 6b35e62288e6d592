use Rattle.std.proofs.Common.{◌≡◌, ◌∙◌, ap, sym, rules}
use Rattle.std.specs.Prelude.{filter}
use Rattle.std.proofs.lemmas.List.Elements.{filter-append}
use Rattle.operation.specs.declared.Place.{Place}
use Rattle.operation.specs.Places.{if_any}
use Rattle.dependences.specs.Footprint.{set_of, same_role, role_at}
use Rattle.dependences.proofs.PlaceSets.{set_of-append}
use Rattle.dependences.proofs.footprint.written_as.Goals as goal

pub returns : goal.returns
returns c =
    let to = c.destinations-to.result in
    let is_in = λ (x : Place). same_role (role_at c.args.g.now.op x) c.args.role in
    let first : if_any c.filter.result ≡ filter is_in (if_any to.first) = search rules in
    let second : if_any c.filter-2.result ≡ filter is_in (if_any to.second) = search rules in
    rw (c.if_there.ensures, c.if_there-2.ensures, first, second)
    (sym (set_of-append (filter is_in (if_any to.first)) (filter is_in (if_any to.second)))
    ∙ ap set_of (sym (filter-append is_in (if_any to.first) (if_any to.second)) ∙ ap (filter is_in) c.destinations-to.ensures.list))
