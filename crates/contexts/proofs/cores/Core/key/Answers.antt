use Rattle.std.proofs.Common.{◌≡◌, ◌<◌, length, refl, sym, ap, subst, ◌∙◌, Option, Some, arith}
use Rattle.std.proofs.lemmas.List.{length-map}
use Rattle.std.specs.Prelude.{slice_get, IfSome}
use Rattle.std.proofs.lemmas.Option.{slice_get-get_or}
use Rattle.image_format.specs.Image.{page_count}
use Rattle.page_fault.specs.declared.Loaded.{Loaded}
use Rattle.contexts.specs.declared.seat.Seat as code
use Rattle.contexts.specs.Core.{Contexts, IsKeyOf}
use Rattle.contexts.specs.Standing.{contexts_of, seat_of}
use Rattle.contexts.proofs.Lists.{at_mapped}
use Rattle.contexts.proofs.Systems.{own_at, context_at}
use Rattle.contexts.proofs.Keys.{key_is_there}
use Rattle.contexts.proofs.cores.Core.key.Goals as goal

pub returns-clause-there : goal.returns-clause-there
returns-clause-there c =
    let seats = c.self.inside.seats.items in
    let loading = c.self.inside.loader in
    let all = contexts_of seats loading in
    let core = c.self.invariant in
    let seat : code.Seat = c.index.result.now in
    let below : c.args.c < length all.seats = subst (λ (n : Contexts). c.args.c < length n.seats) (sym c.self.view_is) c.requires.context in
    let inner : c.args.c < length seats = (let m = length-map seats seat_of in omega arith) in
    let at : slice_get seats c.args.c ≡ Some seat =
    slice_get-get_or seats c.args.c seat inner ∙ ap (λ (s : code.Seat). Some s) (sym c.index.ensures) in
    let x = context_at all core.held core.holds c.args.c below in
    let own = own_at all core.held core.holds c.args.c x.0 x.1 in
    let page : IfSome (slice_get loading.programs c.args.c) (λ p. c.args.page < page_count p.image) =
    subst (λ (n : Contexts). IfSome (slice_get n.loading.programs c.args.c) (λ p. c.args.page < page_count p.image)) (sym c.self.view_is) c.requires.page in
    subst (λ (n : Contexts). IsKeyOf n (record { program = seat.program; page = c.args.page })) c.self.view_is
    (key_is_there c.reads_back.ensures seats loading c.self.inside.pages core c.args.c (seat_of seat) own.0 (record { program = seat.program; page = c.args.page })
    (at_mapped seat_of seats c.args.c seat at) own.1 refl
    (subst (λ (o : Option Loaded). IfSome o (λ p. c.args.page < page_count p.image)) own.1 page))
