use Rattle.std.proofs.Common.{sym, ap, ◌∙◌}
use Rattle.std.specs.Prelude.{is_some}
use Rattle.std.specs.List.{list_all}
use Rattle.contexts.specs.declared.seat.Seat as code
use Rattle.contexts.specs.Core.{Seat, Contexts}
use Rattle.contexts.proofs.Rounds.{all_seen}
use Rattle.contexts.proofs.cores.Core.have_ended.Goals as goal

pub returns : goal.returns
returns c =
    c.all_ended.ensures
    ∙ ap (list_all (λ (seat : code.Seat). is_some seat.end)) c.deref.ensures.value
    ∙ sym (all_seen c.self.inside.seats.items)
    ∙ ap (λ (core : Contexts). list_all (λ (seat : Seat). is_some seat.end) core.seats) c.self.view_is
