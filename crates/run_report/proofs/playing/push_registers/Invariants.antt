use Rattle.std.proofs.Common.{◌≡◌, ◌++◌, string_bytes, IfSome}
use Rattle.std.specs.Prelude.{slice_get, slice_index}
use Rattle.std.specs.List.{flat_map, range_with_len}
use Rattle.tinker_texts.specs.Looks.{register_text}
use Rattle.run_report.proofs.playing.push_registers.Given as goal

abbrev pub invariant-loop-r : goal.invariant-loop-r
invariant-loop-r l = IfSome (slice_get l.core.seats l.c) (λ seat. string_bytes l.text
    ≡ string_bytes l.fn.text ++ flat_map (λ r. register_text r (slice_index seat.moment.state.general r)) (range_with_len 0 l.r))
