use Rattle.std.proofs.Common.{◌≡◌, ◌++◌, take, string_bytes}
use Rattle.run_report.specs.Run.{texts_from}
use Rattle.run_report.specs.Seats.{seat_part}
use Rattle.run_report.proofs.parts.push_parts.Given as goal

abbrev pub invariant-loop-c : goal.invariant-loop-c
invariant-loop-c l = string_bytes l.text ≡ string_bytes l.fn.text ++ texts_from (seat_part l.dump) 0 (take l.c l.core.seats)
