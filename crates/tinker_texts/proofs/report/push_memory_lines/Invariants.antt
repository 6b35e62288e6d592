use Rattle.std.proofs.Common.{◌≡◌, ◌++◌, string_bytes}
use Rattle.std.specs.List.{flat_map, range_with_len}
use Rattle.tinker_texts.specs.Report.{memory_row, memory_line}
use Rattle.tinker_texts.proofs.report.push_memory_lines.Given as goal

abbrev pub invariant-loop-i : goal.invariant-loop-i
invariant-loop-i l =
    string_bytes l.text ≡ string_bytes l.fn.text ++ flat_map (λ i. memory_line (memory_row l.memory i) i) (range_with_len 0 l.i)
