use Rattle.std.proofs.Common.{◌++◌, List, ℕ, ap, sym, ◌∙◌, append_assoc, string_bytes}
use Rattle.std.specs.List.{flat_map, range_with_len}
use Rattle.tinker_texts.specs.Report.{memory_row, memory_line}
use Rattle.tinker_texts.proofs.HexLines.{flat_map-range_with_len-more}
use Rattle.tinker_texts.proofs.report.push_memory_lines.Goals as goal

pub loop-i-preserved : goal.loop-i-preserved
loop-i-preserved c =
    let line : ℕ → List ℕ = λ i. memory_line (memory_row c.args.memory.now i) i in
    let before : List ℕ = string_bytes c.args.text.now in
    let i = c.loop-i.i in
    c.in_ok-push_memory_line.ensures ∙ ap (λ r. string_bytes c.loop-i.text ++ memory_line r i) c.memory_row.ensures
    ∙ ap (λ s. s ++ line i) c.loop-i.invariant
    ∙ append_assoc before (flat_map line (range_with_len 0 i)) (line i)
    ∙ ap (λ s. before ++ s) (sym (flat_map-range_with_len-more line i))
