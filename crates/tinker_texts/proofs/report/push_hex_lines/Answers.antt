use Rattle.std.proofs.Common.{◌++◌, List, ℕ, ap, sym, ◌∙◌, append_assoc, string_bytes}
use Rattle.std.specs.List.{flat_map, range_with_len}
use Rattle.tinker_texts.specs.Report.{hex_line}
use Rattle.tinker_texts.proofs.HexLines.{flat_map-range_with_len-more}
use Rattle.tinker_texts.proofs.report.push_hex_lines.Goals as goal

pub loop-i-preserved : goal.loop-i-preserved
loop-i-preserved c =
    let bytes = c.args.bytes.now in
    let before : List ℕ = string_bytes c.args.text.now in
    let line : List ℕ = hex_line bytes c.loop-i.i in
    c.in_ok-push_hex_line.ensures ∙ ap (λ s. s ++ line) c.loop-i.invariant
    ∙ append_assoc before (flat_map (hex_line bytes) (range_with_len 0 c.loop-i.i)) line
    ∙ ap (λ s. before ++ s) (sym (flat_map-range_with_len-more (hex_line bytes) c.loop-i.i))
