use Rattle.std.proofs.Common.{◌≡◌, ◌++◌, ◌∷◌, [], ◌*◌, ◌-◌, List, ℕ, ap, sym, ◌∙◌, append_assoc, string_bytes, take, drop, length, length-drop, min, arith}
use Rattle.std.proofs.lemmas.List.{take_min}
use Rattle.std.proofs.Math.Seq.{take-length}
use Rattle.tinker_texts.specs.Report.{hex}
use Rattle.tinker_texts.proofs.report.push_hex_line.Goals as goal

pub returns : goal.returns
returns c =
    let before : List ℕ = string_bytes c.args.text.now in
    let from = 32 * c.args.i in
    let rest : List ℕ = drop from c.args.bytes.now in
    let whole : take (length c.args.bytes.now - from) rest ≡ rest = ap (λ n. take n rest) (sym (length-drop from c.args.bytes.now)) ∙ take-length rest in
    let least : c.min.result ≡ min 32 (length rest) = omega (arith, length-drop from c.args.bytes.now) in
    let line : take c.min.result (take (length c.args.bytes.now - from) rest) ≡ take 32 rest =
    ap (λ xs. take c.min.result xs) whole ∙ ap (λ n. take n rest) least ∙ take_min 32 rest in
    c.in_ok-push_str.ensures.bytes ∙ ap (λ s. s ++ 10 ∷ []) (c.in_ok-push_hex.ensures ∙ ap (λ xs. before ++ hex xs) line)
    ∙ append_assoc before (hex (take 32 rest)) (10 ∷ [])
