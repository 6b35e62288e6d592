use Rattle.std.proofs.Common.{◌≡◌, ◌+◌, ◌++◌, ℕ, List, string_bytes, IfSome, ap, sym, subst, ◌∙◌, append_assoc, arith}
use Rattle.std.specs.Prelude.{slice_get, slice_index}
use Rattle.std.specs.List.{flat_map, range_with_len}
use Rattle.contexts.specs.Core.{Seat}
use Rattle.tinker_texts.specs.Looks.{register_text}
use Rattle.tinker_texts.proofs.HexLines.{flat_map-range_with_len-more}
use Rattle.run_report.proofs.Texts.{if_both}
use Rattle.run_report.proofs.playing.push_registers.Goals as goal

pub loop-r-preserved : goal.loop-r-preserved
loop-r-preserved c =
    let r = c.loop-r.r in
    let before : List ℕ = string_bytes c.args.text.now in
    if_both (slice_get c.args.core.now.seats c.args.c)
    (λ (seat : Seat). string_bytes c.loop-r.text ≡ before ++ flat_map (λ r. register_text r (slice_index seat.moment.state.general r)) (range_with_len 0 r))
    (λ seat. c.general.result ≡ slice_index seat.moment.state.general r)
    (λ seat. string_bytes c.push_register.new.text ≡ before ++ flat_map (λ r. register_text r (slice_index seat.moment.state.general r)) (range_with_len 0 (r + 1)))
    (λ seat so value.
    let line : ℕ → List ℕ = λ r. register_text r (slice_index seat.moment.state.general r) in
    c.in_ok-push_register.ensures ∙ ap (λ v. string_bytes c.loop-r.text ++ register_text r v) value
    ∙ ap (λ t. t ++ line r) so
    ∙ append_assoc before (flat_map line (range_with_len 0 r)) (line r)
    ∙ ap (λ t. before ++ t) (sym (flat_map-range_with_len-more line r)))
    c.loop-r.invariant c.general.ensures

pub returns : goal.returns
returns c =
    let below = c.loop-r-test.false in
    let most = c.loop-r.auto in
    let all : c.loop-r.r ≡ 32 = omega arith in
    subst (λ (n : ℕ). IfSome (slice_get c.args.core.now.seats c.args.c) (λ (seat : Seat). string_bytes c.loop-r.text
    ≡ string_bytes c.args.text.now ++ flat_map (λ r. register_text r (slice_index seat.moment.state.general r)) (range_with_len 0 n))) all c.loop-r.invariant
