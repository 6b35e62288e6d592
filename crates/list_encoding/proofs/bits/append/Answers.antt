use Rattle.std.proofs.Common.{◌*◌, ◌^◌, ◌<◌, ap, ◌∙◌, arith, bit_or}
use Rattle.std.proofs.lemmas.Nat.{or_shifted}
use Rattle.std.proofs.Math.Nat.{mod-eq_of_lt}
use Rattle.list_encoding.proofs.bits.append.Goals as goal

pub returns : goal.returns
returns c =
    let high = c.args.high * 2 ^ c.args.count in
    let below : high < 2 ^ 64 = omega arith in
    ap (λ n. bit_or n c.args.low) (mod-eq_of_lt below) ∙ or_shifted c.args.high c.args.count c.args.low c.requires.low
