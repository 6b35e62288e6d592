use Rattle.std.proofs.Common.{◌≡◌, ◌∙◌, ◌<◌, Bool, refl, ap, w8, arith, to_z, of_z}
use Rattle.std.specs.Prelude.{ℤ, pos, negsuc, ◌+ℤ◌, ◌-ℤ◌}
use Rattle.std.specs.Int.Signed.{mag}
use Rattle.std.proofs.lemmas.Int.{ints}
use Rattle.dependences.specs.Graph.{at_least}
use Rattle.dependences.proofs.graph.Meeting.greatest.Goals as goal

-- a number that fits stays as it is
held : (z : ℤ) → mag z < 128 → to_z w8 (of_z w8 z) ≡ z
held z fits = omega (arith, ints)

-- one delay more
step : (r d x y : ℤ) (t : Bool) → mag d < 128 → r ≡ at_least (to_z w8 (of_z w8 d)) t x → x ≡ y → r ≡ at_least d t y
step r d x y t fits e f = e ∙ ap (λ (z : ℤ). at_least z t x) (held d fits) ∙ ap (λ (z : ℤ). at_least d t z) f

pub returns : goal.returns
returns c =
    let la = c.args.a.now.latency in
    let lb = c.args.b.now.latency in
    let p = c.requires.first in
    let q = c.requires.second in
    let m = c.args.self.now in
    let first : to_z w8 la ≡ pos la = omega (arith, ints) in
    held c.at_least.result c.at_least.type_inv
    ∙ step c.at_least.result c.at_least-delay-3.result (pos 0) (pos 0) m.in_list_order c.at_least-delay-3.type_inv c.at_least.ensures refl
    ∙ ap (λ (d : ℤ). at_least d m.in_list_order (pos 0))
    (step c.at_least-delay-3.result c.at_least-delay-2.result _ ((pos la -ℤ pos lb) +ℤ pos 1) m.both_write c.at_least-delay-2.type_inv c.at_least-delay-3.ensures (omega (arith, ints))
    ∙ ap (λ (d : ℤ). at_least d m.both_write ((pos la -ℤ pos lb) +ℤ pos 1))
    (step c.at_least-delay-2.result c.at_least-delay.result _ (pos 1 -ℤ pos lb) m.fed c.at_least-delay.type_inv c.at_least-delay-2.ensures (omega (arith, ints))
    ∙ ap (λ (d : ℤ). at_least d m.fed (pos 1 -ℤ pos lb))
    (c.at_least-delay.ensures ∙ ap (λ (z : ℤ). at_least (negsuc 30) m.feeds z) first)))
