use Rattle.std.proofs.Common.{rules, ◌≡◌, ◌<◌, true, length, refl, sym, ap, subst, ◌∙◌, below_more, arith}
use denote.Enum.Bare.{same_true, sameb}
use Rattle.std.proofs.lemmas.Bool.{both_ways}
use Rattle.operation.specs.contracts.UnitKind.{the_type}
use Rattle.operation.specs.declared.Guarded.{Guarded}
use Rattle.operation.specs.declared.UnitKind.{UnitKind}
use Rattle.operation.specs.declared.UnitKind.TheVariants as unit
use Rattle.operation.specs.Places.{unit_kind}
use Rattle.image_check.proofs.UsedKinds.{kind_at}
use Rattle.image_check.proofs.units.block_uses.Goals as goal

-- a kind passes the test of being itself
same_self : (k : UnitKind) → sameb the_type k k ≡ true
same_self unit.I = refl
same_self unit.M = refl
same_self unit.L = refl
same_self unit.P = refl
same_self unit.B = refl

pub returns-then-eq : goal.returns-then-eq
returns-then-eq c =
    let inside : c.loop-i.i < length c.args.block.now.words = omega arith in
    let found = sym (kind_at c.args.block.now c.count-i-end.ensures.good c.loop-i.i inside)
    ∙ sym (c.unit.ensures ∙ ap (λ (o : Guarded). unit_kind o.op) c.op.ensures) in
    let same : c.unit.result ≡ c.args.kind = same_true the_type (search rules) _ _ (sym c.if-eq.ensures) in
    (λ t. record { operation = c.loop-i.i; inside = inside; same = found ∙ same }, λ u. refl)

pub loop-i-preserved : goal.loop-i-preserved
loop-i-preserved c =
    let inside : c.loop-i.i < length c.args.block.now.words = omega arith in
    let found = sym (kind_at c.args.block.now c.count-i-end.ensures.good c.loop-i.i inside)
    ∙ sym (c.unit.ensures ∙ ap (λ (o : Guarded). unit_kind o.op) c.op.ensures) in
    below_more _ _ c.loop-i.invariant (λ e.
    let same : c.unit.result ≡ c.args.kind = sym found ∙ e in
    both_ways (sameb the_type c.unit.result c.args.kind) (sym c.if-eq.ensures)
    (subst (λ (k : UnitKind). sameb the_type c.unit.result k ≡ true) same (same_self c.unit.result)))
