-- A guarded operation is determined by its guard and its operation.
use Rattle.std.proofs.Common.{◌≡◌, ℕ, ap, subst, IsTrue}
use Rattle.std.proofs.Props.{props}
use Rattle.operation.specs.declared.Op.{Op}
use Rattle.operation.specs.declared.Guarded.{Guarded}
use Rattle.operation.specs.Ranges.{is_in_range}

abbrev made : (guard : ℕ) (o : Op) → IsTrue (is_in_range guard o) → Guarded
made guard o fact = record { guard = guard; op = o; in_range = fact }

-- the same guard and the same operation, with any two proofs of the fact
made-fact : (guard : ℕ) (o : Op) (x y : IsTrue (is_in_range guard o)) → made guard o x ≡ made guard o y
made-fact guard o x y =
    let one : IsProp (IsTrue (is_in_range guard o)) = hlevel props in ap (made guard o) (one x y)

made-op :
    (guard : ℕ) (o p : Op) → o ≡ p → (x : IsTrue (is_in_range guard o)) (y : IsTrue (is_in_range guard p)) →
    made guard o x ≡ made guard p y
made-op guard o p same x =
    subst (λ (q : Op). (y : IsTrue (is_in_range guard q)) → made guard o x ≡ made guard q y) same (made-fact guard o x)

made-parts :
    (g h : ℕ) (o p : Op) → g ≡ h → o ≡ p → (x : IsTrue (is_in_range g o)) (y : IsTrue (is_in_range h p)) →
    made g o x ≡ made h p y
made-parts g h o p same_guard same_op x =
    subst (λ (k : ℕ). (y : IsTrue (is_in_range k p)) → made g o x ≡ made k p y) same_guard (made-op g o p same_op x)

pub equal_by_parts : (a b : Guarded) → a.guard ≡ b.guard → a.op ≡ b.op → a ≡ b
equal_by_parts a b same_guard same_op = made-parts a.guard b.guard a.op b.op same_guard same_op a.in_range b.in_range
