-- Pairs of operations that keep their order in the list.
use Rattle.std.proofs.Common.{◌≡◌, true, ◌&&◌, inl, inr, refl, ◌∙◌}
use Rattle.std.proofs.Math.Bool.{and_comm}
use Rattle.std.proofs.lemmas.Bool.{and_from, or_left, or_right}
use Rattle.operation.specs.declared.Op.{Op}
use Rattle.operation.specs.Places.{can_trap, is_inb}
use Rattle.trap_order.specs.Order.{keep_issue_order}
use Rattle.two_timings.specs.Timing.{KeepListOrder}

pub both_trap : (a b : Op) → can_trap a ≡ true → can_trap b ≡ true → keep_issue_order a b ≡ true
both_trap a b s t = or_left (can_trap a && can_trap b) (is_inb a && is_inb b) (and_from (can_trap a) (can_trap b) s t)

pub both_take : (a b : Op) → is_inb a ≡ true → is_inb b ≡ true → keep_issue_order a b ≡ true
both_take a b s t = or_right (can_trap a && can_trap b) (is_inb a && is_inb b) (and_from (is_inb a) (is_inb b) s t)

order-flip : (a b : Op) → keep_issue_order a b ≡ keep_issue_order b a
order-flip a b = rw (and_comm (can_trap a) (can_trap b), and_comm (is_inb a) (is_inb b)) refl

pub keep-flip : (a b : Op) → KeepListOrder a b → KeepListOrder b a
keep-flip a b (inl k) = inl (k.1, k.0)
keep-flip a b (inr k) = inr (order-flip b a ∙ k)
