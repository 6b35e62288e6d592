-- What stands between two operations is the same both ways, and nothing is before itself.
use Rattle.std.proofs.Common.{◌≡◌, ℕ, Bool, true, false, cond, not, ◌&&◌, ◌||◌, refl, sym, ap, ◌∙◌, Some, None}
use Rattle.std.specs.Prelude.{nat_eq, nat_lt, bit_or}
use Rattle.std.proofs.Math.Bool.{and_comm as both_comm}
use Rattle.std.proofs.lemmas.Bool.{eq-eqb}
use Rattle.std.proofs.lemmas.Nat.{and_comm, or_comm}
use Rattle.operation.specs.declared.Op.{Op}
use Rattle.operation.specs.Places.{can_trap, is_inb}
use Rattle.trap_order.specs.Order.{keep_issue_order}
use Rattle.dependences.specs.declared.graph.Node.{Node}
use Rattle.dependences.specs.declared.graph.Meeting.{Meeting}
use Rattle.dependences.specs.declared.footprint.Footprint.{Footprint}
use Rattle.dependences.specs.Footprint.{is_stranger_to, feeds, clashes}
use Rattle.dependences.specs.Graph.{meeting, turned, greatest_of, before_in_any_list, have_nothing_in_common, delay_by_meeting, delay_of_nodes}
use Rattle.dependences.proofs.PlaceSets.{or_assoc}

-- ---- both ways

or_swap : (x y z : ℕ) → bit_or (bit_or x y) z ≡ bit_or (bit_or x z) y
or_swap x y z = or_assoc x y z ∙ ap (bit_or x) (or_comm y z) ∙ sym (or_assoc x z y)

-- three sets, each of what two have in common
three_turned : (p q r p' q' r' : ℕ) → p ≡ p' → q ≡ q' → r ≡ r' → bit_or (bit_or p q) r ≡ bit_or (bit_or r' q') p'
three_turned p q r p' q' r' e f g =
    rw (e, f, g) (or_comm (bit_or p' q') r' ∙ sym (or_assoc r' p' q') ∙ or_swap r' p' q')

strangers_turned : (a b : Footprint) → is_stranger_to a b ≡ is_stranger_to b a
strangers_turned a b =
    ap (λ n. nat_eq n 0) (three_turned _ _ _ _ _ _ (and_comm a.writes b.reads) (and_comm a.writes b.writes) (and_comm a.reads b.writes))

four_turned : (p q r s p' q' r' s' : ℕ) → p ≡ p' → q ≡ q' → r ≡ r' → s ≡ s' →
    bit_or (bit_or (bit_or p q) r) s ≡ bit_or (bit_or (bit_or q' p') s') r'
four_turned p q r s p' q' r' s' e f g h = rw (e, f, g, h) (or_swap (bit_or p' q') r' s' ∙ ap (λ n. bit_or (bit_or n s') r') (or_comm p' q'))

clashes_turned : (a b : Footprint) → clashes a b ≡ clashes b a
clashes_turned a b =
    ap (λ n. not (nat_eq n 0))
    (four_turned _ _ _ _ _ _ _ _ (and_comm a.plain b.writes) (and_comm a.writes b.plain) (and_comm a.ones b.zeros) (and_comm a.zeros b.ones))

pub kept_turned : (a b : Op) → keep_issue_order a b ≡ keep_issue_order b a
kept_turned a b =
    ap (λ t. t || (is_inb a && is_inb b)) (both_comm (can_trap a) (can_trap b)) ∙ ap (λ t. (can_trap b && can_trap a) || t) (both_comm (is_inb a) (is_inb b))

pub meeting_turned : (a b : Node) → turned (meeting a b) ≡ meeting b a
meeting_turned a b =
    let f = feeds b.footprint a.footprint in
    let g = feeds a.footprint b.footprint in
    let made : Bool → Bool → Meeting = λ w k. record { feeds = f; fed = g; both_write = w; in_list_order = k } in
    ap (λ (w : Bool). made w (keep_issue_order a.timed.guarded.op b.timed.guarded.op)) (clashes_turned a.footprint b.footprint)
    ∙ ap (λ (k : Bool). made (clashes b.footprint a.footprint) k) (kept_turned a.timed.guarded.op b.timed.guarded.op)

pub nothing_turned : (a b : Node) → have_nothing_in_common a b ≡ have_nothing_in_common b a
nothing_turned a b =
    ap (λ (s : Bool). s && not (keep_issue_order a.timed.guarded.op b.timed.guarded.op)) (strangers_turned a.footprint b.footprint)
    ∙ ap (λ (k : Bool). is_stranger_to b.footprint a.footprint && not k) (kept_turned a.timed.guarded.op b.timed.guarded.op)

-- ---- the delays of a pair

-- two that have nothing in common have none
pub none_of_strangers : (i j : ℕ) (a b : Node) → have_nothing_in_common a b ≡ true → delay_of_nodes i j a b ≡ None
none_of_strangers i j a b e = ap (λ (t : Bool). cond t None (delay_by_meeting (meeting a b) i j a b)) e

-- and others what stands between them says
pub by_meeting : (i j : ℕ) (a b : Node) → have_nothing_in_common a b ≡ false → delay_of_nodes i j a b ≡ delay_by_meeting (meeting a b) i j a b
by_meeting i j a b e = ap (λ (t : Bool). cond t None (delay_by_meeting (meeting a b) i j a b)) e

pub none_before_itself : (i j : ℕ) (a b : Node) → i ≡ j → delay_of_nodes i j a b ≡ None
none_before_itself i j a b same = go (have_nothing_in_common a b)
  where
    go : (t : Bool) → cond t None (delay_by_meeting (meeting a b) i j a b) ≡ None
    go true = refl
    go false =
        ap (λ (e : Bool). cond (not e && (before_in_any_list (meeting a b) a b || ((meeting a b).in_list_order && nat_lt i j))) (Some (greatest_of (meeting a b) a b)) None) (eq-eqb i j same)
