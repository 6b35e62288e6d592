-- The delays among a block's operations under a generation.
use Rattle.std.proofs.Common.{◌≡◌, ◌≢◌, ℕ, ◌<◌, ◌&&◌, Bool, true, false, cond, length, refl, ap, subst, ◌∙◌, arith, inl, inr, Option, Some, None}
use Rattle.std.specs.Prelude.{ℤ, pos, ◌≤ℤ◌, nat_eq, nat_lt, not, is_some, negsuc, ◌+ℤ◌, ◌-ℤ◌}
use Rattle.std.proofs.lemmas.Int.{ints, clamps}
use Rattle.std.proofs.lemmas.Bool.{lt-ltb, ltb-true, and_from, and_left, and_parts, false≢true, eq-eqb, or_left, or_right}
use Rattle.operation.specs.declared.Guarded.{Guarded}
use Rattle.operation.specs.declared.LatKind.{LatKind}
use Rattle.operation.specs.Places.{latency_kind, is_store}
use Rattle.machine_desc.specs.Description.{Description, IsDescription, latency_of}
use Rattle.timed_meaning.specs.declared.TimedOp.{TimedOp}
use Rattle.trap_order.specs.Order.{keep_issue_order}
use Rattle.latency_deps.specs.Block.{Block, timed_at}
use Rattle.dependences.specs.Before.{both_write}
use Rattle.dependences.specs.Before.{comes_before, delay_between, applying, greatest, feeds, keep_list_order}
use Rattle.latency_deps.specs.Delays.{delay_in, before_in}
use Rattle.dependences.specs.Graph.{at_least}
use Rattle.dependences.proofs.Nodes.{greatest_is, greatest_short, delay_there}
use Rattle.dependences.proofs.Sound.{feed_at}
use Rattle.latency_deps.proofs.Meetings.{at_both}
use Rattle.latency_deps.specs.Delays.{delay_among}
use Rattle.page_resched.proofs.Settings.{Wait, NewValue, OldValue, LastValue, ListOrder}

module _ (g : Description) (b : Block) where
  abbrev n : ℕ
  n = length b.words

  abbrev where_inside : ℕ → ℕ → Bool → Option ℤ
  where_inside i j t = cond t (delay_in g b i j) None

  pub inside : (i j : ℕ) → i < n → j < n → delay_among g b i j ≡ delay_in g b i j
  inside i j h k = ap (where_inside i j) (and_from (nat_lt i n) (nat_lt j n) (lt-ltb i n h) (lt-ltb j n k))

  none_itself : (i : ℕ) → delay_in g b i i ≡ None
  none_itself i =
      let a = timed_at b i in
      ap (λ (t : Bool). cond t (Some (greatest (applying a.guarded a.guarded (latency_of g (latency_kind a.guarded.op)) (latency_of g (latency_kind a.guarded.op))))) None)
      (and_left (not (nat_eq i i)) _ (ap not (eq-eqb i i refl)))

  -- there is one between two operations of the block alone
  pub there : (i j : ℕ) (x : ℤ) → delay_among g b i j ≡ Some x → (i < n) × (j < n) × (delay_in g b i j ≡ Some x)
  there i j x = go (nat_lt i n && nat_lt j n) refl
    where
      go : (t : Bool) → (nat_lt i n && nat_lt j n) ≡ t → where_inside i j t ≡ Some x → (i < n) × (j < n) × (delay_in g b i j ≡ Some x)
      go true e h = let q = and_parts (nat_lt i n) (nat_lt j n) e in (ltb-true i n q.0, ltb-true j n q.1, h)
      go false e h = absurd (let k : ⊥ = cc in k)

  pub never_itself : (i j : ℕ) (x : ℤ) → delay_in g b i j ≡ Some x → i ≢ j
  never_itself i j x h e = let f = none_itself j in let k : delay_in g b j j ≡ Some x = subst (λ m. delay_in g b m j ≡ Some x) e h in absurd (let z : ⊥ = cc in z)

  pub before_there : (i j : ℕ) → i < n → j < n → is_some (delay_among g b i j) ≡ before_in b i j
  before_there i j h k = ap (λ (o : Option ℤ). is_some o) (inside i j h k) ∙ delay_there (latency_of g) i j (timed_at b i) (timed_at b j)

-- ---- the delay where there is one

at_least_it : (d x : ℤ) (t : Bool) → d ≤ℤ at_least d t x
at_least_it d x true = omega (arith, ints, clamps)
at_least_it d x false = omega (arith, ints, clamps)

at_least_one : (d x : ℤ) (t : Bool) → t ≡ true → x ≤ℤ at_least d t x
at_least_one d x true e = omega (arith, ints, clamps)
at_least_one d x false e = absurd (false≢true e)

up : (x y z : ℤ) → x ≤ℤ y → y ≤ℤ z → x ≤ℤ z
up x y z h k = omega (arith, ints)

module _ (a b : Guarded) (la lb : ℕ) where
  abbrev f : Bool
  f = feeds a b

  abbrev g : Bool
  g = feeds b a

  abbrev w : Bool
  w = both_write a.op b.op

  abbrev k : Bool
  k = keep_list_order a.op b.op

  abbrev first : ℤ
  first = at_least (negsuc 30) f (pos la)

  abbrev second : ℤ
  second = at_least first g (pos 1 -ℤ pos lb)

  abbrev third : ℤ
  third = at_least second w ((pos la -ℤ pos lb) +ℤ pos 1)

  abbrev last : ℤ
  last = at_least third k (pos 0)

  whole : greatest (applying a b la lb) ≡ last
  whole = greatest_is f g w k (pos la) (pos 1 -ℤ pos lb) ((pos la -ℤ pos lb) +ℤ pos 1) (pos 0)

  from_third : (x : ℤ) → x ≤ℤ third → x ≤ℤ greatest (applying a b la lb)
  from_third x h = let e = whole in let q = up x third last h (at_least_it third (pos 0) k) in omega (arith, ints)

  from_second : (x : ℤ) → x ≤ℤ second → x ≤ℤ greatest (applying a b la lb)
  from_second x h = from_third x (up x second third h (at_least_it second ((pos la -ℤ pos lb) +ℤ pos 1) w))

  from_first : (x : ℤ) → x ≤ℤ first → x ≤ℤ greatest (applying a b la lb)
  from_first x h = from_second x (up x first second h (at_least_it first (pos 1 -ℤ pos lb) g))

  by_feeding : f ≡ true → pos la ≤ℤ greatest (applying a b la lb)
  by_feeding e = from_first (pos la) (at_least_one (negsuc 30) (pos la) f e)

  by_fed : g ≡ true → (pos 1 -ℤ pos lb) ≤ℤ greatest (applying a b la lb)
  by_fed e = from_second (pos 1 -ℤ pos lb) (at_least_one first (pos 1 -ℤ pos lb) g e)

  by_both : w ≡ true → ((pos la -ℤ pos lb) +ℤ pos 1) ≤ℤ greatest (applying a b la lb)
  by_both e = from_third ((pos la -ℤ pos lb) +ℤ pos 1) (at_least_one second ((pos la -ℤ pos lb) +ℤ pos 1) w e)

  by_order : k ≡ true → pos 0 ≤ℤ greatest (applying a b la lb)
  by_order e = let q = whole in let o = at_least_one third (pos 0) k e in omega (arith, ints)

-- each wait applies
waits : (latency : LatKind → ℕ) (a b : Guarded) (w : ℤ) → Wait latency a b w →
    w ≤ℤ greatest (applying a b (latency (latency_kind a.op)) (latency (latency_kind b.op)))
waits latency a b w (NewValue x u r) = by_feeding a b (latency (latency_kind a.op)) (latency (latency_kind b.op)) (feed_at a b x u r)
waits latency a b w (OldValue x r u) = by_fed a b (latency (latency_kind a.op)) (latency (latency_kind b.op)) (feed_at b a x u r)
waits latency a b w (LastValue x u) = by_both a b (latency (latency_kind a.op)) (latency (latency_kind b.op)) (at_both a.op b.op x u)
waits latency a b w (ListOrder (inl u)) =
    by_order a b (latency (latency_kind a.op)) (latency (latency_kind b.op))
    (or_left (is_store a.op && is_store b.op) (keep_issue_order a.op b.op) (and_from (is_store a.op) (is_store b.op) u.0 u.1))
waits latency a b w (ListOrder (inr u)) =
    by_order a b (latency (latency_kind a.op)) (latency (latency_kind b.op)) (or_right (is_store a.op && is_store b.op) (keep_issue_order a.op b.op) u)

-- a delay between two operations is the greatest wait
is_greatest : (latency : LatKind → ℕ) (i j : ℕ) (a b : TimedOp) (d : ℤ) → delay_between latency i j a b ≡ Some d →
    greatest (applying a.guarded b.guarded (latency (latency_kind a.guarded.op)) (latency (latency_kind b.guarded.op))) ≡ d
is_greatest latency i j a b d = go (comes_before i j a b)
  where
    go : (t : Bool) → cond t (Some (greatest (applying a.guarded b.guarded (latency (latency_kind a.guarded.op)) (latency (latency_kind b.guarded.op))))) None ≡ Some d →
        greatest (applying a.guarded b.guarded (latency (latency_kind a.guarded.op)) (latency (latency_kind b.guarded.op))) ≡ d
    go true e = cc
    go false e = absurd (let k : ⊥ = cc in k)

pub no_longer : (latency : LatKind → ℕ) (i j : ℕ) (a b : TimedOp) (d : ℤ) → delay_between latency i j a b ≡ Some d →
    (w : ℤ) → Wait latency a.guarded b.guarded w → w ≤ℤ d
no_longer latency i j a b d e w h =
    let q = is_greatest latency i j a b d e in
    let r = waits latency a.guarded b.guarded w h in
    omega (arith, ints)

pub is_short : (g : Description) → IsDescription g → (i j : ℕ) (a b : TimedOp) (d : ℤ) → delay_between (latency_of g) i j a b ≡ Some d → d ≤ℤ pos 32
is_short g ok i j a b d e =
    let q = is_greatest (latency_of g) i j a b d e in
    let l = ok.latency (latency_kind a.guarded.op) in
    let m = ok.latency (latency_kind b.guarded.op) in
    let s = (greatest_short a.guarded b.guarded (latency_of g (latency_kind a.guarded.op)) (latency_of g (latency_kind b.guarded.op)) l.0 l.1 m.0 m.1).high in
    omega (arith, ints)
