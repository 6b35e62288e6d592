-- What the nodes of the graph say is what the operations say.
use Rattle.std.proofs.Common.{◌≡◌, ℕ, ◌≤◌, Bool, true, false, cond, not, ◌&&◌, ◌||◌, List, [], ◌++◌, refl, sym, ap, subst, ◌∙◌, Option, Some, None, arith}
use Rattle.std.specs.Prelude.{nat_eq, nat_lt, nat_le, ℤ, pos, negsuc, ◌+ℤ◌, ◌-ℤ◌, ◌≤ℤ◌, is_some}
use Rattle.std.specs.Int.{int_max}
use Rattle.std.specs.List.{fold}
use Rattle.std.proofs.lemmas.Int.{ints, clamps}
use Rattle.std.proofs.lemmas.Bool.{and_right}
use Rattle.operation.specs.declared.Guarded.{Guarded}
use Rattle.operation.specs.declared.LatKind.{LatKind}
use Rattle.operation.specs.Places.{latency_kind}
use Rattle.trap_order.specs.Order.{keep_issue_order}
use Rattle.timed_meaning.specs.declared.TimedOp.{TimedOp}
use Rattle.dependences.specs.declared.graph.Meeting.{Meeting}
use Rattle.dependences.specs.Before.{both_write}
use Rattle.dependences.specs.Before.{lands_at, feeds, keep_list_order, comes_before, where_applies, applying, greatest, delay_between}
use Rattle.dependences.specs.Footprint.{footprint, is_stranger_to, feeds as sets_feed, clashes as sets_clash}
use Rattle.dependences.specs.Graph.{node, meeting, is_before, at_least, greatest_of, delay_by_meeting, delay_of_nodes}
use Rattle.dependences.proofs.Footprints.{feeds_law, clash_law, keep_law, strangers_law}

reorder : (x y z t : Bool) → ((x || (y || z)) || t) ≡ (x || (y || (z || t)))
reorder true y z t = refl
reorder false true z t = refl
reorder false false z t = refl

-- one delay more
fold_more : (d : ℤ) (test : Bool) (x : ℤ) (rest : List ℤ) → fold int_max d (where_applies test x ++ rest) ≡ fold int_max (at_least d test x) rest
fold_more d true x rest = refl
fold_more d false x rest = refl

fold_last : (d : ℤ) (test : Bool) (x : ℤ) → fold int_max d (where_applies test x) ≡ at_least d test x
fold_last d true x = refl
fold_last d false x = refl

-- the greatest of the delays of four cases, one after the other
pub greatest_is : (f g w k : Bool) (x y z v : ℤ) →
    greatest (where_applies f x ++ (where_applies g y ++ (where_applies w z ++ where_applies k v)))
    ≡ at_least (at_least (at_least (at_least (negsuc 30) f x) g y) w z) k v
greatest_is f g w k x y z v =
    fold_more (negsuc 30) f x (where_applies g y ++ (where_applies w z ++ where_applies k v))
    ∙ fold_more (at_least (negsuc 30) f x) g y (where_applies w z ++ where_applies k v)
    ∙ fold_more (at_least (at_least (negsuc 30) f x) g y) w z (where_applies k v)
    ∙ fold_last (at_least (at_least (at_least (negsuc 30) f x) g y) w z) k v

module _ (latency : LatKind → ℕ) (i j : ℕ) (a b : TimedOp) where
  abbrev la : ℕ
  la = latency (latency_kind a.guarded.op)

  abbrev lb : ℕ
  lb = latency (latency_kind b.guarded.op)

  -- the delay of two nodes that meet so
  abbrev by_nodes : (f g w k : Bool) → Option ℤ
  by_nodes f g w k =
      let m : Meeting = record { feeds = f; fed = g; both_write = w; in_list_order = k } in
      cond (is_before m i j (node latency a) (node latency b)) (Some (greatest_of m (node latency a) (node latency b))) None

  abbrev test : (f g w k : Bool) → Bool
  test f g w k =
      not (nat_eq i j)
      && ((f && nat_le (lands_at a) b.at)
      || ((g && nat_lt a.at (lands_at b)) || ((w && nat_lt (lands_at a) (lands_at b)) || (k && nat_lt i j))))

  abbrev by_cases : (f g w k : Bool) → Option ℤ
  by_cases f g w k =
      cond (test f g w k)
      (Some (greatest (where_applies f (pos la) ++ (where_applies g (pos 1 -ℤ pos lb) ++ (where_applies w ((pos la -ℤ pos lb) +ℤ pos 1) ++ where_applies k (pos 0))))))
      None

  alike : (f g w k : Bool) → by_nodes f g w k ≡ by_cases f g w k
  alike f g w k =
      let value = at_least (at_least (at_least (at_least (negsuc 30) f (pos la)) g (pos 1 -ℤ pos lb)) w ((pos la -ℤ pos lb) +ℤ pos 1)) k (pos 0) in
      ap (λ (t : Bool). cond (not (nat_eq i j) && t) (Some value) None)
      (reorder (f && nat_le (lands_at a) b.at) (g && nat_lt a.at (lands_at b)) (w && nat_lt (lands_at a) (lands_at b)) (k && nat_lt i j))
      ∙ ap (λ (z : ℤ). cond (test f g w k) (Some z) None) (sym (greatest_is f g w k (pos la) (pos 1 -ℤ pos lb) ((pos la -ℤ pos lb) +ℤ pos 1) (pos 0)))

  by_meeting : delay_by_meeting (meeting (node latency a) (node latency b)) i j (node latency a) (node latency b) ≡ delay_between latency i j a b
  by_meeting =
      let ga = a.guarded in
      let gb = b.guarded in
      let fa = footprint ga in
      let fb = footprint gb in
      ap (λ (f : Bool). by_nodes f (sets_feed fb fa) (sets_clash fa fb) (keep_issue_order ga.op gb.op)) (feeds_law ga gb)
      ∙ ap (λ (g : Bool). by_nodes (feeds ga gb) g (sets_clash fa fb) (keep_issue_order ga.op gb.op)) (feeds_law gb ga)
      ∙ ap (λ (w : Bool). by_nodes (feeds ga gb) (feeds gb ga) w (keep_issue_order ga.op gb.op)) (clash_law ga gb)
      ∙ ap (λ (k : Bool). by_nodes (feeds ga gb) (feeds gb ga) (both_write ga.op gb.op) k) (sym (keep_law ga.op gb.op))
      ∙ alike (feeds ga gb) (feeds gb ga) (both_write ga.op gb.op) (keep_list_order ga.op gb.op)

  -- operations that have nothing in common come in no order
  no_delay : is_stranger_to (footprint a.guarded) (footprint b.guarded) ≡ true → keep_issue_order a.guarded.op b.guarded.op ≡ false → delay_between latency i j a b ≡ None
  no_delay e f =
      let ga = a.guarded in
      let gb = b.guarded in
      let none = strangers_law ga gb e in
      ap (λ (x : Bool). by_cases x (feeds gb ga) (both_write ga.op gb.op) (keep_list_order ga.op gb.op)) none.to
      ∙ ap (λ (x : Bool). by_cases false x (both_write ga.op gb.op) (keep_list_order ga.op gb.op)) none.from
      ∙ ap (λ (x : Bool). by_cases false false x (keep_list_order ga.op gb.op)) none.apart
      ∙ ap (λ (x : Bool). by_cases false false false x) (keep_law ga.op gb.op ∙ f)
      ∙ ap (λ (x : Bool). cond x (Some (greatest [])) None) (and_right (not (nat_eq i j)) false refl)

  pub delay_law : delay_of_nodes i j (node latency a) (node latency b) ≡ delay_between latency i j a b
  delay_law = go (is_stranger_to (footprint a.guarded) (footprint b.guarded)) refl (keep_issue_order a.guarded.op b.guarded.op) refl
    where
      go : (s : Bool) → is_stranger_to (footprint a.guarded) (footprint b.guarded) ≡ s → (k : Bool) → keep_issue_order a.guarded.op b.guarded.op ≡ k →
          cond (s && not k) None (delay_by_meeting (meeting (node latency a) (node latency b)) i j (node latency a) (node latency b)) ≡ delay_between latency i j a b
      go true e true f = by_meeting
      go true e false f = sym (no_delay e f)
      go false e k f = by_meeting

-- there is a delay exactly where the one comes before the other
pub delay_there : (latency : LatKind → ℕ) (i j : ℕ) (a b : TimedOp) → is_some (delay_between latency i j a b) ≡ comes_before i j a b
delay_there latency i j a b = go (comes_before i j a b)
  where
    go : (t : Bool) → is_some (cond t (Some (greatest (applying a.guarded b.guarded (latency (latency_kind a.guarded.op)) (latency (latency_kind b.guarded.op))))) None) ≡ t
    go true = refl
    go false = refl

-- a delay from -31 to 32
pub record IsShort (z : ℤ) : Type 0 where
  pub low : negsuc 30 ≤ℤ z
  pub high : z ≤ℤ pos 32

short_more : (d x : ℤ) (t : Bool) → IsShort d → IsShort x → IsShort (at_least d t x)
short_more d x true h k = let a = h.low in let b = h.high in let c = k.low in let e = k.high in record { low = omega (arith, ints, clamps); high = omega (arith, ints, clamps) }
short_more d x false h k = h

-- latencies are from 1 to 32, and so delays are short
pub greatest_short : (a b : Guarded) (la lb : ℕ) → 1 ≤ la → la ≤ 32 → 1 ≤ lb → lb ≤ 32 → IsShort (greatest (applying a b la lb))
greatest_short a b la lb p q r s =
    let f = feeds a b in
    let g = feeds b a in
    let w = both_write a.op b.op in
    let k = keep_list_order a.op b.op in
    let first : IsShort (negsuc 30) = record { low = omega (arith, ints); high = omega (arith, ints) } in
    let new : IsShort (pos la) = record { low = omega (arith, ints); high = omega (arith, ints) } in
    let old : IsShort (pos 1 -ℤ pos lb) = record { low = omega (arith, ints); high = omega (arith, ints) } in
    let both : IsShort ((pos la -ℤ pos lb) +ℤ pos 1) = record { low = omega (arith, ints); high = omega (arith, ints) } in
    let last : IsShort (pos 0) = record { low = omega (arith, ints); high = omega (arith, ints) } in
    subst IsShort (sym (greatest_is f g w k (pos la) (pos 1 -ℤ pos lb) ((pos la -ℤ pos lb) +ℤ pos 1) (pos 0)))
    (short_more _ _ k (short_more _ _ w (short_more _ _ g (short_more _ _ f first new) old) both) last)
