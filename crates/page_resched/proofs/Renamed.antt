-- A block whose operations have other numbers.
use Rattle.std.proofs.Common.{◌≡◌, ◌≢◌, ℕ, ◌+◌, ◌<◌, ◌≤◌, Bool, cond, ◌&&◌, List, [], ◌∷◌, inl, inr, refl, sym, ap, subst, ◌∙◌, arith, IsTrue, IsFalse, map}
use Rattle.std.specs.Prelude.{nat_eq, nat_le, nat_lt}
use Rattle.std.specs.List.{count_by}
use Rattle.operation.specs.declared.Guarded.{Guarded}
use Rattle.operation.specs.declared.Place.{Place}
use Rattle.operation.specs.Places.{reads, writes, is_store, is_load, is_branch, latency_kind, unit_kind}
use Rattle.machine_desc.specs.Description.{Description, units_of, busy_of}
use Rattle.serial_order.specs.Lists.{Among, Earlier, EachOnce}
use Rattle.two_timings.specs.Timing.{Timing, lands, IsTiming, BothWriteAt}
use Rattle.two_timings.specs.Before.{Before, Read, ReadOld, Write, Load, LoadOld, Stores, Issue}
use Rattle.machine_desc.specs.Issue.{issuing, busy_on, keeps_busy, same_unit}
use Rattle.dependences.specs.Before.{is_at_odds}
use Rattle.latency_deps.specs.Breaks.{unit_of, busy_time}
use Rattle.serial_order.proofs.Earlier.{never_both, which_earlier, earlier_left}
use Rattle.serial_order.proofs.Members.{earlier_right}
use Rattle.trap_order.specs.Order.{keep_issue_order}
use Rattle.list_sched.proofs.Counts.{count_cons}
use Rattle.page_resched.proofs.Settings.{FitsMachine, KeepsTimes}

pub among_map : (f : ℕ → ℕ) (l : List ℕ) (k : ℕ) → Among k l → Among (f k) (map f l)
among_map f [] k a = elim a [ ]
among_map f (x ∷ xs) k (inl e) = inl (ap f e)
among_map f (x ∷ xs) k (inr a) = inr (among_map f xs k a)

pub map_among : (f : ℕ → ℕ) (l : List ℕ) (y : ℕ) → Among y (map f l) → (k : ℕ) × Among k l × (f k ≡ y)
map_among f [] y a = elim a [ ]
map_among f (x ∷ xs) y (inl e) = (x, inl refl, e)
map_among f (x ∷ xs) y (inr a) = let r = map_among f xs y a in (r.0, inr r.1, r.2)

earlier_map : (f : ℕ → ℕ) (l : List ℕ) (i j : ℕ) → Earlier l i j → Earlier (map f l) (f i) (f j)
earlier_map f [] i j e = elim e [ ]
earlier_map f (x ∷ xs) i j (inl e) = inl (ap f e.0, among_map f xs j e.1)
earlier_map f (x ∷ xs) i j (inr e) = inr (earlier_map f xs i j e)

once_map : (f : ℕ → ℕ) (l : List ℕ) → EachOnce (map f l) → EachOnce l
once_map f [] o = tt
once_map f (x ∷ xs) o = (λ a. o.0 (among_map f xs x a), once_map f xs o.1)

injective : (f : ℕ → ℕ) (l : List ℕ) → EachOnce (map f l) → (i j : ℕ) → Among i l → Among j l → f i ≡ f j → i ≡ j
injective f l o i j a b e = elim (which_earlier l i j a b) [
  | inl g ↦ g
  | inr (inl g) ↦ absurd (let m = subst (λ n. Earlier (map f l) (f i) n) (sym e) (earlier_map f l i j g) in never_both (map f l) (f i) (f i) o m m)
  | inr (inr g) ↦ absurd (let m = subst (λ n. Earlier (map f l) (f j) n) e (earlier_map f l j i g) in never_both (map f l) (f j) (f j) o m m)
]

earlier_unmap : (f : ℕ → ℕ) (l : List ℕ) → EachOnce (map f l) → (i j : ℕ) → Among i l → Among j l → Earlier (map f l) (f i) (f j) → Earlier l i j
earlier_unmap f l o i j a b e = elim (which_earlier l i j a b) [
  | inl g ↦ absurd (let m = subst (λ n. Earlier (map f l) (f n) (f j)) g e in never_both (map f l) (f j) (f j) o m m)
  | inr (inl g) ↦ g
  | inr (inr g) ↦ absurd (never_both (map f l) (f i) (f j) o e (earlier_map f l j i g))
]

count_map : (f : ℕ → ℕ) (p q : ℕ → Bool) (l : List ℕ) → ((k : ℕ) → Among k l → p k ≡ q (f k)) → count_by p l ≡ count_by q (map f l)
count_map f p q [] h = refl
count_map f p q (x ∷ xs) h =
    count_cons p x xs
    ∙ ap (λ b. cond b 1 0 + count_by p xs) (h x (inl refl))
    ∙ ap (λ n. cond (q (f x)) 1 0 + n) (count_map f p q xs (λ k a. h k (inr a)))
    ∙ sym (count_cons q (f x) (map f xs))

both_along : (i j i' j' : Guarded) (x : Place) → i ≡ i' → j ≡ j' → BothWriteAt i.op j.op x → BothWriteAt i'.op j'.op x
both_along i j i' j' x e f w = subst (λ o. BothWriteAt i'.op o.op x) f (subst (λ o. BothWriteAt o.op j.op x) e w)

-- equal operations with equal times are before one another alike
before_along : (ops ops' : ℕ → Guarded) (t t' : Timing) (i j i' j' : ℕ) → ops i ≡ ops' i' → ops j ≡ ops' j' → t.at i ≡ t'.at i' → t.at j ≡ t'.at j' →
    lands ops t i ≡ lands ops' t' i' → lands ops t j ≡ lands ops' t' j' →
    (Earlier t.listed i j → Earlier t'.listed i' j') → Before ops t i j → Before ops' t' i' j'
before_along ops ops' t t' i j i' j' oi oj ai aj li lj el (Read x m w r h) = Read x m (subst (λ o. IsTrue (writes o.op x)) oi w) (subst (λ o. IsTrue (reads o x)) oj r) (omega arith)
before_along ops ops' t t' i j i' j' oi oj ai aj li lj el (ReadOld x m r w h) = ReadOld x m (subst (λ o. IsTrue (reads o x)) oi r) (subst (λ o. IsTrue (writes o.op x)) oj w) (omega arith)
before_along ops ops' t t' i j i' j' oi oj ai aj li lj el (Write x w h) = Write x (both_along (ops i) (ops j) (ops' i') (ops' j') x oi oj w) (omega arith)
before_along ops ops' t t' i j i' j' oi oj ai aj li lj el (Load u v h) = Load (subst (λ o. IsTrue (is_store o.op)) oi u) (subst (λ o. IsTrue (is_load o.op)) oj v) (omega arith)
before_along ops ops' t t' i j i' j' oi oj ai aj li lj el (LoadOld u v h) = LoadOld (subst (λ o. IsTrue (is_load o.op)) oi u) (subst (λ o. IsTrue (is_store o.op)) oj v) (omega arith)
before_along ops ops' t t' i j i' j' oi oj ai aj li lj el (Stores u v h) = Stores (subst (λ o. IsTrue (is_store o.op)) oi u) (subst (λ o. IsTrue (is_store o.op)) oj v) (el h)
before_along ops ops' t t' i j i' j' oi oj ai aj li lj el (Issue k h) = Issue (subst (λ o. IsTrue (keep_issue_order (ops' i').op o.op)) oj (subst (λ o. IsTrue (keep_issue_order o.op (ops j).op)) oi k)) (el h)

-- operation k of the second block is operation f k of the first
pub record IsRenamed (ops : ℕ → Guarded) (t : Timing) (ops' : ℕ → Guarded) (t' : Timing) (f : ℕ → ℕ) : Type 0 where
  pub listed : map f t'.listed ≡ t.listed
  pub same : (k : ℕ) → Among k t'.listed → ops (f k) ≡ ops' k
  pub at : (k : ℕ) → Among k t'.listed → t.at (f k) ≡ t'.at k
  pub latency : t.latency ≡ t'.latency

module _ (ops ops' : ℕ → Guarded) (t t' : Timing) (f : ℕ → ℕ) (r : IsRenamed ops t ops' t' f) (o : EachOnce t.listed) where
  once : EachOnce (map f t'.listed)
  once = subst EachOnce (sym r.listed) o

  pub among_old : (k : ℕ) → Among k t'.listed → Among (f k) t.listed
  among_old k a = subst (Among (f k)) r.listed (among_map f t'.listed k a)

  pub apart_old : (i j : ℕ) → Among i t'.listed → Among j t'.listed → i ≢ j → f i ≢ f j
  apart_old i j a b ne e = ne (injective f t'.listed once i j a b e)

  lands_same : (k : ℕ) → Among k t'.listed → lands ops t (f k) ≡ lands ops' t' k
  lands_same k a = ap (λ n. n + t.latency (latency_kind (ops (f k)).op)) (r.at k a) ∙ ap (λ w. t'.at k + t.latency (latency_kind w.op)) (r.same k a) ∙ ap (λ l. t'.at k + l (latency_kind (ops' k).op)) r.latency

  earlier_new : (i j : ℕ) → Among i t'.listed → Among j t'.listed → Earlier t.listed (f i) (f j) → Earlier t'.listed i j
  earlier_new i j a b e = earlier_unmap f t'.listed once i j a b (subst (λ l. Earlier l (f i) (f j)) (sym r.listed) e)

  earlier_old : (i j : ℕ) → Earlier t'.listed i j → Earlier t.listed (f i) (f j)
  earlier_old i j e = subst (λ l. Earlier l (f i) (f j)) r.listed (earlier_map f t'.listed i j e)

  pub before_new : (i j : ℕ) → Among i t'.listed → Among j t'.listed → Before ops t (f i) (f j) → Before ops' t' i j
  before_new i j a b = before_along ops ops' t t' (f i) (f j) i j (r.same i a) (r.same j b) (r.at i a) (r.at j b) (lands_same i a) (lands_same j b) (earlier_new i j a b)

  pub before_old : (i j : ℕ) → Among i t'.listed → Among j t'.listed → Before ops' t' i j → Before ops t (f i) (f j)
  before_old i j a b = before_along ops' ops t' t i j (f i) (f j) (sym (r.same i a)) (sym (r.same j b)) (sym (r.at i a)) (sym (r.at j b)) (sym (lands_same i a)) (sym (lands_same j b)) (earlier_old i j)

  pub timing_new : IsTiming t → IsTiming t'
  timing_new h = record {
    each_once = once_map f t'.listed once;
    never_fall = λ i j e.
        let n = h.never_fall (f i) (f j) (earlier_old i j e) in
        let a = r.at i (earlier_left t'.listed i j e) in
        let b = r.at j (earlier_right t'.listed i j e) in
        omega arith;
    latencies = λ k. subst (λ l. 0 < l k) r.latency (h.latencies k);
  }

  pub fits_new : (g : Description) → FitsMachine ops g t → FitsMachine ops' g t'
  fits_new g h = record {
    width = λ c. subst (λ n. n ≤ g.width) (sym (count_map f (λ k. nat_eq (t'.at k) c) (λ k. nat_eq (t.at k) c) t'.listed (λ k a. ap (λ n. nat_eq n c) (sym (r.at k a))) ∙ ap (λ l. issuing t.at l c) r.listed)) (h.width c);
    units = λ c u. subst (λ n. n ≤ units_of g u) (sym (count_map f (keeps_busy (unit_of ops') u t'.at (busy_time ops' g) c) (keeps_busy (unit_of ops) u t.at (busy_time ops g) c) t'.listed
        (λ k a. ap (λ n. (nat_le n c && nat_lt c (n + busy_time ops' g k)) && same_unit (unit_of ops' k) u) (sym (r.at k a))
        ∙ ap (λ w. (nat_le (t.at (f k)) c && nat_lt c (t.at (f k) + busy_of g (latency_kind w.op))) && same_unit (unit_kind w.op) u) (sym (r.same k a)))
        ∙ ap (λ l. busy_on (unit_of ops) u t.at (busy_time ops g) l c) r.listed)) (h.units c u);
  }

  pub keeps_new : (end : ℕ) → KeepsTimes ops t end → KeepsTimes ops' t' end
  keeps_new end h = record {
    one_branch = λ i j a b u v. injective f t'.listed once i j a b (h.one_branch (f i) (f j) (among_old i a) (among_old j b) (subst (λ w. IsTrue (is_branch w.op)) (sym (r.same i a)) u) (subst (λ w. IsTrue (is_branch w.op)) (sym (r.same j b)) v));
    drain = λ i a. subst (λ n. n ≤ end) (lands_same i a) (h.drain (f i) (among_old i a));
    branch_end = λ i a u. sym (lands_same i a) ∙ h.branch_end (f i) (among_old i a) (subst (λ w. IsTrue (is_branch w.op)) (sym (r.same i a)) u);
    branch_shadow = λ i b x a m ne u w v.
        let s = h.branch_shadow (f i) (f b) x (among_old i a) (among_old b m) (apart_old i b a m ne) (subst (λ o. IsTrue (is_branch o.op)) (sym (r.same b m)) u) (subst (λ o. IsTrue (writes o.op x)) (sym (r.same i a)) w) (subst (λ o. IsTrue (reads o x)) (sym (r.same b m)) v) in
        let p = lands_same i a in
        let q = r.at b m in
        omega arith;
    landing = λ i j x a b ne w q. h.landing (f i) (f j) x (among_old i a) (among_old j b) (apart_old i j a b ne) (both_along (ops' i) (ops' j) (ops (f i)) (ops (f j)) x (sym (r.same i a)) (sym (r.same j b)) w) (lands_same i a ∙ q ∙ sym (lands_same j b));
    dests = λ i a. subst (λ w. IsFalse (is_at_odds w.op)) (r.same i a) (h.dests (f i) (among_old i a));
  }
