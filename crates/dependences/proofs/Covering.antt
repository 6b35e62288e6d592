-- The delays of links cover those of all pairs.
use Rattle.std.proofs.Common.{◌≡◌, ◌≢◌, ℕ, ◌<◌, ◌≤◌, Bool, true, false, cond, ◌&&◌, List, ◌⊎◌, inl, inr, refl, sym, subst, ◌∙◌, arith, Option, Some, None}
use Rattle.std.specs.Prelude.{nat_lt, ℤ, pos, ◌≤ℤ◌}
use Rattle.std.proofs.lemmas.Int.{ints}
use Rattle.std.proofs.lemmas.Bool.{cases_order, and_parts, ltb-true, lt-ltb}
use Rattle.operation.specs.declared.LatKind.{LatKind}
use Rattle.operation.specs.Places.{latency_kind}
use Rattle.timed_meaning.specs.declared.TimedOp.{TimedOp}
use Rattle.block_links.specs.declared.links.Links.{Links}
use Rattle.block_links.specs.Links.{is_linked, delay_along}
use Rattle.block_links.specs.Cover.{Chain}
use Rattle.dependences.specs.declared.access.Access.{Access}
use Rattle.dependences.specs.Before.{comes_before, applying, greatest}
use Rattle.dependences.specs.Accesses.{read_of, write_of}
use Rattle.dependences.specs.Linked.{latency_among, before_among, delay_among}
use Rattle.dependences.specs.Laws.{AreSound, LinksCover}
use Rattle.dependences.proofs.Footprints.{keep_law}
use Rattle.dependences.proofs.Pairs.{kept_turned}
use Rattle.dependences.proofs.Cases.{before_of, of_before, Applies, ByFlow, ByAnti, ByOutput, ByList, case_applies, at_most_greatest, greatest_applies}
use Rattle.dependences.proofs.Sound.{link_of}
use Rattle.dependences.proofs.Reach.{Reach, along, at_least_of, way_to}
use Rattle.dependences.proofs.Meets.{one_way, turned, fed, both, in_order}
use Rattle.dependences.proofs.Orders.{no_circle}
use Rattle.dependences.proofs.Spanning.{chain_to, links_span}

module _ (ops : ℕ → TimedOp) (n : ℕ) (list : List Access) (l : Links) (s : AreSound ops n list l) (latency : LatKind → ℕ) (some : (k : LatKind) → 1 ≤ latency k) where
  abbrev lats : ℕ → ℕ
  lats = latency_among latency ops

  abbrev way : ℕ → ℕ → Option ℤ
  way = along ops n list l s.linked latency

  -- the greatest delay of a pair
  abbrev most : (i j : ℕ) → ℤ
  most i j = greatest (applying (ops i).guarded (ops j).guarded (lats i) (lats j))

  -- what it is that there is one
  record HasDelay (i j : ℕ) (e : ℤ) : Type 0 where
    low : i < n
    high : j < n
    comes : comes_before i j (ops i) (ops j) ≡ true
    value : most i j ≡ e

  has_delay : (i j : ℕ) (e : ℤ) → delay_among latency ops n i j ≡ Some e → HasDelay i j e
  has_delay i j e h = go (nat_lt i n && nat_lt j n) refl (comes_before i j (ops i) (ops j)) refl h
    where
      go : (b : Bool) → (nat_lt i n && nat_lt j n) ≡ b → (c : Bool) → comes_before i j (ops i) (ops j) ≡ c →
          cond b (cond c (Some (most i j)) None) None ≡ Some e → HasDelay i j e
      go true f true g h = let p = and_parts (nat_lt i n) (nat_lt j n) f in record { low = ltb-true i n p.0; high = ltb-true j n p.1; comes = g; value = cc }
      go true f false g h = absurd (let k : ⊥ = cc in k)
      go false f c g h = absurd (let k : ⊥ = cc in k)

  delay_is : (i j : ℕ) → i < n → j < n → comes_before i j (ops i) (ops j) ≡ true → delay_among latency ops n i j ≡ Some (most i j)
  delay_is i j low high h = rw (lt-ltb i n low, lt-ltb j n high, h) refl

  sound : (i j : ℕ) (d : ℤ) → delay_along lats l i j ≡ Some d → (e : ℤ) × (delay_among latency ops n i j ≡ Some e) × (d ≤ℤ e)
  sound i j d e =
      let r = link_of ops n list l s lats i j d e in
      let says = r.says in (
        most i j,
        delay_is i j r.from says.inside (of_before i j (ops i) (ops j) says.differ says.comes),
        subst (λ x. x ≤ℤ most i j) r.delay (at_most_greatest (ops i).guarded (ops j).guarded (lats i) (lats j) _ (says.applies (lats i) (lats j))),
      )

  -- the second of two operations is reached from the first, where that isn't so from the second
  one_of : (i j : ℕ) (c x d : ℤ) → i ≢ j → (Chain (is_linked l) j i → ⊥) → d ≤ℤ c → Reach way i j c ⊎ Reach way j i x → Reach way i j d
  one_of i j c x d ne no_chain le (inl r) = at_least_of way i j d c le r
  one_of i j c x d ne no_chain le (inr r) = absurd (no_chain (chain_to ops n list l s latency j i x (λ same. ne (sym same)) r))

  -- with each delay that applies
  reached : (i j : ℕ) → i < n → j < n → i ≢ j → (Chain (is_linked l) j i → ⊥) → (d : ℤ) → Applies (ops i).guarded (ops j).guarded (lats i) (lats j) d → Reach way i j d
  reached i j low high ne no_chain d (ByFlow f e) =
      let m = fed ops n list l s latency some i j low high ne f in
      let r = one_way ops n list l s latency some (write_of i (ops i) m.of) (read_of j (ops j) m.of) m.meet in
      one_of i j _ _ d ne no_chain (omega (arith, ints)) r
  reached i j low high ne no_chain d (ByAnti f e) =
      let m = fed ops n list l s latency some j i high low (λ same. ne (sym same)) f in
      let a = read_of i (ops i) m.of in
      let b = write_of j (ops j) m.of in
      let r = one_way ops n list l s latency some a b (turned ops n list l s latency some b a m.meet) in
      one_of i j _ _ d ne no_chain (omega (arith, ints)) r
  reached i j low high ne no_chain d (ByOutput f e) =
      let m = both ops n list l s latency some i j low high ne f in
      let r = one_way ops n list l s latency some (write_of i (ops i) m.of) (write_of j (ops j) m.of) m.meet in
      one_of i j _ _ d ne no_chain (let g = m.no_stores in omega (arith, ints)) r
  reached i j low high ne no_chain d (ByList f e) =
      let a = (ops i).guarded.op in
      let b = (ops j).guarded.op in
      one_of i j (pos 0) (pos 0) d ne no_chain (omega (arith, ints)) (elim (cases_order i j) [
        | inl same ↦ absurd (ne same)
        | inr (inl before) ↦ inl (in_order ops n list l s latency some i j low high ne f before)
        | inr (inr behind) ↦
            inr (in_order ops n list l s latency some j i high low (λ same. ne (sym same)) (keep_law b a ∙ kept_turned b a ∙ sym (keep_law a b) ∙ f) behind)
      ])

pub links_cover : LinksCover
links_cover ops n list l s none latency range = record {
  sound = sound ops n list l s latency some;
  reached = λ i j e h.
      let r = has_delay ops n list l s latency some i j e h in
      let b = before_of i j (ops i) (ops j) r.comes in
      let spans = links_span ops n list l s in
      let c = case_applies i j (ops i) (ops j) (lats i) (lats j) b.1 in
      let g = greatest_applies (ops i).guarded (ops j).guarded (lats i) (lats j) (range (latency_kind (ops j).guarded.op)).1 c.0 c.1 in
      let no_chain = λ (d : Chain (is_linked l) j i). no_circle n (is_linked l) (before_among ops) spans none i j (spans.reached i j r.low r.high r.comes) d in
      let w = reached ops n list l s latency some i j r.low r.high b.0 no_chain _ g in
      way_to (delay_along lats l) i j e b.0 (subst (Reach (delay_along lats l) i j) r.value w);
}
  where
    some : (k : LatKind) → 1 ≤ latency k
    some k = (range k).0

    lats : ℕ → ℕ
    lats = latency_among latency ops
