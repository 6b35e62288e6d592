-- What a link says: its first operation comes before its second, and its delay is one of those that apply.
use Rattle.std.proofs.Common.{◌≡◌, ◌≢◌, ℕ, ◌+◌, ◌-◌, ◌<◌, ◌≤◌, true, false, ◌&&◌, List, [], take, drop, inl, inr, refl, sym, ap, subst, ◌∙◌, arith, Option, Some, None}
use Rattle.std.specs.Prelude.{ℤ, pos, is_some, slice_index}
use Rattle.std.specs.List.{Contains}
use Rattle.std.proofs.lemmas.List.{get_or_past}
use Rattle.std.proofs.lemmas.Bool.{cases_lt, and_from, or_left, or_right, false≢true}
use Rattle.operation.specs.declared.Guarded.{Guarded}
use Rattle.operation.specs.declared.Place.{Place}
use Rattle.operation.specs.Places.{reads, writes, destinations, can_trap}
use Rattle.operation.proofs.PlaceLaws.{written_among}
use Rattle.trap_order.specs.Order.{keep_issue_order}
use Rattle.timed_meaning.specs.declared.TimedOp.{TimedOp}
use Rattle.block_links.specs.declared.links.Dependence.{Dependence}
use Rattle.block_links.specs.declared.links.Link.{Link}
use Rattle.block_links.specs.declared.links.Links.{Links}
use Rattle.block_links.specs.Links.{AreLinks, row, is_linked, delay_by, delay_along}
use Rattle.block_links.proofs.Rows.{one_has, along_linked}
use Rattle.dependences.specs.declared.access.Usage.{Usage}
use Rattle.dependences.specs.declared.access.Usage.TheVariants.{Read, Write}
use Rattle.dependences.specs.declared.access.Access.{Access}
use Rattle.dependences.specs.Before.{feeds, lands_at}
use Rattle.dependences.specs.Accesses.{access_at, are_alike, are_stores}
use Rattle.dependences.specs.Linked.{IsLink, Near, Trap, Input, dependence_of}
use Rattle.dependences.specs.Laws.{AreSound}
use Rattle.dependences.proofs.Usages.{apart_from}
use Rattle.dependences.proofs.Places.{of_some, one_place}
use Rattle.dependences.proofs.Footprints.{keep_law}
use Rattle.dependences.proofs.Told.{Tells, told}
use Rattle.dependences.proofs.InTurn.{not_later}
use Rattle.dependences.proofs.Clashes.{apart_both, written_apart}
use Rattle.dependences.proofs.Together.{none_land_together}
use Rattle.dependences.proofs.Cases.{IsBefore, Fed, Feeds, Both, Listed, Applies, ByFlow, ByAnti, ByOutput, ByList}

-- ---- rows

-- only the operations have links
none_past : (l : Links) (n i : ℕ) → AreLinks l n → n ≤ i → row l i ≡ []
none_past l n i are past =
    let size = are.size in
    let none : slice_index l.starts.items (i + 1) ≡ 0 = get_or_past l.starts.items (i + 1) 0 (omega arith) in
    let less : slice_index l.starts.items (i + 1) - slice_index l.starts.items i ≡ 0 = omega arith in
    ap (λ k. take k (drop (slice_index l.starts.items i) l.links.items)) less

row_inside : (l : Links) (n i : ℕ) (k : Link) → AreLinks l n → Contains (row l i) k → i < n
row_inside l n i k are c = elim (cases_lt i n) [
  | inl lt ↦ lt
  | inr past ↦
      absurd (
      let h = subst (λ (r : List Link). Contains r k) (none_past l n i are past) c in
      let lt = h.1 in
      omega arith)
]

-- ---- what a link says

pub feed_at : (a b : Guarded) (x : Place) → writes a.op x ≡ true → reads b x ≡ true → feeds a b ≡ true
feed_at a b x w r = of_some (reads b) (destinations a.op) x (written_among a.op x w) r

-- of two operations and a dependence
pub record LinkSays (ops : ℕ → TimedOp) (n i j : ℕ) (d : Dependence) : Type 0 where
  pub inside : j < n
  pub differ : i ≢ j
  pub comes : IsBefore i j (ops i) (ops j)
  pub applies : (la lb : ℕ) → Applies (ops i).guarded (ops j).guarded la lb (delay_by d la lb)

module _ (ops : ℕ → TimedOp) (n : ℕ) (list : List Access) (l : Links) (s : AreSound ops n list l) where
  near : (a b : Access) (u v : Usage) → Tells ops n a u → Tells ops n b v → a.place ≡ b.place → a.time ≤ b.time → a.number ≢ b.number →
      are_alike u v ≡ false → are_stores u v ≡ false → LinkSays ops n a.number b.number (dependence_of u v)
  near a b Read Read f g e le ne unlike apart = absurd (let k : ⊥ = cc in k)
  near a b Read (Write r) f g e le ne unlike apart =
      let same : f.of ≡ g.of = one_place f.of g.of f.in_range g.in_range (sym f.numbered ∙ e ∙ g.numbered) in
      let fed = feed_at (ops b.number).guarded (ops a.number).guarded f.of (ap (writes (ops b.number).guarded.op) same ∙ g.writes_it) f.reads_it in
      record {
        inside = g.inside;
        differ = ne;
        comes = Feeds fed (let x = f.timed in let y = g.timed in omega arith);
        applies = λ la lb. ByAnti fed refl;
      }
  near a b (Write r) Read f g e le ne unlike apart =
      let same : f.of ≡ g.of = one_place f.of g.of f.in_range g.in_range (sym f.numbered ∙ e ∙ g.numbered) in
      let fed = feed_at (ops a.number).guarded (ops b.number).guarded f.of f.writes_it (ap (reads (ops b.number).guarded) same ∙ g.reads_it) in
      record {
        inside = g.inside;
        differ = ne;
        comes = Fed fed (let x = f.timed in let y = g.timed in omega arith);
        applies = λ la lb. ByFlow fed refl;
      }
  near a b (Write r) (Write t) f g e le ne unlike apart =
      let both = apart_both (ops a.number).guarded.op (ops b.number).guarded.op (written_apart ops n a b r t f g e (apart_from r t apart unlike)) in
      record {
        inside = g.inside;
        differ = ne;
        comes = Both both (elim (cases_lt (lands_at (ops a.number)) (lands_at (ops b.number))) [
          | inl lt ↦ lt
          | inr ge ↦
              absurd (none_land_together ops n list s.accesses s.apart a.number b.number
              (record { first = f.inside; second = g.inside; differ = ne; write = both; land = (let x = f.timed in let y = g.timed in omega arith) }))
        ]);
        applies = λ la lb. ByOutput both refl;
      }

  -- in list order
  in_order : (i j : ℕ) → keep_issue_order (ops i).guarded.op (ops j).guarded.op ≡ true → i < j → j < n → (d : Dependence) → ((la lb : ℕ) → delay_by d la lb ≡ pos 0) → LinkSays ops n i j d
  in_order i j h lt inside d none =
      let keep = keep_law (ops i).guarded.op (ops j).guarded.op ∙ h in
      record { inside = inside; differ = λ same. omega arith; comes = Listed keep lt; applies = λ la lb. ByList keep (none la lb) }

  link_says : (i j : ℕ) (d : Dependence) → IsLink ops n list i j d → LinkSays ops n i j d
  link_says i j x (Near p q h apart e f ne) =
      let le = not_later ops n list s.accesses p q h.order h.inside h.place in
      let r =
      near (access_at list p) (access_at list q) (access_at list p).usage (access_at list q).usage
      (told ops n list s.accesses p (let a = h.order in let b = h.inside in omega arith))
      (told ops n list s.accesses q h.inside)
      h.place le (λ same. ne (sym e ∙ same ∙ f)) h.unlike apart in
      subst (λ k. LinkSays ops n k j (dependence_of (access_at list p).usage (access_at list q).usage)) e
      (subst (λ k. LinkSays ops n (access_at list p).number k (dependence_of (access_at list p).usage (access_at list q).usage)) f r)
  link_says i j x (Trap h) =
      in_order i j (or_left (can_trap (ops i).guarded.op && can_trap (ops j).guarded.op) _ (and_from _ _ h.first h.second)) h.order h.inside _ (λ la lb. refl)
  link_says i j x (Input h) =
      in_order i j (or_right (can_trap (ops i).guarded.op && can_trap (ops j).guarded.op) _ (and_from _ _ h.first h.second)) h.order h.inside _ (λ la lb. refl)

  -- ---- where there is a link

  -- the dependence of a link from one operation to another, and its delay
  pub record HasLink (lats : ℕ → ℕ) (i j : ℕ) (d : ℤ) : Type 0 where
    pub from : i < n
    pub dependence : Dependence
    pub says : LinkSays ops n i j dependence
    pub delay : delay_by dependence (lats i) (lats j) ≡ d

  pub link_of : (lats : ℕ → ℕ) (i j : ℕ) (d : ℤ) → delay_along lats l i j ≡ Some d → HasLink lats i j d
  link_of lats i j d e =
      let r = one_has lats i (row l i) j d e in
      let k = r.0 in
      let lt = row_inside l n i k s.linked.links r.1 in
      record {
        from = lt;
        dependence = k.dependence;
        says = link_says i j k.dependence (subst (λ x. IsLink ops n list i x k.dependence) r.2 ((s.linked.just i k lt).0 r.1));
        delay = ap (λ x. delay_by k.dependence (lats i) (lats x)) (sym r.2) ∙ r.3;
      }

  pub linked_says : (i j : ℕ) → is_linked l i j ≡ true → (i < n) × (d : Dependence) × LinkSays ops n i j d
  linked_says i j h = go (delay_along (λ k. 1) l i j) refl (along_linked (λ k. 1) l i j ∙ h)
    where
      go : (o : Option ℤ) → delay_along (λ k. 1) l i j ≡ o → is_some o ≡ true → (i < n) × (d : Dependence) × LinkSays ops n i j d
      go None e t = absurd (false≢true t)
      go (Some d) e t = let r = link_of (λ k. 1) i j d e in (r.from, r.dependence, r.says)
