-- Heights and least cycles, link by link.
use Rattle.std.proofs.Common.{◌≡◌, ◌≢◌, ℕ, ◌+◌, ◌<◌, ◌≤◌, List, [], ◌∷◌, ◌++◌, length, ◌⊎◌, inl, inr, refl, sym, ap, subst, ◌∙◌, arith, get_or-set_other, get_or-set_same, Some}
use Rattle.std.specs.Prelude.{slice_index, slice_set, ℤ, pos, ◌+ℤ◌, ◌≤ℤ◌}
use Rattle.std.specs.List.{Contains}
use Rattle.std.proofs.lemmas.Int.{ints}
use Rattle.std.proofs.lemmas.Bool.{cases_eq}
use Rattle.std.proofs.lemmas.List.{length-set}
use Rattle.std.proofs.lemmas.List.Elements.{All-nil, All-push, All-weaker, All-contains, Contains-push, Contains-append_left}
use Rattle.operation.specs.declared.UnitKind.{UnitKind}
use Rattle.operation.specs.declared.LatKind.{LatKind}
use Rattle.machine_desc.specs.Description.{Description}
use Rattle.block_links.specs.declared.links.Link.{Link}
use Rattle.block_links.specs.declared.links.Links.{Links}
use Rattle.block_links.specs.Links.{LeadInside, row, delay_of}
use Rattle.block_links.proofs.Rows.{at_most, one_has}
use Rattle.list_sched.specs.Extremes.{IsGreatest}
use Rattle.list_sched.specs.Given.{kind_in, latency_in}
use Rattle.list_sched.specs.Schedule.{IsProblem, Climb, Itself, From}
use Rattle.list_sched.specs.Links.{linked}
use Rattle.list_sched.specs.Steps.{IsHeight, IsHeldBack}

-- ---- heights

module _ (delay : Link → ℤ) (h : ℕ → ℕ) (latency : ℕ) where
  abbrev Below : ℕ → Link → Type 0
  Below n l = (delay l +ℤ pos (h l.to)) ≤ℤ pos n

  pub height_first : IsHeight delay [] latency h latency
  height_first = record { own = omega arith; above = All-nil (Below latency); one = inl refl }

  -- one link more
  pub height_more : (xs : List Link) (x : Link) (n n' : ℕ) → IsHeight delay xs latency h n → n ≤ n' → Below n' x → (n' ≡ n) ⊎ (pos n' ≡ delay x +ℤ pos (h x.to)) →
      IsHeight delay (xs ++ x ∷ []) latency h n'
  height_more xs x n n' s kept above one = record {
    own = let o = s.own in omega arith;
    above = All-push (Below n') xs x (All-weaker (Below n) (Below n') (λ l b. omega (arith, ints)) xs s.above) above;
    one = elim one [
      | inr e ↦ inr (x, Contains-push xs x, e)
      | inl e ↦ elim s.one [ inl o ↦ inl (e ∙ o) | inr r ↦ inr (r.0, Contains-append_left xs (x ∷ []) r.0 r.1, ap pos e ∙ r.2) ]
    ];
  }

module _ (l : Links) (kinds : List (UnitKind × LatKind)) (g : Description) (h : ℕ → ℕ) (i n : ℕ) (s : IsHeight (delay_of (latency_in kinds g) i) (row l i) (latency_in kinds g i) h n) where
  abbrev own : Link → ℤ
  own = delay_of (latency_in kinds g) i

  -- a delay of i's is one of a link
  climb_below : (j : ℕ) (d : ℤ) → (linked l kinds g).delay i j ≡ Some d → (d +ℤ pos (h j)) ≤ℤ pos n
  climb_below j d e =
      let r = one_has (latency_in kinds g) i (row l i) j d e in
      let b = All-contains (λ (k : Link). (own k +ℤ pos (h k.to)) ≤ℤ pos n) (row l i) r.0 s.above r.1 in
      subst (λ m. (d +ℤ pos (h m)) ≤ℤ pos n) r.2 (subst (λ z. (z +ℤ pos (h r.0.to)) ≤ℤ pos n) r.3 b)

  pub is_height : IsGreatest (Climb (linked l kinds g) h i) (pos n)
  is_height = record { holds = holds s.one; greatest = greatest }
    where
      holds : (n ≡ latency_in kinds g i) ⊎ ((k : Link) × Contains (row l i) k × (pos n ≡ own k +ℤ pos (h k.to))) → Climb (linked l kinds g) h i (pos n)
      holds (inl e) = subst (λ m. Climb (linked l kinds g) h i (pos m)) (sym e) Itself
      holds (inr r) =
          let m = at_most (latency_in kinds g) i (row l i) r.0 r.1 in
          let b = climb_below r.0.to m.0 m.1 in
          let same : m.0 +ℤ pos (h r.0.to) ≡ pos n = (let e = r.2 in let le = m.2 in omega (arith, ints)) in
          subst (Climb (linked l kinds g) h i) same (From r.0.to m.0 m.1)

      greatest : (z : ℤ) → Climb (linked l kinds g) h i z → z ≤ℤ pos n
      greatest z Itself = let o = s.own in omega (arith, ints)
      greatest z (From j d e) = climb_below j d e

  pub height_near : IsProblem (linked l kinds g) → LeadInside (length kinds) (row l i) → (b : ℕ) → ((k : ℕ) → k < length kinds → h k ≤ b) → n ≤ b + 32
  height_near ok lead b small = elim s.one [
    | inl e ↦ (let t = (ok.machine.latency (kind_in kinds i)).1 in omega arith)
    | inr r ↦ (let m = at_most (latency_in kinds g) i (row l i) r.0 r.1 in
        let short = ok.short i r.0.to m.0 m.1 in
        let inside = All-contains (λ (k : Link). k.to < length kinds) (row l i) r.0 lead r.1 in
        let f = small r.0.to inside in
        let e = r.2 in let le = m.2 in
        omega (arith, ints))
  ]

-- ---- least cycles

module _ (delay : Link → ℤ) (cycle : ℕ) (old : List ℕ) where
  abbrev Behind : List ℕ → Link → Type 0
  Behind list l = (delay l +ℤ pos cycle) ≤ℤ pos (slice_index list l.to)

  abbrev Held : List Link → List ℕ → ℕ → Type 0
  Held links new j = (slice_index new j ≡ slice_index old j) ⊎ ((l : Link) × Contains links l × (l.to ≡ j) × (pos (slice_index new j) ≡ delay l +ℤ pos cycle))

  pub held_none : IsHeldBack delay [] cycle old old
  held_none = record { size = refl; kept = λ j. omega arith; above = All-nil (Behind old); one = λ j. inl refl }

  -- one link more
  pub held_more : (xs : List Link) (x : Link) (new : List ℕ) (v : ℕ) → IsHeldBack delay xs cycle old new → x.to < length new → slice_index new x.to ≤ v → (delay x +ℤ pos cycle) ≤ℤ pos v →
      (v ≡ slice_index new x.to) ⊎ (pos v ≡ delay x +ℤ pos cycle) → IsHeldBack delay (xs ++ x ∷ []) cycle old (slice_set new x.to v)
  held_more xs x new v s inside more above one = record {
    size = length-set new x.to v ∙ s.size;
    kept = λ j. let k = s.kept j in let r = rises j in omega arith;
    above = All-push (Behind (slice_set new x.to v)) xs x (All-weaker (Behind new) (Behind (slice_set new x.to v)) (λ l b. let r = rises l.to in omega (arith, ints)) xs s.above) (let e = here in omega (arith, ints));
    one = λ j. elim (cases_eq j x.to) [
      | inl e ↦ subst (Held (xs ++ x ∷ []) (slice_set new x.to v)) (sym e) (at one)
      | inr ne ↦ again j (slice_index (slice_set new x.to v) j) (other j ne)
    ];
  }
    where
      here : slice_index (slice_set new x.to v) x.to ≡ v
      here = rw get_or-set_same

      other : (j : ℕ) → j ≢ x.to → slice_index (slice_set new x.to v) j ≡ slice_index new j
      other j ne = rw get_or-set_other

      rises : (j : ℕ) → slice_index new j ≤ slice_index (slice_set new x.to v) j
      rises j = elim (cases_eq j x.to) [
        | inl e ↦ subst (λ m. slice_index new m ≤ slice_index (slice_set new x.to v) m) (sym e) (let h = here in omega arith)
        | inr ne ↦ (let o = other j ne in omega arith)
      ]

      -- what was so for fewer links
      again : (j m : ℕ) → m ≡ slice_index new j → (m ≡ slice_index old j) ⊎ ((l : Link) × Contains (xs ++ x ∷ []) l × (l.to ≡ j) × (pos m ≡ delay l +ℤ pos cycle))
      again j m e = elim (s.one j) [ inl o ↦ inl (e ∙ o) | inr r ↦ inr (r.0, Contains-append_left xs (x ∷ []) r.0 r.1, r.2, ap pos e ∙ r.3) ]

      at : (v ≡ slice_index new x.to) ⊎ (pos v ≡ delay x +ℤ pos cycle) → Held (xs ++ x ∷ []) (slice_set new x.to v) x.to
      at (inr e) = inr (x, Contains-push xs x, refl, ap pos here ∙ e)
      at (inl e) = again x.to (slice_index (slice_set new x.to v) x.to) (here ∙ e)
