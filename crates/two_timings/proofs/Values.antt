-- The value that a cell has after some operations: that of the last of them in the serial order that leaves one there.
use Rattle.timed_meaning.specs.declared.Cell.{Cell}
use Rattle.timed_meaning.specs.declared.Write.{Write}
use Rattle.std.proofs.Common.{◌≡◌, ℕ, ◌<◌, ◌≤◌, Bool, true, false, cond, List, [], ◌∷◌, ◌++◌, ◌⊎◌, inl, inr, refl, sym, ap, subst, ◌∙◌, Option, Some, None, arith}
use Rattle.std.specs.Prelude.{nat_lt, nat_le, filter}
use Rattle.std.proofs.lemmas.Bool.{ltb-true, ltb-false, cases_lt}
use Rattle.timed_meaning.specs.Values.{same_cell, last_write, later, landed, written_or}
use Rattle.timed_meaning.specs.Block.{Act, landing}
use Rattle.serial_order.specs.Lists.{Among, Earlier}
use Rattle.std.proofs.lemmas.Option.{none-some, same_Some}
use Rattle.two_timings.proofs.Effects.{own}
use Rattle.two_timings.proofs.Folds.{value_or, leave_at, folded}

-- ---- the writes of one operation

-- the last of the first writes and of the others
first_wins : (v w : Write) (r : Option Write) → v.lands ≡ w.lands → later v (later w r) ≡ later v r
first_wins v w None e = go (nat_lt v.lands w.lands) refl
  where
    go : (b : Bool) → nat_lt v.lands w.lands ≡ b → Some (cond b w v) ≡ Some v
    go true h = absurd (let k : v.lands < w.lands = ltb-true v.lands w.lands h in omega arith)
    go false h = refl
first_wins v w (Some u) e = go (nat_lt w.lands u.lands) refl (nat_lt v.lands w.lands) refl
  where
    go :
        (b : Bool) → nat_lt w.lands u.lands ≡ b → (c : Bool) → nat_lt v.lands w.lands ≡ c →
        later v (Some (cond b u w)) ≡ later v (Some u)
    go true h c g = refl
    go false h true g = absurd (let k : v.lands < w.lands = ltb-true v.lands w.lands g in omega arith)
    go false h false g = rw (g, e, h)

record LandsFirst (x : Cell) (t v : ℕ) (vs : List (Cell × ℕ)) (ws : List Write) : Type 0 where
  write : Write
  value : write.value ≡ v
  lands : write.lands ≡ t
  last : last_write x (landing t vs ++ ws) ≡ later write (last_write x ws)

none_lands :
    (x : Cell) (t : ℕ) (vs : List (Cell × ℕ)) (ws : List Write) → own x vs ≡ None →
    last_write x (landing t vs ++ ws) ≡ last_write x ws
none_lands x t [] ws h = refl
none_lands x t (v ∷ vs) ws h = go (none_lands x t vs ws) (same_cell x v.0) refl h
  where
    go :
        (own x vs ≡ None → last_write x (landing t vs ++ ws) ≡ last_write x ws) → (b : Bool) → same_cell x v.0 ≡ b →
        cond b (Some v.1) (own x vs) ≡ None → last_write x (landing t (v ∷ vs) ++ ws) ≡ last_write x ws
    go f true e k = absurd (none-some v.1 (sym k))
    go f false e k = rw e (f k)

one_lands : (x : Cell) (t v : ℕ) (vs : List (Cell × ℕ)) (ws : List Write) → own x vs ≡ Some v → LandsFirst x t v vs ws
one_lands x t v [] ws h = cc
one_lands x t v (p ∷ vs) ws h = go (λ u. one_lands x t u vs ws) (same_cell x p.0) refl h
  where
    w : Write
    w = record { cell = p.0; value = p.1; lands = t }

    rest :
        ((u : ℕ) → own x vs ≡ Some u → LandsFirst x t u vs ws) → (o : Option ℕ) → own x vs ≡ o →
        later w (last_write x (landing t vs ++ ws)) ≡ later w (last_write x ws)
    rest f None e = ap (later w) (none_lands x t vs ws e)
    rest f (Some u) e = let r = f u e in ap (later w) r.last ∙ first_wins w r.write (last_write x ws) (sym r.lands)

    go :
        ((u : ℕ) → own x vs ≡ Some u → LandsFirst x t u vs ws) → (b : Bool) → same_cell x p.0 ≡ b →
        cond b (Some p.1) (own x vs) ≡ Some v → LandsFirst x t v (p ∷ vs) ws
    go f true e k = record { write = w; value = same_Some p.1 v k; lands = refl; last = rw e (rest f (own x vs) refl) }
    go f false e k = let r = f v k in record { write = r.write; value = r.value; lands = r.lands; last = rw e r.last }

-- ---- the writes of some operations, the latest listed first

abbrev pub gathered : (ℕ → Act) → (ℕ → ℕ) → List ℕ → List Write
gathered acts lands [] = []
gathered acts lands (k ∷ ks) = landing (lands k) (acts k).values ++ gathered acts lands ks

landed_in :
    (t s : ℕ) (vs : List (Cell × ℕ)) (ws : List Write) → nat_le s t ≡ true →
    landed t (landing s vs ++ ws) ≡ landing s vs ++ landed t ws
landed_in t s [] ws e = refl
landed_in t s (v ∷ vs) ws e = rw e (ap (λ l. record { cell = v.0; value = v.1; lands = s } ∷ l) (landed_in t s vs ws e))

landed_out :
    (t s : ℕ) (vs : List (Cell × ℕ)) (ws : List Write) → nat_le s t ≡ false → landed t (landing s vs ++ ws) ≡ landed t ws
landed_out t s [] ws e = refl
landed_out t s (v ∷ vs) ws e = rw e (landed_out t s vs ws e)

-- those that have landed are those of the operations that have
pub landed_gathered :
    (acts : ℕ → Act) (lands : ℕ → ℕ) (t : ℕ) (ks : List ℕ) →
    landed t (gathered acts lands ks) ≡ gathered acts lands (filter (λ k. nat_le (lands k) t) ks)
landed_gathered acts lands t [] = refl
landed_gathered acts lands t (k ∷ ks) = go (landed_gathered acts lands t ks) (nat_le (lands k) t) refl
  where
    go :
        landed t (gathered acts lands ks) ≡ gathered acts lands (filter (λ k. nat_le (lands k) t) ks) → (b : Bool) →
        nat_le (lands k) t ≡ b →
        landed t (gathered acts lands (k ∷ ks)) ≡ gathered acts lands (cond b (k ∷ filter (λ k. nat_le (lands k) t) ks) (filter (λ k. nat_le (lands k) t) ks))
    go f true e = landed_in t (lands k) (acts k).values (gathered acts lands ks) e ∙ ap (λ l. landing (lands k) (acts k).values ++ l) f
    go f false e = landed_out t (lands k) (acts k).values (gathered acts lands ks) e ∙ f

module _ (acts : ℕ → Act) (lands : ℕ → ℕ) (x : Cell) where
  -- k lands after i, or with it and is not listed before it
  abbrev Beats : List ℕ → ℕ → ℕ → Type 0
  Beats ks k i = (lands i < lands k) ⊎ ((lands i ≡ lands k) × ((i ≡ k) ⊎ Earlier ks k i))

  -- the last write to the cell, and the operation that it is of: it beats each other one that leaves a value there
  record HasLast (ks : List ℕ) : Type 0 where
    write : Write
    by : ℕ
    last : last_write x (gathered acts lands ks) ≡ Some write
    among : Among by ks
    leaves : own x (acts by).values ≡ Some write.value
    lands_then : lands by ≡ write.lands
    beats : (i u : ℕ) → Among i ks → own x (acts i).values ≡ Some u → Beats ks by i

  -- no operation leaves a value there
  record HasNone (ks : List ℕ) : Type 0 where
    none : last_write x (gathered acts lands ks) ≡ None
    each : (i u : ℕ) → Among i ks → own x (acts i).values ≡ Some u → ⊥

  not_later : (ks : List ℕ) (k i : ℕ) → Among i ks → lands i ≤ lands k → Beats (k ∷ ks) k i
  not_later ks k i a h = elim (cases_lt (lands i) (lands k)) [
    | inl g ↦ inl g
    | inr g ↦ inr (omega arith, inr (inl (refl, a)))
  ]

  earlier_beats : (ks : List ℕ) (k j i : ℕ) → Beats ks j i → Beats (k ∷ ks) j i
  earlier_beats ks k j i (inl h) = inl h
  earlier_beats ks k j i (inr (e, inl h)) = inr (e, inl h)
  earlier_beats ks k j i (inr (e, inr h)) = inr (e, inr (inr h))

  beats_lands : (ks : List ℕ) (j i : ℕ) → Beats ks j i → lands i ≤ lands j
  beats_lands ks j i (inl h) = omega arith
  beats_lands ks j i (inr h) = omega (arith, h.0)

  -- the first operation leaves nothing
  skip_last :
      (k : ℕ) (ks : List ℕ) → own x (acts k).values ≡ None → HasNone ks ⊎ HasLast ks → HasNone (k ∷ ks) ⊎ HasLast (k ∷ ks)
  skip_last k ks e (inl n) =
      inl (record {
        none = none_lands x (lands k) (acts k).values (gathered acts lands ks) e ∙ n.none;
        each = λ i u a h. elim a [ inl f ↦ none-some u (sym e ∙ ap (λ m. own x (acts m).values) f ∙ h) | inr b ↦ n.each i u b h ];
      })
  skip_last k ks e (inr l) =
      inr (record {
        write = l.write;
        by = l.by;
        last = none_lands x (lands k) (acts k).values (gathered acts lands ks) e ∙ l.last;
        among = inr l.among;
        leaves = l.leaves;
        lands_then = l.lands_then;
        beats = λ i u a h. elim a [ inl f ↦ absurd (none-some u (sym e ∙ ap (λ m. own x (acts m).values) f ∙ h)) | inr b ↦ earlier_beats ks k l.by i (l.beats i u b h) ];
      })

  -- the first operation leaves the last write
  first_is_last :
      (k v : ℕ) (ks : List ℕ) (f : LandsFirst x (lands k) v (acts k).values (gathered acts lands ks)) →
      own x (acts k).values ≡ Some v → later f.write (last_write x (gathered acts lands ks)) ≡ Some f.write →
      ((i u : ℕ) → Among i ks → own x (acts i).values ≡ Some u → lands i ≤ lands k) → HasLast (k ∷ ks)
  first_is_last k v ks f e m b =
      record {
        write = f.write;
        by = k;
        last = f.last ∙ m;
        among = inl refl;
        leaves = e ∙ ap Some (sym f.value);
        lands_then = sym f.lands;
        beats = λ i u a h. elim a [ inl g ↦ inr (ap lands (sym g), inl (sym g)) | inr c ↦ not_later ks k i c (b i u c h) ];
      }

  add_last : (k v : ℕ) (ks : List ℕ) → own x (acts k).values ≡ Some v → HasNone ks ⊎ HasLast ks → HasLast (k ∷ ks)
  add_last k v ks e (inl n) =
      let f = one_lands x (lands k) v (acts k).values (gathered acts lands ks) e in
      first_is_last k v ks f e (ap (later f.write) n.none) (λ i u a h. absurd (n.each i u a h))
  add_last k v ks e (inr l) = go (nat_lt f.write.lands l.write.lands) refl
    where
      f : LandsFirst x (lands k) v (acts k).values (gathered acts lands ks)
      f = one_lands x (lands k) v (acts k).values (gathered acts lands ks) e

      both : later f.write (last_write x (gathered acts lands ks)) ≡ Some (cond (nat_lt f.write.lands l.write.lands) l.write f.write)
      both = ap (later f.write) l.last

      go : (b : Bool) → nat_lt f.write.lands l.write.lands ≡ b → HasLast (k ∷ ks)
      go true g =
          let less : f.write.lands < l.write.lands = ltb-true _ _ g in
          let below : lands k < lands l.by = omega (arith, f.lands, l.lands_then) in
          record {
            write = l.write;
            by = l.by;
            last = f.last ∙ both ∙ ap (λ b. Some (cond b l.write f.write)) g;
            among = inr l.among;
            leaves = l.leaves;
            lands_then = l.lands_then;
            beats = λ i u a h. elim a [ inl c ↦ inl (subst (λ m. lands m < lands l.by) c below) | inr c ↦ earlier_beats ks k l.by i (l.beats i u c h) ];
          }
      go false g =
          let le : l.write.lands ≤ f.write.lands = ltb-false _ _ g in
          first_is_last k v ks f e (both ∙ ap (λ b. Some (cond b l.write f.write)) g) (λ i u a h. omega (arith, beats_lands ks l.by i (l.beats i u a h), f.lands, l.lands_then))

  find_last : (ks : List ℕ) → HasNone ks ⊎ HasLast ks
  find_last [] = inl (record { none = refl; each = λ i u a. elim a [ ] })
  find_last (k ∷ ks) = go (find_last ks) (own x (acts k).values) refl
    where
      go : HasNone ks ⊎ HasLast ks → (o : Option ℕ) → own x (acts k).values ≡ o → HasNone (k ∷ ks) ⊎ HasLast (k ∷ ks)
      go r None e = skip_last k ks e r
      go r (Some v) e = inr (add_last k v ks e r)

-- ---- the serial order

module _ (acts : ℕ → Act) (x : Cell) (old : ℕ) where
  -- the last operation in the serial order that leaves a value there, which stands first
  record FirstLeaves (ks : List ℕ) : Type 0 where
    by : ℕ
    value : ℕ
    among : Among by ks
    leaves : own x (acts by).values ≡ Some value
    is : folded (leave_at x) acts old ks ≡ value
    first : (i u : ℕ) → Among i ks → own x (acts i).values ≡ Some u → (i ≡ by) ⊎ Earlier ks by i

  -- none does
  record NoneLeaves (ks : List ℕ) : Type 0 where
    is : folded (leave_at x) acts old ks ≡ old
    each : (i u : ℕ) → Among i ks → own x (acts i).values ≡ Some u → ⊥

  find_first : (ks : List ℕ) → NoneLeaves ks ⊎ FirstLeaves ks
  find_first [] = inl (record { is = refl; each = λ i u a. elim a [ ] })
  find_first (k ∷ ks) = go (find_first ks) (own x (acts k).values) refl
    where
      go :
          NoneLeaves ks ⊎ FirstLeaves ks → (o : Option ℕ) → own x (acts k).values ≡ o →
          NoneLeaves (k ∷ ks) ⊎ FirstLeaves (k ∷ ks)
      go r (Some v) e =
          inr (record {
            by = k;
            value = v;
            among = inl refl;
            leaves = e;
            is = ap (value_or (folded (leave_at x) acts old ks)) e;
            first = λ i u a h. elim a [ inl f ↦ inl (sym f) | inr b ↦ inr (inl (refl, b)) ];
          })
      go (inl n) None e =
          inl (record {
            is = ap (value_or (folded (leave_at x) acts old ks)) e ∙ n.is;
            each = λ i u a h. elim a [ inl f ↦ none-some u (sym e ∙ ap (λ m. own x (acts m).values) f ∙ h) | inr b ↦ n.each i u b h ];
          })
      go (inr l) None e =
          inr (record {
            by = l.by;
            value = l.value;
            among = inr l.among;
            leaves = l.leaves;
            is = ap (value_or (folded (leave_at x) acts old ks)) e ∙ l.is;
            first = λ i u a h. elim a [ inl f ↦ absurd (none-some u (sym e ∙ ap (λ m. own x (acts m).values) f ∙ h)) | inr b ↦ elim (l.first i u b h) [ inl c ↦ inl c | inr c ↦ inr (inr c) ] ];
          })

-- of two operations that leave a value, i earlier in the serial order: i lands earlier, or both leave one value, or j lands no
-- earlier and isn't listed before i
abbrev pub TakeTurns : (ℕ → ℕ) → List ℕ → ℕ → ℕ → ℕ → ℕ → Type 0
TakeTurns lands ks i j u v = (lands i < lands j) ⊎ ((u ≡ v) ⊎ ((lands i ≤ lands j) × ¬ (Earlier ks i j)))

-- the last write to land is the last in the serial order; both lists have the latest first
module _
    (acts : ℕ → Act) (lands : ℕ → ℕ) (x : Cell) (old : ℕ) (ks order : List ℕ)
    (to : (k u : ℕ) → own x (acts k).values ≡ Some u → Among k ks → Among k order)
    (from : (k u : ℕ) → own x (acts k).values ≡ Some u → Among k order → Among k ks)
    (turns : (i j u v : ℕ) → Earlier order j i → own x (acts i).values ≡ Some u → own x (acts j).values ≡ Some v → TakeTurns lands ks i j u v) where
  last_equal :
      (l : HasLast acts lands x ks) (f : FirstLeaves acts x old order) → (l.by ≡ f.by) ⊎ Earlier order f.by l.by →
      l.write.value ≡ f.value
  last_equal l f (inl e) = same_Some l.write.value f.value (sym l.leaves ∙ ap (λ k. own x (acts k).values) e ∙ f.leaves)
  last_equal l f (inr h) = go (turns l.by f.by l.write.value f.value h l.leaves f.leaves) (l.beats f.by f.value (from f.by f.value f.leaves f.among) f.leaves)
    where
      go : TakeTurns lands ks l.by f.by l.write.value f.value → Beats acts lands x ks l.by f.by → l.write.value ≡ f.value
      go (inl a) b = absurd (let le : lands f.by ≤ lands l.by = beats_lands acts lands x ks l.by f.by b in omega arith)
      go (inr (inl e)) b = e
      go (inr (inr a)) (inl b) = absurd (omega (arith, a.0))
      go (inr (inr a)) (inr (e, inl g)) = same_Some l.write.value f.value (sym l.leaves ∙ ap (λ k. own x (acts k).values) (sym g) ∙ f.leaves)
      go (inr (inr a)) (inr (e, inr g)) = absurd (a.1 g)

  pub settles : written_or old (last_write x (gathered acts lands ks)) ≡ folded (leave_at x) acts old order
  settles = go (find_last acts lands x ks) (find_first acts x old order)
    where
      go :
          HasNone acts lands x ks ⊎ HasLast acts lands x ks → NoneLeaves acts x old order ⊎ FirstLeaves acts x old order →
          written_or old (last_write x (gathered acts lands ks)) ≡ folded (leave_at x) acts old order
      go (inl n) (inl m) = ap (written_or old) n.none ∙ sym m.is
      go (inl n) (inr f) = absurd (n.each f.by f.value (from f.by f.value f.leaves f.among) f.leaves)
      go (inr l) (inl m) = absurd (m.each l.by l.write.value (to l.by l.write.value l.leaves l.among) l.leaves)
      go (inr l) (inr f) =
          ap (written_or old) l.last
          ∙ last_equal l f (f.first l.by l.write.value (to l.by l.write.value l.leaves l.among) l.leaves)
          ∙ sym f.is
