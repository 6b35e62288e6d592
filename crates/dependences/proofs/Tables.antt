-- The table of the delays between nodes, pair by pair.
use Rattle.std.proofs.Common.{◌≡◌, ℕ, ◌+◌, ◌<◌, ◌≤◌, min, true, ◌⊎◌, inl, inr, List, length, refl, sym, subst, ◌∙◌, None, arith}
use Rattle.std.proofs.lemmas.Bool.{cases_lt}
use Rattle.serial_order.specs.Table.{Table, delay_of}
use Rattle.dependences.specs.declared.graph.Node.{Node}
use Rattle.dependences.specs.Graph.{node_at, have_nothing_in_common, delay_at, AreDelays}
use Rattle.dependences.proofs.Pairs.{nothing_turned, none_of_strangers, none_before_itself}

-- the entries of i and those between it and m are there, and nothing else has changed
pub record PairsTo (nodes : List Node) (i m : ℕ) (old d : Table) : Type 0 where
  pub count : d.count ≡ old.count
  pub here : (j : ℕ) → i < j → j < m → (delay_of d i j ≡ delay_at nodes i j) × (delay_of d j i ≡ delay_at nodes j i)
  pub left : (j : ℕ) → i < j → m ≤ j → (delay_of d i j ≡ None) × (delay_of d j i ≡ None)
  pub elsewhere : (k l : ℕ) → (k ≡ i → i < l → ⊥) → (l ≡ i → i < k → ⊥) → delay_of d k l ≡ delay_of old k l

-- one pair more
pub more_pairs :
    (nodes : List Node) (i m : ℕ) (old d new : Table) → PairsTo nodes i m old d → i < m → new.count ≡ d.count →
    delay_of new i m ≡ delay_at nodes i m → delay_of new m i ≡ delay_at nodes m i →
    ((k l : ℕ) → (k ≡ i → l ≡ m → ⊥) → (k ≡ m → l ≡ i → ⊥) → delay_of new k l ≡ delay_of d k l) → PairsTo nodes i (m + 1) old new
more_pairs nodes i m old d new p behind count forth back others = record {
  count = count ∙ p.count;
  here = λ j after below. go j (cases_lt j m) after below;
  left = λ j after above.
      let stood = p.left j after (omega arith) in (
        others i j (λ e f. absurd (omega arith)) (λ e f. absurd (omega arith)) ∙ stood.0,
        others j i (λ e f. absurd (omega arith)) (λ e f. absurd (omega arith)) ∙ stood.1,
      );
  elsewhere = λ k l row column.
      others k l (λ e f. row e (omega arith)) (λ e f. column f (omega arith)) ∙ p.elsewhere k l row column;
}
  where
    go : (j : ℕ) → (j < m) ⊎ (m ≤ j) → i < j → j < m + 1 → (delay_of new i j ≡ delay_at nodes i j) × (delay_of new j i ≡ delay_at nodes j i)
    go j (inl low) after below =
        let stood = p.here j after low in (
          others i j (λ e f. absurd (omega arith)) (λ e f. absurd (omega arith)) ∙ stood.0,
          others j i (λ e f. absurd (omega arith)) (λ e f. absurd (omega arith)) ∙ stood.1,
        )
    go j (inr high) after below =
        let same : m ≡ j = omega arith in
        subst (λ (k : ℕ). (delay_of new i k ≡ delay_at nodes i k) × (delay_of new k i ≡ delay_at nodes k i)) same (forth, back)

-- one pair more, of two that have nothing in common
pub no_pair :
    (nodes : List Node) (i m : ℕ) (old d : Table) → PairsTo nodes i m old d → i < m → have_nothing_in_common (node_at nodes i) (node_at nodes m) ≡ true →
    PairsTo nodes i (m + 1) old d
no_pair nodes i m old d p behind strangers =
    let a = node_at nodes i in
    let b = node_at nodes m in
    let stood = p.left m behind (omega arith) in
    more_pairs nodes i m old d d p behind refl
    (stood.0 ∙ sym (none_of_strangers i m a b strangers))
    (stood.1 ∙ sym (none_of_strangers m i b a (nothing_turned b a ∙ strangers)))
    (λ k l row column. refl)

-- the entries of each pair with one below m are there, and no other
pub record TableTo (nodes : List Node) (n m : ℕ) (d : Table) : Type 0 where
  pub count : d.count ≡ n
  pub here : (i j : ℕ) → i < n → j < n → min i j < m → delay_of d i j ≡ delay_at nodes i j
  pub left : (i j : ℕ) → m ≤ i → m ≤ j → delay_of d i j ≡ None

-- the pairs of one operation more
pub more_table :
    (nodes : List Node) (n m : ℕ) (d new : Table) → TableTo nodes n m d → new.count ≡ d.count →
    ((j : ℕ) → m < j → j < d.count → (delay_of new m j ≡ delay_at nodes m j) × (delay_of new j m ≡ delay_at nodes j m)) →
    ((k l : ℕ) → (k ≡ m → m < l → ⊥) → (l ≡ m → m < k → ⊥) → delay_of new k l ≡ delay_of d k l) → TableTo nodes n (m + 1) new
more_table nodes n m d new t count pairs others = record {
  count = count ∙ t.count;
  here = λ i j inside below low. go i j (cases_lt (min i j) m) (cases_lt m i) (cases_lt m j) inside below low;
  left = λ i j row column. others i j (λ e f. absurd (omega arith)) (λ e f. absurd (omega arith)) ∙ t.left i j (omega arith) (omega arith);
}
  where
    go : (i j : ℕ) → (min i j < m) ⊎ (m ≤ min i j) → (m < i) ⊎ (i ≤ m) → (m < j) ⊎ (j ≤ m) → i < n → j < n → min i j < m + 1 →
        delay_of new i j ≡ delay_at nodes i j
    go i j (inl before) _ _ inside below low =
        others i j (λ e f. absurd (omega arith)) (λ e f. absurd (omega arith)) ∙ t.here i j inside below before
    go i j (inr now) (inl after) column inside below low =
        let same : m ≡ j = omega arith in
        let size = t.count in
        subst (λ (k : ℕ). delay_of new i k ≡ delay_at nodes i k) same (pairs i after (omega arith)).1
    go i j (inr now) (inr row) (inl after) inside below low =
        let same : m ≡ i = omega arith in
        let size = t.count in
        subst (λ (k : ℕ). delay_of new k j ≡ delay_at nodes k j) same (pairs j after (omega arith)).0
    go i j (inr now) (inr row) (inr column) inside below low =
        let same : i ≡ j = omega arith in
        others i j (λ e f. absurd (omega arith)) (λ e f. absurd (omega arith))
        ∙ t.left i j (omega arith) (omega arith)
        ∙ sym (none_before_itself i j (node_at nodes i) (node_at nodes j) same)

-- the entries of all pairs are the table
pub whole_table : (nodes : List Node) (d : Table) → TableTo nodes (length nodes) (length nodes) d → AreDelays nodes d
whole_table nodes d t = record { count = t.count; each = λ i j inside below. t.here i j inside below (omega arith) }
