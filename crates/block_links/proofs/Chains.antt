-- Chains of links, and what is stuck.
use Rattle.std.proofs.Common.{◌≡◌, ℕ, Bool, true, List, [], ◌∷◌, ◌⊎◌, inl, inr, refl, sym, ap, subst, Option, Some, None}
use Rattle.std.specs.Prelude.{find, ℤ, is_some}
use Rattle.std.specs.List.{range_with_len}
use Rattle.std.proofs.Math.Path.{fun_ext}
use Rattle.std.proofs.lemmas.Bool.{false≢true}
use Rattle.std.proofs.lemmas.Bool.Decides.{same_from_decides}
use Rattle.serial_order.specs.Lists.{Among}
use Rattle.serial_order.specs.SerialOrder.{IsStuckSet, is_stuck, first_stuck}
use Rattle.serial_order.proofs.Stuck.{stuck_has, has_stuck}
use Rattle.block_links.specs.Cover.{Chain, Spans, Way, One, Then}
use Rattle.block_links.specs.Laws.{ChainsKeepTheStuck, CoversSpan}

-- ---- a chain's operations

module _ (linked : ℕ → ℕ → Bool) (i : ℕ) (rest : List ℕ) where
  -- the operations of the chain but for the first, before a list
  abbrev along : (j : ℕ) → Chain linked i j → List ℕ
  along m (One j t) = j ∷ rest
  along m (Then k j c t) = j ∷ along k c

  kept : (j : ℕ) (c : Chain linked i j) (x : ℕ) → Among x rest → Among x (along j c)
  kept m (One j t) x a = inr a
  kept m (Then k j c t) x a = inr (kept k c x a)

  last : (j : ℕ) (c : Chain linked i j) → Among j (along j c)
  last m (One j t) = inl refl
  last m (Then k j c t) = inl refl

  -- each is linked from the first or from another of them
  abbrev Follows : List ℕ → ℕ → Type 0
  Follows all x = (k : ℕ) × ((k ≡ i) ⊎ Among k all) × (linked k x ≡ true)

  follows : (j : ℕ) (c : Chain linked i j) (x : ℕ) → Among x (along j c) → Among x rest ⊎ Follows (along j c) x
  follows m (One j t) x (inl e) = inr (i, inl refl, subst (λ m. linked i m ≡ true) e t)
  follows m (One j t) x (inr a) = inl a
  follows m (Then k j c t) x (inl e) = inr (k, inr (inr (last k c)), subst (λ m. linked k m ≡ true) e t)
  follows m (Then k j c t) x (inr a) = elim (follows k c x a) [
    | inl b ↦ inl b
    | inr r ↦ inr (r.0, elim r.1 [ inl e ↦ inl e | inr m ↦ inr (inr m) ], r.2)
  ]

-- ---- stuck sets

module _ (n : ℕ) (linked before : ℕ → ℕ → Bool) (s : Spans n linked before) where
  -- a set that links hold is held
  linked_set : (set : List ℕ) → IsStuckSet linked n set → IsStuckSet before n set
  linked_set set h = record { inside = h.inside; held = λ j a. let r = h.held j a in (r.0, r.1, s.sound r.0 j r.2) }

  -- and one that is held is so by links, with the operations of the chains between its members
  module _ (set : List ℕ) (h : IsStuckSet before n set) where
    record IsGrown (list all : List ℕ) : Type 0 where
      has : (j : ℕ) → Among j list → Among j all
      held : (x : ℕ) → Among x all → (k : ℕ) × (Among k set ⊎ Among k all) × (linked k x ≡ true)

    grown : (list : List ℕ) → ((j : ℕ) → Among j list → Among j set) → (all : List ℕ) × IsGrown list all
    grown [] inside = ([], record { has = λ j a. a; held = λ x a. elim a [ ] })
    grown (y ∷ ys) inside = more (grown ys (λ j a. inside j (inr a))) (h.held y (inside y (inl refl)))
      where
        more : ((all : List ℕ) × IsGrown ys all) → ((i : ℕ) × Among i set × (before i y ≡ true)) → (all : List ℕ) × IsGrown (y ∷ ys) all
        more r b =
            let c = s.reached b.0 y (h.inside b.0 b.1) (h.inside y (inside y (inl refl))) b.2 in
            let all = along linked b.0 r.0 y c in (
              all,
              record {
                has = λ j a. elim a [
                  | inl e ↦ subst (λ m. Among m all) e (last linked b.0 r.0 y c)
                  | inr m ↦ kept linked b.0 r.0 y c j (r.1.has j m)
                ];
                held = λ x a. elim (follows linked b.0 r.0 y c x a) [
                  | inl m ↦ (let q = r.1.held x m in (q.0, elim q.1 [ inl g ↦ inl g | inr g ↦ inr (kept linked b.0 r.0 y c q.0 g) ], q.2))
                  | inr f ↦ (f.0, elim f.1 [ inl e ↦ inl (subst (λ m. Among m set) (sym e) b.1) | inr g ↦ inr g ], f.2)
                ];
              },
            )

    held_set : (all : List ℕ) × IsStuckSet linked n all × ((j : ℕ) → Among j set → Among j all)
    held_set =
        let g = grown set (λ j a. a) in (
          g.0,
          record {
            inside = λ x a. let r = g.1.held x a in (s.inside r.0 x r.2).1;
            held = λ x a. let r = g.1.held x a in (r.0, elim r.1 [ inl m ↦ g.1.has r.0 m | inr m ↦ m ], r.2);
          },
          g.1.has,
        )

  same : (k : ℕ) → is_stuck linked n k ≡ is_stuck before n k
  same k = same_from_decides {P = (set : List ℕ) × IsStuckSet linked n set × Among k set} (is_stuck linked n k) (is_stuck before n k)
      (stuck_has linked n k, λ r. has_stuck linked n k r.0 r.1 r.2) (
        (λ t. let r = stuck_has before n k t in let g = held_set r.0 r.1 in (g.0, g.1, g.2 k r.2)),
        (λ r. has_stuck before n k r.0 (linked_set r.0 r.1) r.2),
      )

pub chains_keep_the_stuck : ChainsKeepTheStuck
unfolding first_stuck
chains_keep_the_stuck n linked before s = ap (λ p. find p (range_with_len 0 n)) (fun_ext (same n linked before s))

-- ---- what covers delays spans what is before what

some : (o : Option ℤ) → is_some o ≡ true → (d : ℤ) × (o ≡ Some d)
some None h = absurd (false≢true h)
some (Some d) h = (d, refl)

is_some_of : (o : Option ℤ) (d : ℤ) → o ≡ Some d → is_some o ≡ true
is_some_of o d e = ap (λ (q : Option ℤ). is_some q) e

pub chain_of : (delay : ℕ → ℕ → Option ℤ) (i j : ℕ) (sum : ℤ) → Way delay i j sum → Chain (λ a b. is_some (delay a b)) i j
chain_of delay i m sum (One j d e) = One j (is_some_of (delay i j) d e)
chain_of delay i m sum (Then k j before d w e) = Then k j (chain_of delay i k before w) (is_some_of (delay k j) d e)

pub covers_span : CoversSpan
covers_span n along delay inside c = record {
  inside = λ i j t. let r = sound i j t in inside i j r;
  sound = sound;
  reached = λ i j low high t. let d = some (delay i j) t in let w = c.reached i j d.0 d.1 in chain_of along i j w.0 w.1;
}
  where
    sound : (i j : ℕ) → is_some (along i j) ≡ true → is_some (delay i j) ≡ true
    sound i j t = let d = some (along i j) t in let r = c.sound i j d.0 d.1 in is_some_of (delay i j) r.0 r.1
