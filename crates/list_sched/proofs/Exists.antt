-- Each problem has a schedule.
use Rattle.std.proofs.Common.{◌≡◌, ◌≢◌, ℕ, zero, suc, ◌+◌, ◌<◌, ◌≤◌, Bool, true, false, cond, List, [], ◌∷◌, length, ◌⊎◌, inl, inr, refl, sym, ap, subst, ◌∙◌, Option, Some, None, arith}
use Rattle.std.specs.Prelude.{ℤ, pos, negsuc, ◌+ℤ◌, ◌≤ℤ◌, nat_eq, is_some}
use Rattle.std.proofs.lemmas.Int.{ints, by_lt_z}
use Rattle.std.proofs.lemmas.Bool.{cases_eq, cases_lt, ne_eqb, eq-eqb, false≢true}
use Rattle.operation.specs.declared.UnitKind.{UnitKind}
use Rattle.operation.specs.declared.UnitKind.TheVariants as unit
use Rattle.serial_order.specs.Lists.{Among, Earlier, EachOnce}
use Rattle.list_sched.specs.Extremes.{IsLeast, IsGreatest}
use Rattle.machine_desc.specs.Issue.{issuing, busy_on}
use Rattle.serial_order.proofs.Earlier.{never_both}
use Rattle.serial_order.proofs.Onto.{onto, among_right, earlier_onto, before_it}
use Rattle.list_sched.proofs.Serial.{IsSerial, both_inside, some_order}
use Rattle.list_sched.specs.Schedule.{Problem, IsBefore, IsProblem, IsReady, IsNext, IsBranch, CanIssue, ArePlaced, Climb, Itself, From, latency, busy}
use Rattle.list_sched.specs.Laws.{EachHasASchedule}
use Rattle.list_sched.proofs.Places.{has_delay}
use Rattle.list_sched.proofs.Outs.{out, length-out, out_among, among_out, once_out, below, below_lt, lt_below, below_once}
use Rattle.list_sched.proofs.One.{climb_same, can_issue_same}
use Rattle.machine_desc.specs.Description.{units_of}
use Rattle.list_sched.proofs.Close.{can_issue_far}

-- ---- decisions

abbrev pub Decided : Type 0 → Type 0
Decided P = P ⊎ (P → ⊥)

pub decide_among : (i : ℕ) (l : List ℕ) → Decided (Among i l)
decide_among i [] = inr (λ a. a)
decide_among i (x ∷ xs) = elim (cases_eq x i) [
  | inl e ↦ inl (inl e)
  | inr f ↦ elim (decide_among i xs) [ inl a ↦ inl (inr a) | inr g ↦ inr (λ a. elim a [ inl e ↦ f e | inr b ↦ g b ]) ]
]

decide_all : (P : ℕ → Type 0) → ((k : ℕ) → Decided (P k)) → (l : List ℕ) → Decided ((k : ℕ) → Among k l → P k)
decide_all P d [] = inl (λ k a. elim a [ ])
decide_all P d (x ∷ xs) = elim (d x) [
  | inr f ↦ inr (λ h. f (h x (inl refl)))
  | inl p ↦ elim (decide_all P d xs) [
    | inl h ↦ inl (λ k a. elim a [ inl e ↦ subst P e p | inr b ↦ h k b ])
    | inr g ↦ inr (λ h. g (λ k a. h k (inr a)))
  ]
]

decide_both : (P Q : Type 0) → Decided P → Decided Q → Decided (P × Q)
decide_both P Q (inl p) (inl q) = inl (p, q)
decide_both P Q (inr f) d = inr (λ h. f h.0)
decide_both P Q (inl p) (inr g) = inr (λ h. g h.1)

decide_not : (P : Type 0) → Decided P → Decided (¬ P)
decide_not P (inl p) = inr (λ f. f p)
decide_not P (inr f) = inl f

decide_if : (P Q : Type 0) → Decided P → Decided Q → Decided (P → Q)
decide_if P Q d (inl q) = inl (λ p. q)
decide_if P Q (inl p) (inr g) = inr (λ h. g (h p))
decide_if P Q (inr f) (inr g) = inl (λ p. absurd (f p))

decide_lt : (a b : ℕ) → Decided (a < b)
decide_lt a b = elim (cases_lt a b) [ inl h ↦ inl h | inr h ↦ inr (λ g. let k : b ≤ a = h in omega arith) ]

decide_true : (b : Bool) → Decided (b ≡ true)
decide_true true = inl refl
decide_true false = inr (λ e. false≢true e)

decide_branch : (u : UnitKind) → Decided (u ≡ unit.B)
decide_branch unit.I = inr (λ e. cc)
decide_branch unit.M = inr (λ e. cc)
decide_branch unit.L = inr (λ e. cc)
decide_branch unit.P = inr (λ e. cc)
decide_branch unit.B = inl refl

-- the least number that passes
least_below : (P : ℕ → Type 0) → ((k : ℕ) → Decided (P k)) → (m : ℕ) → ((c : ℕ) × IsLeast P c) ⊎ ((k : ℕ) → k < m → ¬ (P k))
least_below P d zero = inr (λ k h. absurd (omega arith))
least_below P d (suc m) = elim (least_below P d m) [
  | inl r ↦ inl r
  | inr f ↦ elim (d m) [
    | inl q ↦ inl (m, record { holds = q; least = λ k pk. elim (cases_lt k m) [ inl h ↦ absurd (f k h pk) | inr h ↦ h ] })
    | inr g ↦ inr (λ k h pk. elim (cases_eq k m) [ inl e ↦ g (subst P e pk) | inr ne ↦ f k (omega arith) pk ])
  ]
]

least_of : (P : ℕ → Type 0) → ((k : ℕ) → Decided (P k)) → (m : ℕ) → P m → (c : ℕ) × IsLeast P c
least_of P d m q = elim (least_below P d (suc m)) [ inl r ↦ r | inr f ↦ absurd (f m (omega arith) q) ]

module _ (p : Problem) (ok : IsProblem p) where
  -- ---- heights

  -- the greatest climb among some operations
  top : (h : ℕ → ℕ) (x : ℕ) (l : List ℕ) → (v : ℕ) × Climb p h x (pos v) × ((j : ℕ) (d : ℤ) → Among j l → p.delay x j ≡ Some d → (d +ℤ pos (h j)) ≤ℤ pos v) × (latency p x ≤ v)
  top h x [] = (latency p x, Itself, (λ j d a. elim a [ ]), omega arith)
  top h x (y ∷ ys) = go (top h x ys) (p.delay x y) refl
    where
      more : (v : ℕ) → ((d : ℤ) → p.delay x y ≡ Some d → (d +ℤ pos (h y)) ≤ℤ pos v) → ((j : ℕ) (d : ℤ) → Among j ys → p.delay x j ≡ Some d → (d +ℤ pos (h j)) ≤ℤ pos v) → (j : ℕ) (d : ℤ) → Among j (y ∷ ys) → p.delay x j ≡ Some d → (d +ℤ pos (h j)) ≤ℤ pos v
      more v f g j d (inl e) q = subst (λ n. (d +ℤ pos (h n)) ≤ℤ pos v) e (f d (subst (λ n. p.delay x n ≡ Some d) (sym e) q))
      more v f g j d (inr a) q = g j d a q

      same_some : (d e : ℤ) → p.delay x y ≡ Some d → p.delay x y ≡ Some e → d ≡ e
      same_some d e u v = cc

      pick : (r : (v : ℕ) × Climb p h x (pos v) × ((j : ℕ) (d : ℤ) → Among j ys → p.delay x j ≡ Some d → (d +ℤ pos (h j)) ≤ℤ pos v) × (latency p x ≤ v)) (d : ℤ) → p.delay x y ≡ Some d → (z : ℤ) → (d +ℤ pos (h y)) ≡ z → (v : ℕ) × Climb p h x (pos v) × ((j : ℕ) (d : ℤ) → Among j (y ∷ ys) → p.delay x j ≡ Some d → (d +ℤ pos (h j)) ≤ℤ pos v) × (latency p x ≤ v)
      pick r d e (negsuc w) q = (r.0, r.1, more r.0 (λ c u. let s = same_some d c e u in subst (λ i. (i +ℤ pos (h y)) ≤ℤ pos r.0) s (subst (λ i. i ≤ℤ pos r.0) (sym q) (omega (arith, ints)))) r.2, r.3)
      pick r d e (pos w) q = elim (cases_lt r.0 w) [
        | inl lt ↦ (
          w,
          subst (Climb p h x) q (From y d e),
          more w (λ c u. let s = same_some d c e u in subst (λ i. (i +ℤ pos (h y)) ≤ℤ pos w) s (subst (λ i. i ≤ℤ pos w) (sym q) (omega (arith, ints)))) (λ j c a u. let b = r.2 j c a u in omega (arith, ints)),
          (let b = r.3 in omega arith),
        )
        | inr le ↦ (
          r.0,
          r.1,
          more r.0 (λ c u. let s = same_some d c e u in subst (λ i. (i +ℤ pos (h y)) ≤ℤ pos r.0) s (subst (λ i. i ≤ℤ pos r.0) (sym q) (let k : w ≤ r.0 = le in omega (arith, ints)))) r.2,
          r.3,
        )
      ]

      go : (r : (v : ℕ) × Climb p h x (pos v) × ((j : ℕ) (d : ℤ) → Among j ys → p.delay x j ≡ Some d → (d +ℤ pos (h j)) ≤ℤ pos v) × (latency p x ≤ v)) (o : Option ℤ) → p.delay x y ≡ o → (v : ℕ) × Climb p h x (pos v) × ((j : ℕ) (d : ℤ) → Among j (y ∷ ys) → p.delay x j ≡ Some d → (d +ℤ pos (h j)) ≤ℤ pos v) × (latency p x ≤ v)
      go r None e = (r.0, r.1, more r.0 (λ d u. cc) r.2, r.3)
      go r (Some d) e = pick r d e (d +ℤ pos (h y)) refl

  top_greatest : (h : ℕ → ℕ) (x : ℕ) → (v : ℕ) × IsGreatest (Climb p h x) (pos v)
  top_greatest h x = (t.0, record { holds = t.1; greatest = λ z c. go z c })
    where
      t : (v : ℕ) × Climb p h x (pos v) × ((j : ℕ) (d : ℤ) → Among j (below p.count) → p.delay x j ≡ Some d → (d +ℤ pos (h j)) ≤ℤ pos v) × (latency p x ≤ v)
      t = top h x (below p.count)

      go : (z : ℤ) → Climb p h x z → z ≤ℤ pos t.0
      go z Itself = let b = t.3 in omega (arith, ints)
      go z (From j d e) = t.2 j d (lt_below p.count j (both_inside p ok x j (has_delay (p.delay x j) d e)).1) e

  record Heights (l : List ℕ) : Type 0 where
    height : ℕ → ℕ
    are : (i : ℕ) → Among i l → IsGreatest (Climb p height i) (pos (height i))

  -- the heights of later operations and of one more
  pub heights_step : (order : List ℕ) → IsSerial p order → (past xs : List ℕ) (x : ℕ) → order ≡ onto past (x ∷ xs) → (h new : ℕ → ℕ) (v : ℕ) →
      ((k : ℕ) → k ≢ x → new k ≡ h k) → new x ≡ v → IsGreatest (Climb p h x) (pos v) →
      ((i : ℕ) → Among i xs → IsGreatest (Climb p h i) (pos (h i))) → (i : ℕ) → Among i (x ∷ xs) → IsGreatest (Climb p new i) (pos (new i))
  heights_step order serial past xs x e h new v same here top are = go
    where
      s : IsSerial p (onto past (x ∷ xs))
      s = subst (IsSerial p) e serial

      x_first : (i : ℕ) → Among i xs → Earlier (onto past (x ∷ xs)) x i
      x_first i a = earlier_onto past (x ∷ xs) x i (inl (refl, a))

      after_x : (j : ℕ) → IsBefore p x j → new j ≡ h j
      after_x j d = same j (λ f. (both_inside p ok x j d).2 (sym f))

      apart : (i : ℕ) → Among i xs → i ≢ x
      apart i a f = let q = subst (λ n. Earlier (onto past (x ∷ xs)) x n) f (x_first i a) in never_both (onto past (x ∷ xs)) x x s.each_once q q

      after_rest : (i : ℕ) → Among i xs → (j : ℕ) → IsBefore p i j → new j ≡ h j
      after_rest i a j d = same j (λ f. never_both (onto past (x ∷ xs)) x i s.each_once (x_first i a) (subst (λ n. Earlier (onto past (x ∷ xs)) i n) f (s.kept i j d)))

      greatest_new : (i u : ℕ) → new i ≡ u → ((j : ℕ) → IsBefore p i j → new j ≡ h j) → IsGreatest (Climb p h i) (pos u) → IsGreatest (Climb p new i) (pos (new i))
      greatest_new i u f after g = record {
        holds = subst (λ n. Climb p new i (pos n)) (sym f) (climb_same p ok h new i (λ j d. sym (after j d)) (pos u) g.holds);
        greatest = λ z c. subst (λ n. z ≤ℤ pos n) (sym f) (g.greatest z (climb_same p ok new h i after z c));
      }

      go : (i : ℕ) → Among i (x ∷ xs) → IsGreatest (Climb p new i) (pos (new i))
      go i (inl f) = subst (λ n. IsGreatest (Climb p new n) (pos (new n))) f (greatest_new x v here after_x top)
      go i (inr a) = greatest_new i (h i) (same i (apart i a)) (after_rest i a) (are i a)

  heights_of : (past rest : List ℕ) → (some_order p ok).0 ≡ onto past rest → Heights rest
  heights_of past [] e = record { height = λ i. 0; are = λ i a. elim a [ ] }
  heights_of past (x ∷ xs) e = go (heights_of (x ∷ past) xs e)
    where
      go : Heights xs → Heights (x ∷ xs)
      go r = record {
        height = new;
        are = heights_step (some_order p ok).0 (some_order p ok).1 past xs x e r.height new v.0 (λ k ne. ap (λ b. cond b v.0 (r.height k)) (ne_eqb k x ne)) (ap (λ b. cond b v.0 (r.height x)) (eq-eqb x x refl)) v.1 r.are;
      }
        where
          v : (v : ℕ) × IsGreatest (Climb p r.height x) (pos v)
          v = top_greatest r.height x

          new : ℕ → ℕ
          new k = cond (nat_eq k x) v.0 (r.height k)

  -- ---- who goes next

  decide_ready : (past : List ℕ) (i : ℕ) → Decided (IsReady p past i)
  decide_ready past i =
      elim (decide_both A (B × (C × D)) (decide_lt i p.count)
      (decide_both B (C × D) (decide_not (Among i past) (decide_among i past))
      (decide_both C D
      (decide_all (λ k. IsBefore p k i → Among k past) (λ k. decide_if (IsBefore p k i) (Among k past) (decide_true (is_some (p.delay k i))) (decide_among k past)) (below p.count))
      (decide_if (IsBranch p i) ((k : ℕ) → Among k (below p.count) → k ≢ i → Among k past) (decide_branch (p.unit i))
      (decide_all (λ k. k ≢ i → Among k past) (λ k. decide_if (k ≢ i) (Among k past) (decide_not (k ≡ i) (cases_eq k i)) (decide_among k past)) (below p.count)))))) [
        | inl q ↦ inl (record {
          inside = q.0;
          unplaced = q.1.0;
          after_all = λ k d. q.1.1.0 k (lt_below p.count k (both_inside p ok k i d).0) d;
          branch_last = λ b k lt. q.1.1.1 b k (lt_below p.count k lt);
        })
        | inr f ↦ inr (λ r. f (r.inside, (r.unplaced, ((λ k a d. r.after_all k d), (λ b k a ne. r.branch_last b k (below_lt p.count k a) ne)))))
      ]
    where
      A : Type 0
      A = i < p.count

      B : Type 0
      B = ¬ (Among i past)

      C : Type 0
      C = (k : ℕ) → Among k (below p.count) → IsBefore p k i → Among k past

      D : Type 0
      D = IsBranch p i → (k : ℕ) → Among k (below p.count) → k ≢ i → Among k past

  -- where an operation isn't placed, one can be
  module _ (past : List ℕ) where
    first_ready : (pre rest : List ℕ) → (some_order p ok).0 ≡ onto pre rest → ((k : ℕ) → Among k pre → ¬ (IsBranch p k) → Among k past) → ((k : ℕ) × IsReady p past k) ⊎ ((k : ℕ) → Among k rest → ¬ (IsBranch p k) → Among k past)
    first_ready pre [] e f = inr (λ k a. elim a [ ])
    first_ready pre (x ∷ xs) e f = go (λ g. first_ready (x ∷ pre) xs e g) (decide_among x past) (decide_branch (p.unit x))
      where
        on : (((k : ℕ) → Among k (x ∷ pre) → ¬ (IsBranch p k) → Among k past) → ((k : ℕ) × IsReady p past k) ⊎ ((k : ℕ) → Among k xs → ¬ (IsBranch p k) → Among k past)) → (¬ (IsBranch p x) → Among x past) → ((k : ℕ) × IsReady p past k) ⊎ ((k : ℕ) → Among k (x ∷ xs) → ¬ (IsBranch p k) → Among k past)
        on more here =
            let at : (k : ℕ) → x ≡ k → ¬ (IsBranch p k) → Among k past = λ k g nb. subst (λ n. Among n past) g (here (λ b. nb (subst (IsBranch p) g b))) in
            elim (more (λ k a nb. elim a [ inl g ↦ at k g nb | inr b ↦ f k b nb ])) [
              | inl r ↦ inl r
              | inr h ↦ inr (λ k a nb. elim a [ inl g ↦ at k g nb | inr b ↦ h k b nb ])
            ]

        s : IsSerial p (onto pre (x ∷ xs))
        s = subst (IsSerial p) e (some_order p ok).1

        go : (((k : ℕ) → Among k (x ∷ pre) → ¬ (IsBranch p k) → Among k past) → ((k : ℕ) × IsReady p past k) ⊎ ((k : ℕ) → Among k xs → ¬ (IsBranch p k) → Among k past)) → Decided (Among x past) → Decided (IsBranch p x) → ((k : ℕ) × IsReady p past k) ⊎ ((k : ℕ) → Among k (x ∷ xs) → ¬ (IsBranch p k) → Among k past)
        go more (inl a) d = on more (λ nb. a)
        go more (inr na) (inl b) = on more (λ nb. absurd (nb b))
        go more (inr na) (inr nb) = inl (
          x,
          record {
            inside = (s.complete x).0 (among_right pre (x ∷ xs) x (inl refl));
            unplaced = na;
            after_all = λ k d. f k (before_it pre xs x k s.each_once (s.kept k x d)) (λ b. ok.branch_last k x b d);
            branch_last = λ b. absurd (nb b);
          },
        )

    some_ready : (i : ℕ) → i < p.count → ¬ (Among i past) → (k : ℕ) × IsReady p past k
    some_ready i lt na = elim (first_ready [] (some_order p ok).0 refl (λ k a. elim a [ ])) [
      | inl r ↦ r
      | inr f ↦ elim (decide_branch (p.unit i)) [
        | inr nb ↦ absurd (na (f i (((some_order p ok).1.complete i).1 lt) nb))
        | inl b ↦ (
          i,
          record {
            inside = lt;
            unplaced = na;
            after_all = λ k d. f k (((some_order p ok).1.complete k).1 (both_inside p ok k i d).0) (λ c. ok.branch_last k i c d);
            branch_last = λ c k l ne. f k (((some_order p ok).1.complete k).1 l) (λ q. ne (ok.one_branch k i l lt q b));
          },
        )
      ]
    ]

    module _ (h : ℕ → ℕ) where
      abbrev Beats : ℕ → ℕ → Type 0
      Beats i k = (h k < h i) ⊎ ((h k ≡ h i) × (i ≤ k))

      either : (i k : ℕ) → Beats i k ⊎ Beats k i
      either i k = elim (cases_lt (h k) (h i)) [
        | inl g ↦ inl (inl g)
        | inr g ↦ elim (cases_lt (h i) (h k)) [
          | inl l ↦ inr (inl l)
          | inr l ↦ elim (cases_lt i k) [
            | inl m ↦ inl (inr ((let a : h i ≤ h k = g in let b : h k ≤ h i = l in omega arith), omega arith))
            | inr m ↦ inr (inr ((let a : h i ≤ h k = g in let b : h k ≤ h i = l in omega arith), m))
          ]
        ]
      ]

      beats_on : (i j k : ℕ) → Beats i j → Beats j k → Beats i k
      beats_on i j k (inl a) (inl b) = inl (omega arith)
      beats_on i j k (inl a) (inr b) = inl (let c = b.0 in omega arith)
      beats_on i j k (inr a) (inl b) = inl (let c = a.0 in omega arith)
      beats_on i j k (inr a) (inr b) = inr ((b.0 ∙ a.0), (let c = a.1 in let d = b.1 in omega arith))

      first_among_ready : (l : List ℕ) → ((i : ℕ) × IsReady p past i × ((k : ℕ) → Among k l → IsReady p past k → Beats i k)) ⊎ ((k : ℕ) → Among k l → ¬ (IsReady p past k))
      first_among_ready [] = inr (λ k a. elim a [ ])
      first_among_ready (x ∷ xs) = go (first_among_ready xs) (decide_ready past x)
        where
          go : ((i : ℕ) × IsReady p past i × ((k : ℕ) → Among k xs → IsReady p past k → Beats i k)) ⊎ ((k : ℕ) → Among k xs → ¬ (IsReady p past k)) → Decided (IsReady p past x) → ((i : ℕ) × IsReady p past i × ((k : ℕ) → Among k (x ∷ xs) → IsReady p past k → Beats i k)) ⊎ ((k : ℕ) → Among k (x ∷ xs) → ¬ (IsReady p past k))
          go (inr f) (inr g) = inr (λ k a r. elim a [ inl e ↦ g (subst (IsReady p past) (sym e) r) | inr b ↦ f k b r ])
          go (inr f) (inl r) = inl (x, r, λ k a q. elim a [ inl e ↦ inr (sym (ap h e), (let d = e in omega arith)) | inr b ↦ absurd (f k b q) ])
          go (inl r) (inr g) = inl (r.0, r.1, λ k a q. elim a [ inl e ↦ absurd (g (subst (IsReady p past) (sym e) q)) | inr b ↦ r.2 k b q ])
          go (inl r) (inl q) = elim (either r.0 x) [
            | inl b ↦ inl (r.0, r.1, λ k a m. elim a [ inl e ↦ subst (Beats r.0) e b | inr c ↦ r.2 k c m ])
            | inr b ↦ inl (x, q, λ k a m. elim a [ inl e ↦ inr (sym (ap h e), (let d = e in omega arith)) | inr c ↦ beats_on x r.0 k b (r.2 k c m) ])
          ]

      pub next_of : (i : ℕ) → i < p.count → ¬ (Among i past) → (k : ℕ) × IsNext p h past k
      next_of i lt na = elim (first_among_ready (below p.count)) [
        | inl r ↦ (r.0, record { ready = r.1; first = λ k q. r.2 k (lt_below p.count k q.inside) q })
        | inr f ↦ absurd (let q = some_ready i lt na in f q.0 (lt_below p.count q.0 q.1.inside) q.1)
      ]

  -- ---- where it goes

  decide_delay : (o : Option ℤ) (a c : ℕ) → Decided ((d : ℤ) → o ≡ Some d → (pos a +ℤ d) ≤ℤ pos c)
  decide_delay None a c = inl (λ d e. cc)
  decide_delay (Some d) a c = by_lt_z (pos c) (pos a +ℤ d) (λ lt. inr (λ h. let k = h d refl in omega (arith, ints))) (λ le. inl (λ e q. let s : d ≡ e = cc in subst (λ i. (pos a +ℤ i) ≤ℤ pos c) s le))

  decide_le : (a b : ℕ) → Decided (a ≤ b)
  decide_le a b = elim (cases_lt b a) [ inl h ↦ inr (λ g. omega arith) | inr h ↦ inl h ]

  decide_issue : (cycle : ℕ → ℕ) (past : List ℕ) (i c : ℕ) → Decided (CanIssue p cycle past i c)
  decide_issue cycle past i c =
      elim (decide_both W (U × (D × L)) (decide_lt (issuing cycle past c) p.machine.width)
      (decide_both U (D × L) (decide_all (λ t. c ≤ t → Free t) (λ t. decide_if (c ≤ t) (Free t) (decide_le c t) (decide_lt (busy_on p.unit (p.unit i) cycle (busy p) past t) (units_of p.machine (p.unit i)))) (below (c + busy p i)))
      (decide_both D L
      (decide_all (λ k. (d : ℤ) → p.delay k i ≡ Some d → (pos (cycle k) +ℤ d) ≤ℤ pos c) (λ k. decide_delay (p.delay k i) (cycle k) c) (below p.count))
      (decide_if (IsBranch p i) ((k : ℕ) → Among k past → cycle k + latency p k ≤ c + latency p i) (decide_branch (p.unit i))
      (decide_all (λ k. cycle k + latency p k ≤ c + latency p i) (λ k. decide_le (cycle k + latency p k) (c + latency p i)) past))))) [
        | inl q ↦ inl (record {
          room = record { width = q.0; units = λ t from before. q.1.0 t (lt_below (c + busy p i) t before) from };
          delays = λ k d e. q.1.1.0 k (lt_below p.count k (both_inside p ok k i (has_delay (p.delay k i) d e)).0) d e;
          lands_last = q.1.1.1;
        })
        | inr f ↦ inr (λ r. f (r.room.width, ((λ t a from. r.room.units t from (below_lt (c + busy p i) t a)), ((λ k a d e. r.delays k d e), r.lands_last))))
      ]
    where
      W : Type 0
      W = issuing cycle past c < p.machine.width

      Free : ℕ → Type 0
      Free t = busy_on p.unit (p.unit i) cycle (busy p) past t < units_of p.machine (p.unit i)

      U : Type 0
      U = (t : ℕ) → Among t (below (c + busy p i)) → c ≤ t → Free t

      D : Type 0
      D = (k : ℕ) → Among k (below p.count) → (d : ℤ) → p.delay k i ≡ Some d → (pos (cycle k) +ℤ d) ≤ℤ pos c

      L : Type 0
      L = IsBranch p i → (k : ℕ) → Among k past → cycle k + latency p k ≤ c + latency p i

  -- a cycle that is 32 after all of the past
  far : (cycle : ℕ → ℕ) (past : List ℕ) → (c : ℕ) × ((k : ℕ) → Among k past → cycle k + 32 ≤ c)
  far cycle [] = (0, λ k a. elim a [ ])
  far cycle (x ∷ xs) =
      let r = far cycle xs in
      (cycle x + 32 + r.0, λ k a. elim a [ inl e ↦ (let q = ap cycle e in omega arith) | inr b ↦ (let q = r.1 k b in omega arith) ])

  -- ---- all of them

  record Placing (h : ℕ → ℕ) (past : List ℕ) (cycle : ℕ → ℕ) (left : List ℕ) : Type 0 where
    rest : List ℕ
    new : ℕ → ℕ
    agree : (k : ℕ) → Among k past → cycle k ≡ new k
    placed : ArePlaced p h new past rest
    all : (k : ℕ) → Among k left → Among k rest

  record AreLeft (past left : List ℕ) : Type 0 where
    once : EachOnce left
    unplaced : (k : ℕ) → Among k left → ¬ (Among k past)
    full : (k : ℕ) → k < p.count → Among k past ⊎ Among k left
    inside : (k : ℕ) → Among k left → k < p.count

  left_out : (past left : List ℕ) (i : ℕ) → AreLeft past left → Among i left → AreLeft (i ∷ past) (out i left)
  left_out past left i l a = record {
    once = (once_out i left l.once).0;
    unplaced = λ k m q. elim q [ inl e ↦ (once_out i left l.once).1 (subst (λ n. Among n (out i left)) (sym e) m) | inr b ↦ l.unplaced k (out_among i k left m) b ];
    full = λ k lt. elim (l.full k lt) [
      | inl b ↦ inl (inr b)
      | inr b ↦ elim (cases_eq k i) [ inl e ↦ inl (inl (sym e)) | inr f ↦ inr (among_out i k left b f) ]
    ];
    inside = λ k m. l.inside k (out_among i k left m);
  }

  place_one : (h : ℕ → ℕ) (past left : List ℕ) (cycle : ℕ → ℕ) (i c : ℕ) → IsNext p h past i → IsLeast (CanIssue p cycle past i) c → Placing h (i ∷ past) (λ k. cond (nat_eq k i) c (cycle k)) (out i left) → Placing h past cycle left
  place_one h past left cycle i c nx le r = record {
    rest = i ∷ r.rest;
    new = r.new;
    agree = agree;
    placed = (
      nx,
      subst (IsLeast (CanIssue p r.new past i)) here
          (record {
            holds = can_issue_same p ok cycle r.new past i c agree nx.ready.after_all le.holds;
            least = λ m q. le.least m (can_issue_same p ok r.new cycle past i m (λ k a. sym (agree k a)) nx.ready.after_all q);
          }),
      r.placed,
    );
    all = λ k a. elim (cases_eq k i) [ inl e ↦ inl (sym e) | inr f ↦ inr (r.all k (among_out i k left a f)) ];
  }
    where
      agree : (k : ℕ) → Among k past → cycle k ≡ r.new k
      agree k a = sym (ap (λ b. cond b c (cycle k)) (ne_eqb k i (λ e. nx.ready.unplaced (subst (λ n. Among n past) e a)))) ∙ r.agree k (inr a)

      here : c ≡ r.new i
      here = sym (ap (λ b. cond b c (cycle i)) (eq-eqb i i refl)) ∙ r.agree i (inl refl)

  place_all : (h : ℕ → ℕ) (fuel : ℕ) (past left : List ℕ) (cycle : ℕ → ℕ) → length left ≤ fuel → AreLeft past left → Placing h past cycle left
  place_all h fuel past [] cycle le l = record { rest = []; new = cycle; agree = λ k a. refl; placed = tt; all = λ k a. a }
  place_all h zero past (x ∷ xs) cycle le l = absurd (omega arith)
  place_all h (suc fuel) past (x ∷ xs) cycle le l = go (λ q m cy f al. place_all h fuel q m cy f al)
    where
      nx : (k : ℕ) × IsNext p h past k
      nx = next_of past h x (l.inside x (inl refl)) (l.unplaced x (inl refl))

      at : Among nx.0 (x ∷ xs)
      at = elim (l.full nx.0 nx.1.ready.inside) [ inl a ↦ absurd (nx.1.ready.unplaced a) | inr a ↦ a ]

      c : (c : ℕ) × IsLeast (CanIssue p cycle past nx.0) c
      c = let m = far cycle past in least_of (CanIssue p cycle past nx.0) (decide_issue cycle past nx.0) m.0 (can_issue_far p ok cycle past nx.0 m.0 nx.1.ready.inside nx.1.ready.after_all m.1)

      go : ((q m : List ℕ) (cy : ℕ → ℕ) → length m ≤ fuel → AreLeft q m → Placing h q cy m) → Placing h past cycle (x ∷ xs)
      go more =
          let shorter = length-out nx.0 (x ∷ xs) at in
          place_one h past (x ∷ xs) cycle nx.0 c.0 nx.1 c.1 (more (nx.0 ∷ past) (out nx.0 (x ∷ xs)) (λ k. cond (nat_eq k nx.0) c.0 (cycle k)) (omega arith) (left_out past (x ∷ xs) nx.0 l at))

-- the greatest of a function over a list
greatest_at : (f : ℕ → ℕ) (x : ℕ) (l : List ℕ) → (i : ℕ) × Among i (x ∷ l) × ((k : ℕ) → Among k (x ∷ l) → f k ≤ f i)
greatest_at f x [] = (x, inl refl, λ k a. elim a [ inl e ↦ (let q = ap f e in omega arith) | inr b ↦ elim b [ ] ])
greatest_at f x (y ∷ ys) = go (greatest_at f y ys)
  where
    go : (i : ℕ) × Among i (y ∷ ys) × ((k : ℕ) → Among k (y ∷ ys) → f k ≤ f i) → (i : ℕ) × Among i (x ∷ (y ∷ ys)) × ((k : ℕ) → Among k (x ∷ (y ∷ ys)) → f k ≤ f i)
    go r = elim (cases_lt (f r.0) (f x)) [
      | inl lt ↦ (x, inl refl, λ k a. elim a [ inl e ↦ (let q = ap f e in omega arith) | inr b ↦ (let q = r.2 k b in omega arith) ])
      | inr le ↦ (r.0, inr r.1, λ k a. elim a [ inl e ↦ (let q = ap f e in let w : f x ≤ f r.0 = le in omega arith) | inr b ↦ r.2 k b ])
    ]

pub each_has_a_schedule : EachHasASchedule
each_has_a_schedule p ok = (
  record { order = r.rest; cycle = r.new; end = r.new last.0 + latency p last.0 },
  record {
    height = heights.height;
    heights = λ i lt. heights.are i (((some_order p ok).1.complete i).1 lt);
    complete = λ i lt. r.all i (lt_below p.count i lt);
    placed = r.placed;
    ends = λ i lt. last.2 i (in_all i lt);
    reached = (last.0, from_all last.0 last.1, refl);
  },
)
  where
    heights : Heights p ok (some_order p ok).0
    heights = heights_of p ok [] (some_order p ok).0 refl

    r : Placing p ok heights.height [] (λ k. 0) (below p.count)
    r = place_all p ok heights.height (length (below p.count)) [] (below p.count) (λ k. 0) (omega arith) (record {
      once = below_once p.count;
      unplaced = λ k a b. b;
      full = λ k lt. inr (lt_below p.count k lt);
      inside = λ k a. below_lt p.count k a;
    })

    last : (i : ℕ) × Among i (0 ∷ below p.count) × ((k : ℕ) → Among k (0 ∷ below p.count) → r.new k + latency p k ≤ r.new i + latency p i)
    last = greatest_at (λ k. r.new k + latency p k) 0 (below p.count)

    in_all : (i : ℕ) → i < p.count → Among i (0 ∷ below p.count)
    in_all i lt = inr (lt_below p.count i lt)

    from_all : (i : ℕ) → Among i (0 ∷ below p.count) → i < p.count
    from_all i (inl e) = let q = ok.some in omega arith
    from_all i (inr a) = below_lt p.count i a
