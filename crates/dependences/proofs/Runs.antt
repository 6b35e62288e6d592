-- Of two accesses to one place that aren't alike, the later follows the earlier.
use Rattle.std.proofs.Common.{◌≡◌, ◌≢◌, ℕ, zero, suc, ◌+◌, ◌<◌, ◌≤◌, Bool, true, false, List, length, ◌⊎◌, inl, inr, refl, sym, ap, subst, ◌∙◌, arith}
use Rattle.std.specs.Prelude.{pos, ◌≤ℤ◌}
use Rattle.std.proofs.lemmas.Int.{ints}
use Rattle.std.proofs.lemmas.Bool.{cases_eq, cases_Bool, cases_order, both_ways, false_from_ne_true}
use Rattle.operation.specs.declared.Op.{Op}
use Rattle.operation.specs.declared.Op.TheVariants as op
use Rattle.operation.specs.declared.LatKind.{LatKind}
use Rattle.operation.specs.declared.LatKind.TheVariants as lat
use Rattle.operation.specs.Places.{writes, is_store, latency_kind}
use Rattle.operation.proofs.PlaceLaws.{writer_stores, store_traps}
use Rattle.timed_meaning.specs.declared.TimedOp.{TimedOp}
use Rattle.block_links.specs.declared.links.Links.{Links}
use Rattle.block_links.specs.Links.{delay_by}
use Rattle.dependences.specs.declared.footprint.Role.TheVariants as role
use Rattle.dependences.specs.declared.access.Usage.{Usage}
use Rattle.dependences.specs.declared.access.Usage.TheVariants.{Read, Write}
use Rattle.dependences.specs.declared.access.Access.{Access}
use Rattle.dependences.specs.Listed.{AreListed}
use Rattle.dependences.specs.Accesses.{AreAccesses, access_at, are_alike, are_stores}
use Rattle.dependences.specs.Linked.{AreNeighbours, AreRun, Near, AreLinked, dependence_of, latency_among}
use Rattle.dependences.proofs.Usages.{alike_both, stores_are, store_place}
use Rattle.dependences.proofs.Told.{IsWrite, Tells, told}
use Rattle.dependences.proofs.InTurn.{not_later, not_above, between}
use Rattle.dependences.proofs.Together.{one_role}
use Rattle.dependences.proofs.Scans.{PassesAll, FailsFirst, scan}
use Rattle.dependences.proofs.Reach.{Here, at_least_of, by_link, trap_order, along}
use Rattle.dependences.proofs.Follows.{gap, extra_is, extra_once, Follows, Same, Later, on}

module _ (ops : ℕ → TimedOp) (n : ℕ) (list : List Access) (l : Links) (listed : AreListed ops n) (are : AreAccesses ops n list) (linked : AreLinked ops n list l) (latency : LatKind → ℕ) (some : (k : LatKind) → 1 ≤ latency k) where
  abbrev lats : ℕ → ℕ
  lats = latency_among latency ops

  abbrev at : ℕ → Access
  at = access_at list

  abbrev Is : (i : ℕ) (u : Usage) (j : ℕ) (v : Usage) → Type 0
  Is = Follows (along ops n list l linked latency) lats

  -- the access at the second place follows that at the first
  abbrev To : ℕ → ℕ → Type 0
  To p q = Is (at p).number (at p).usage (at q).number (at q).usage

  abbrev alike : ℕ → ℕ → Bool
  alike p q = are_alike (at p).usage (at q).usage

  -- ---- in neighbouring runs

  delay_is : (u v : Usage) (la lb : ℕ) → are_alike u v ≡ false → are_stores u v ≡ false → gap la lb u v ≤ℤ delay_by (dependence_of u v) la lb
  delay_is Read Read la lb h s = absurd (let k : ⊥ = cc in k)
  delay_is Read (Write r) la lb h s = let e = extra_is Read (Write r) s in omega (arith, ints)
  delay_is (Write r) Read la lb h s = let e = extra_is (Write r) Read s in omega (arith, ints)
  delay_is (Write r) (Write t) la lb h s = let e = extra_is (Write r) (Write t) s in omega (arith, ints)

  near : (p q : ℕ) → AreNeighbours list p q → are_stores (at p).usage (at q).usage ≡ false → (at p).number ≢ (at q).number → (at p).number < n → To p q
  near p q h s ne lt =
      let i = (at p).number in
      let j = (at q).number in
      let u = (at p).usage in
      let v = (at q).usage in
      Later (at_least_of (along ops n list l linked latency) i j (gap (lats i) (lats j) u v) (delay_by (dependence_of u v) (lats i) (lats j))
      (delay_is u v (lats i) (lats j) h.unlike s)
      (by_link ops n list l linked latency i j (dependence_of u v) lt (Near p q h s refl refl ne)))

  -- ---- of one operation

  own : (a b : Access) (u v : Usage) → Tells ops n a u → Tells ops n b v → a.place ≡ b.place → a.time ≤ b.time → a.number ≡ b.number →
      are_alike u v ≡ false → Is a.number u b.number v
  own a b Read Read f g e le same h = absurd (let k : ⊥ = cc in k)
  own a b Read (Write r) f g e le same h =
      Later (Here same (let m = some (latency_kind (ops b.number).guarded.op) in let x = extra_once Read (Write r) in omega (arith, ints)))
  own a b (Write r) Read f g e le same h =
      absurd (
      let late = listed.late a.number f.inside in
      let x = f.timed in
      let y = g.timed in
      let z = ap (λ k. (ops k).at) same in
      omega arith)
  own a b (Write r) (Write t) f g e le same h = Same same (ap Write (one_role ops n a b r t f g e same))

  -- ---- both stores

  store_kind : (o : Op) → is_store o ≡ true → latency_kind o ≡ lat.Store
  store_kind (op.Store size d s imm) h = refl
  store_kind o h = cc

  stored : (a : Access) → IsWrite ops n a role.Store → is_store (ops a.number).guarded.op ≡ true
  stored a f =
      let o = (ops a.number).guarded.op in
      writer_stores o (ap (writes o) (sym (store_place o f.of f.role)) ∙ f.writes_it)

  -- they are in list order, and each can trap
  stores : (p q : ℕ) → p < q → q < length list → (at p).place ≡ (at q).place → IsWrite ops n (at p) role.Store → IsWrite ops n (at q) role.Store →
      Is (at p).number (Write role.Store) (at q).number (Write role.Store)
  stores p q lt inside e f g =
      elim (cases_order i j) [
        | inl same ↦ Same same refl
        | inr (inl before) ↦
            Later (at_least_of (along ops n list l linked latency) i j (gap (lats i) (lats j) (Write role.Store) (Write role.Store)) (pos 0)
            (let same : lats i ≡ lats j = ap latency kinds in omega (arith, ints))
            (trap_order ops n list l linked latency i j before g.inside (store_traps _ first) (store_traps _ second)))
        | inr (inr behind) ↦
            absurd (
            let x = f.timed in
            let y = g.timed in
            let z = listed.alike i j f.inside g.inside kinds in
            let w = listed.never_fall j i behind f.inside in
            let t = not_later ops n list are p q lt inside e in
            let same : (at p).time ≡ (at q).time = omega arith in
            let u = not_above ops n list are p q lt inside e same in
            omega arith)
      ]
    where
      i : ℕ
      i = (at p).number

      j : ℕ
      j = (at q).number

      first : is_store (ops i).guarded.op ≡ true
      first = stored (at p) f

      second : is_store (ops j).guarded.op ≡ true
      second = stored (at q) g

      kinds : latency_kind (ops i).guarded.op ≡ latency_kind (ops j).guarded.op
      kinds = store_kind (ops i).guarded.op first ∙ sym (store_kind (ops j).guarded.op second)

  -- ---- all

  -- the later of two accesses to a place that aren't alike follows the earlier
  abbrev Claim : ℕ → ℕ → Type 0
  Claim p q = p < q → q < length list → (at p).place ≡ (at q).place → alike p q ≡ false → To p q

  -- by a link where they are in neighbouring runs, and else over accesses in between
  module _ (p q : ℕ) (lt : p < q) (inside : q < length list) (e : (at p).place ≡ (at q).place) (unlike : alike p q ≡ false) (shorter : (x y : ℕ) → y + p < q + x → Claim x y) where
    tells : (k : ℕ) (u : Usage) → k < length list → (at k).usage ≡ u → Tells ops n (at k) u
    tells k u below f = subst (λ v. Tells ops n (at k) v) f (told ops n list are k below)

    number_inside : (a : Access) (u : Usage) → Tells ops n a u → a.number < n
    number_inside a Read f = f.inside
    number_inside a (Write r) f = f.inside

    to : (k : ℕ) → p < k → k < q → (at p).place ≡ (at k).place
    to k after before = between ops n list are p k q after before inside e

    over : (k : ℕ) → p < k → k < q → alike p k ≡ false → alike k q ≡ false → To p q
    over k after before h g =
        on (along ops n list l linked latency) lats (at p).number (at k).number (at q).number (at p).usage (at k).usage (at q).usage
        (shorter p k (omega arith) after (omega arith) (to k after before) h)
        (shorter k q (omega arith) before inside (sym (to k after before) ∙ e) g)

    over_two : (x k : ℕ) → p < x → x < k → k < q → alike p x ≡ false → alike x k ≡ false → alike k q ≡ false → To p q
    over_two x k after between before h i g =
        on (along ops n list l linked latency) lats (at p).number (at x).number (at q).number (at p).usage (at x).usage (at q).usage
        (shorter p x (omega arith) after (omega arith) (to x after (omega arith)) h)
        (on (along ops n list l linked latency) lats (at x).number (at k).number (at q).number (at x).usage (at k).usage (at q).usage
        (shorter x k (omega arith) between (omega arith) (sym (to x after (omega arith)) ∙ to k (omega arith) before) i)
        (shorter k q (omega arith) before inside (sym (to k (omega arith) before) ∙ e) g))

    module _ (apart : are_stores (at p).usage (at q).usage ≡ false) (differ : (at p).number ≢ (at q).number) where
      next : (x : ℕ) → p < x → x ≤ q → AreRun list p x → PassesAll (λ k. alike k q) x q → To p q
      next x after upto run rest =
          near p q
          (record { order = lt; inside = inside; place = e; unlike = unlike; second = x; behind = after; within = upto; first_run = run; second_run = rest })
          apart differ (number_inside (at p) (at p).usage (told ops n list are p (omega arith)))

      -- x is the first that isn't alike with the earlier, and k isn't alike with the later
      third : (x k : ℕ) → FailsFirst (alike p) (p + 1) q x → FailsFirst (λ i. alike i q) x q k → (alike p k ≡ true) ⊎ (alike p k ≡ false) → To p q
      third x k f g (inr h) = over k (let a = f.from in let b = g.from in omega arith) g.below h g.fails
      third x k f g (inl h) =
          let differs = λ (same : x ≡ k). both_ways (alike p x) f.fails (ap (alike p) same ∙ h) in
          over_two x k (let a = f.from in omega arith) (let b = g.from in omega arith) g.below f.fails
          (false_from_ne_true (alike x k) (λ t. both_ways (alike p x) f.fails (alike_both (at p).usage (at k).usage (at x).usage h t)))
          g.fails

      second : (x : ℕ) → FailsFirst (alike p) (p + 1) q x → PassesAll (λ k. alike k q) x q ⊎ ((k : ℕ) × FailsFirst (λ i. alike i q) x q k) → To p q
      second x f (inl all) = next x (let a = f.from in omega arith) (let b = f.below in omega arith) (λ k after before. f.passed k (omega arith) before) all
      second x f (inr r) = third x r.0 f r.1 (cases_Bool (alike p r.0))

      first : PassesAll (alike p) (p + 1) q ⊎ ((x : ℕ) × FailsFirst (alike p) (p + 1) q x) → To p q
      first (inl all) = next q lt (omega arith) (λ k after before. all k (omega arith) before) (λ k from below. absurd (omega arith))
      first (inr r) = second r.0 r.1 (scan (λ k. alike k q) r.0 q)

    step : (are_stores (at p).usage (at q).usage ≡ true) ⊎ (are_stores (at p).usage (at q).usage ≡ false) → ((at p).number ≡ (at q).number) ⊎ ((at p).number ≡ (at q).number → ⊥) → To p q
    step (inl s) c =
        let r = stores_are (at p).usage (at q).usage s in
        let h = stores p q lt inside e (tells p (Write role.Store) (omega arith) r.0) (tells q (Write role.Store) inside r.1) in
        subst (λ u. Is (at p).number u (at q).number (at q).usage) (sym r.0) (subst (λ v. Is (at p).number (Write role.Store) (at q).number v) (sym r.1) h)
    step (inr s) (inl same) =
        own (at p) (at q) (at p).usage (at q).usage (told ops n list are p (omega arith)) (told ops n list are q inside) e (not_later ops n list are p q lt inside e) same unlike
    step (inr s) (inr differ) = first s differ (scan (alike p) (p + 1) q)

  pub follows : (m p q : ℕ) → q ≤ p + m → Claim p q
  follows zero p q few lt inside e unlike = absurd (omega arith)
  follows (suc m) p q few lt inside e unlike =
      step p q lt inside e unlike (λ x y less. follows m x y (omega arith)) (cases_Bool (are_stores (at p).usage (at q).usage)) (cases_eq (at p).number (at q).number)
