-- How one operation is reached from another along links, with what sum of delays.
use Rattle.std.proofs.Common.{◌≡◌, ◌≢◌, ℕ, zero, suc, ◌+◌, ◌<◌, ◌≤◌, Bool, true, not, List, ◌⊎◌, inl, inr, refl, sym, ap, subst, ◌∙◌, arith, Option}
use Rattle.std.specs.Prelude.{IsTrue, is_some, ℤ, pos, ◌+ℤ◌, ◌≤ℤ◌}
use Rattle.std.proofs.lemmas.Int.{ints}
use Rattle.std.proofs.lemmas.Bool.{not-true, not-false}
use Rattle.operation.specs.declared.LatKind.{LatKind}
use Rattle.timed_meaning.specs.declared.TimedOp.{TimedOp}
use Rattle.block_links.specs.declared.links.Dependence.{Dependence}
use Rattle.block_links.specs.declared.links.Dependence.TheVariants.{Given}
use Rattle.block_links.specs.declared.links.Link.{Link}
use Rattle.block_links.specs.declared.links.Links.{Links}
use Rattle.block_links.specs.Links.{row, is_linked, delay_by, delay_along}
use Rattle.block_links.specs.Cover.{Chain, Way, One, Then}
use Rattle.block_links.proofs.Rows.{at_most, along_linked}
use Rattle.dependences.specs.declared.access.Access.{Access}
use Rattle.dependences.specs.Linked.{IsNext, IsLink, AreLinked, Trap, Input, latency_among, traps_at, is_inb_at}
use Rattle.dependences.proofs.Scans.{PassesAll, FailsFirst, scan}

-- ---- ways

-- no link, and the number isn't above 0; or a way with a sum of at least the number
pub data Reach (along : ℕ → ℕ → Option ℤ) (i j : ℕ) (d : ℤ) : Type 0 where
  Here : i ≡ j → d ≤ℤ pos 0 → Reach along i j d
  There : (sum : ℤ) → Way along i j sum → d ≤ℤ sum → Reach along i j d

-- one way and then another
ways : (along : ℕ → ℕ → Option ℤ) (i k j : ℕ) (s t : ℤ) → Way along i k s → Way along k j t → (sum : ℤ) × Way along i j sum × (sum ≡ s +ℤ t)
ways along i k x s t v (One j d e) = (s +ℤ d, Then k j s d v e, refl)
ways along i k x s t v (Then m j u d w e) =
    let r = ways along i k m s u v w in
    (r.0 +ℤ d, Then m j r.0 d r.1 e, (let same = r.2 in omega (arith, ints)))

pub then : (along : ℕ → ℕ → Option ℤ) (i k j : ℕ) (c d : ℤ) → Reach along i k c → Reach along k j d → Reach along i j (c +ℤ d)
then along i k j c d (Here e low) (Here f less) = Here (e ∙ f) (omega (arith, ints))
then along i k j c d (Here e low) (There t w le) = There t (subst (λ x. Way along x j t) (sym e) w) (omega (arith, ints))
then along i k j c d (There s v le) (Here f less) = There s (subst (λ x. Way along i x s) f v) (omega (arith, ints))
then along i k j c d (There s v le) (There t w less) =
    let r = ways along i k j s t v w in
    There r.0 r.1 (let same = r.2 in omega (arith, ints))

pub at_least_of : (along : ℕ → ℕ → Option ℤ) (i j : ℕ) (c d : ℤ) → c ≤ℤ d → Reach along i j d → Reach along i j c
at_least_of along i j c d le (Here e low) = Here e (omega (arith, ints))
at_least_of along i j c d le (There s w more) = There s w (omega (arith, ints))

-- another operation is reached by a way
pub way_to : (along : ℕ → ℕ → Option ℤ) (i j : ℕ) (d : ℤ) → i ≢ j → Reach along i j d → (sum : ℤ) × Way along i j sum × (d ≤ℤ sum)
way_to along i j d ne (Here e low) = absurd (ne e)
way_to along i j d ne (There s w le) = (s, w, le)

-- a way is a chain
pub chain_of : (latency : ℕ → ℕ) (l : Links) (i j : ℕ) (sum : ℤ) → Way (delay_along latency l) i j sum → Chain (is_linked l) i j
chain_of latency l i x sum (One j d e) = One j (sym (along_linked latency l i j) ∙ ap (λ (o : Option ℤ). is_some o) e)
chain_of latency l i x sum (Then k j s d w e) =
    Then k j (chain_of latency l i k s w) (sym (along_linked latency l k j) ∙ ap (λ (o : Option ℤ). is_some o) e)

-- ---- links

module _ (ops : ℕ → TimedOp) (n : ℕ) (list : List Access) (l : Links) (linked : AreLinked ops n list l) (latency : LatKind → ℕ) where
  abbrev pub along : ℕ → ℕ → Option ℤ
  along = delay_along (latency_among latency ops) l

  pub by_link : (i j : ℕ) (d : Dependence) → i < n → IsLink ops n list i j d →
      Reach along i j (delay_by d (latency_among latency ops i) (latency_among latency ops j))
  by_link i j d lt h =
      let k : Link = record { to = j; dependence = d } in
      let r = at_most (latency_among latency ops) i (row l i) k ((linked.just i k lt).1 h) in
      There r.0 (One j r.0 r.1) r.2

  -- ---- in list order

  -- from each operation that passes a test to a later one, where each is linked to the next
  in_list_order :
      (test : ℕ → Bool) → ((i j : ℕ) → IsNext test n i j → IsLink ops n list i j (Given (pos 0))) → (m i j : ℕ) → j ≤ i + m →
      i < j → j < n → IsTrue (test i) → IsTrue (test j) → Reach along i j (pos 0)
  in_list_order test link zero i j near lt inside s t = absurd (omega arith)
  in_list_order test link (suc m) i j near lt inside s t = go (scan (λ k. not (test k)) (i + 1) j) (in_list_order test link m)
    where
      one : (k : ℕ) → i < k → k < n → IsTrue (test k) → PassesAll (λ x. not (test x)) (i + 1) k → Reach along i k (pos 0)
      one k after below u none =
          by_link i k (Given (pos 0)) (omega arith)
          (link i k (record { order = after; inside = below; first = s; second = u; none = λ x behind before. not-true (test x) (none x (omega arith) before) }))

      go : PassesAll (λ x. not (test x)) (i + 1) j ⊎ ((k : ℕ) × FailsFirst (λ x. not (test x)) (i + 1) j k) →
          ((x y : ℕ) → y ≤ x + m → x < y → y < n → IsTrue (test x) → IsTrue (test y) → Reach along x y (pos 0)) → Reach along i j (pos 0)
      go (inl none) rest = one j lt inside t none
      go (inr r) rest =
          let k = r.0 in
          let f = r.1 in
          let u : test k ≡ true = not-false (test k) f.fails in
          then along i k j (pos 0) (pos 0) (one k (let a = f.from in omega arith) (let b = f.below in omega arith) u f.passed)
          (rest k j (let a = f.from in omega arith) f.below inside u t)

  pub trap_order : (i j : ℕ) → i < j → j < n → IsTrue (traps_at ops i) → IsTrue (traps_at ops j) → Reach along i j (pos 0)
  trap_order i j lt inside s t = in_list_order (traps_at ops) (λ a b h. Trap h) j i j (omega arith) lt inside s t

  pub input_order : (i j : ℕ) → i < j → j < n → IsTrue (is_inb_at ops i) → IsTrue (is_inb_at ops j) → Reach along i j (pos 0)
  input_order i j lt inside s t = in_list_order (is_inb_at ops) (λ a b h. Input h) j i j (omega arith) lt inside s t
