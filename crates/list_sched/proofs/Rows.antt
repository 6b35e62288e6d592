-- The links of a table's row.
use Rattle.std.proofs.Common.{◌≡◌, ℕ, zero, suc, ◌+◌, ◌<◌, ◌≤◌, cond, [], ◌++◌, length, ◌⊎◌, inl, inr, refl, sym, ap, subst, ◌∙◌, arith, add-one, length-append, append-nil, Option, Some, None}
use Rattle.std.specs.Prelude.{nat_lt, ℤ}
use Rattle.std.proofs.lemmas.Bool.{cases_lt, cases_eq, lt-ltb, le-ltb}
use Rattle.std.proofs.lemmas.List.Elements.{All-append, All-nil, All-cons}
use Rattle.serial_order.specs.Table.{Table, delay_of}
use Rattle.block_links.specs.declared.links.Link.{Link}
use Rattle.block_links.specs.Links.{delay_to, LeadInside}
use Rattle.block_links.proofs.Rows.{push_other, push_first}
use Rattle.list_sched.specs.Links.{link_if, links_below}
use Rattle.list_sched.proofs.Climbs.{delay_inside}

module _ (d : Table) (i : ℕ) where
  pub below_none : links_below d i 0 ≡ []
  unfolding links_below
  below_none = refl

  pub below_more : (m : ℕ) → links_below d i (m + 1) ≡ links_below d i m ++ link_if m (delay_of d i m)
  unfolding links_below
  below_more m = rw add-one refl

  -- up to m they give the table's delays
  below_delay : (latency : ℕ → ℕ) (m j : ℕ) → delay_to latency i (links_below d i m) j ≡ cond (nat_lt j m) (delay_of d i j) None
  unfolding links_below delay_to
  below_delay latency zero j = rw (le-ltb j 0 (omega arith)) refl
  below_delay latency (suc m) j = go (below_delay latency m j) (below_delay latency m m) (delay_of d i m) refl (cases_lt j m) (cases_eq m j)
    where
      past : cond (nat_lt m m) (delay_of d i m) None ≡ None
      past = rw (le-ltb m m (omega arith)) refl

      go : delay_to latency i (links_below d i m) j ≡ cond (nat_lt j m) (delay_of d i j) None → delay_to latency i (links_below d i m) m ≡ cond (nat_lt m m) (delay_of d i m) None → (o : Option ℤ) → delay_of d i m ≡ o → (j < m) ⊎ (m ≤ j) → (m ≡ j) ⊎ (m ≡ j → ⊥) →
          delay_to latency i (links_below d i m ++ link_if m o) j ≡ cond (nat_lt j (suc m)) (delay_of d i j) None
      go r q None e (inl lt) s = rw (append-nil (links_below d i m), lt-ltb j (suc m) (omega arith)) (r ∙ rw (lt-ltb j m lt) refl)
      go r q None e (inr ge) (inl s) = rw (append-nil (links_below d i m), lt-ltb j (suc m) (let f = s in omega arith)) (r ∙ rw (le-ltb j m ge) (sym e ∙ ap (delay_of d i) s))
      go r q None e (inr ge) (inr f) = rw (append-nil (links_below d i m), le-ltb j (suc m) (omega arith)) (r ∙ rw (le-ltb j m ge) refl)
      go r q (Some x) e (inl lt) s = push_other latency i (links_below d i m) _ j (λ f. omega arith) ∙ r ∙ rw (lt-ltb j m lt, lt-ltb j (suc m) (omega arith)) refl
      go r q (Some x) e (inr ge) (inl s) =
          subst (λ k. delay_to latency i (links_below d i m ++ link_if m (Some x)) k ≡ cond (nat_lt k (suc m)) (delay_of d i k) None) s
          (push_first latency i (links_below d i m) _ (q ∙ past) ∙ sym e ∙ rw (lt-ltb m (suc m) (omega arith)) refl)
      go r q (Some x) e (inr ge) (inr f) = push_other latency i (links_below d i m) _ j f ∙ r ∙ rw (le-ltb j m ge, le-ltb j (suc m) (omega arith)) refl

  pub below_all : (latency : ℕ → ℕ) (j : ℕ) → delay_to latency i (links_below d i d.count) j ≡ delay_of d i j
  below_all latency j = below_delay latency d.count j ∙ go (cases_lt j d.count) (delay_of d i j) refl
    where
      go : (j < d.count) ⊎ (d.count ≤ j) → (o : Option ℤ) → delay_of d i j ≡ o → cond (nat_lt j d.count) (delay_of d i j) None ≡ delay_of d i j
      go (inl lt) o e = rw (lt-ltb j d.count lt) refl
      go (inr ge) None e = rw (le-ltb j d.count ge) (sym e)
      go (inr ge) (Some x) e = absurd (let q = (delay_inside d i j x e).1 in omega arith)

  pub below_lead : (m : ℕ) → m ≤ d.count → LeadInside d.count (links_below d i m)
  unfolding links_below
  below_lead zero le = All-nil (λ (l : Link). l.to < d.count)
  below_lead (suc m) le = All-append (λ (l : Link). l.to < d.count) (links_below d i m) (link_if m (delay_of d i m)) (below_lead m (omega arith)) (one (delay_of d i m))
    where
      one : (o : Option ℤ) → LeadInside d.count (link_if m o)
      one None = All-nil (λ (l : Link). l.to < d.count)
      one (Some x) = All-cons (λ (l : Link). l.to < d.count) _ [] (omega arith) (All-nil (λ (l : Link). l.to < d.count))

  pub below_few : (m : ℕ) → length (links_below d i m) ≤ m
  unfolding links_below
  below_few zero = omega arith
  below_few (suc m) = let r = below_few m in let s = one (delay_of d i m) in omega (arith, length-append (links_below d i m) (link_if m (delay_of d i m)))
    where
      one : (o : Option ℤ) → length (link_if m o) ≤ 1
      one None = omega arith
      one (Some x) = omega arith
