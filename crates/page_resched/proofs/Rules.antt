-- What facts on the times of words say of the rules.
use Rattle.std.proofs.Common.{◌≡◌, ◌≢◌, ℕ, suc, ◌<◌, Bool, true, false, not, ◌&&◌, ◌||◌, sym, ap, subst, ◌∙◌, arith, inl, inr}
use Rattle.std.specs.Prelude.{nat_eq, nat_lt}
use Rattle.std.specs.List.{list_any, range_with_len}
use Rattle.std.proofs.lemmas.Bool.{cases_Bool, and_left, and_right, and_parts, false_from_ne_true, both_ways, le-ltb, not-true, eqb-true, eq-eqb, ltb-true}
use Rattle.tnk_base.proofs.Searches.{any_none}
use Rattle.operation.specs.declared.Guarded.{Guarded}
use Rattle.operation.specs.declared.Op.{Op}
use Rattle.operation.specs.declared.Place.{Place}
use Rattle.operation.specs.declared.Place.TheVariants.{General, Predicate, Target, Memory}
use Rattle.operation.specs.Places.{reads, writes, destinations, are_wired_together}
use Rattle.operation.proofs.PlaceLaws.{read_varies, write_varies, writes_at}
use Rattle.machine_desc.specs.Description.{Description, units_of}
use Rattle.serial_order.specs.Lists.{Among}
use Rattle.serial_order.proofs.Members.{among_range, range_among}
use Rattle.two_timings.specs.Timing.{Timing, lands, BothWriteAt}
use Rattle.machine_desc.specs.Issue.{issuing, busy_on, keeps_busy}
use Rattle.latency_deps.specs.Breaks
use Rattle.dependences.specs.Before.{is_memory, both_write, both_write_at, is_at_odds}
use Rattle.latency_deps.specs.Breaks.{up_to, below, unit_of, busy_time, is_branch_at, shadows, lands_with}
use Rattle.dependences.proofs.Places.{some_of}
use Rattle.latency_deps.proofs.Numbers.{once_range}
use Rattle.list_sched.proofs.Counts.{count_within}
use Rattle.page_resched.proofs.Settings.{FitsMachine, KeepsTimes}

-- ---- places

is_other : (x : Place) → not (is_memory x) ≡ true → x ≢ Memory
is_other (General n) h e = cc
is_other (Predicate n) h e = cc
is_other (Target n) h e = cc
is_other Memory h e = cc

-- both write some place
record BothWrite (i j : Op) : Type 0 where
  place : Place
  there : BothWriteAt i j place

both_there : (i j : Op) → both_write i j ≡ true → BothWrite i j
both_there i j h =
    let r = some_of (both_write_at i j) (destinations j) h in
    let x = r.place in
    let p = and_parts (not (is_memory x)) (writes i x && not (are_wired_together i j x)) r.passes in
    let q = and_parts (writes i x) (not (are_wired_together i j x)) p.1 in
    record {
      place = x;
      there = record {
        place = is_other x p.0;
        first = q.0;
        second = writes_at j x (write_varies i x q.0) r.among;
        apart = not-true (are_wired_together i j x) q.1;
      };
    }

-- ---- the rules

module _ (ops : ℕ → Guarded) (g : Description) (t : Timing) (n end : ℕ) (all : t.listed ≡ range_with_len 0 n) where
  there : (k : ℕ) → k < n → Among k t.listed
  there k lt = subst (Among k) (sym all) (among_range n k lt)

  up_to_there : (k : ℕ) → k < n → (i : ℕ) → Among i (up_to k) → Among i t.listed
  up_to_there k lt i a = let l = range_among (suc k) i a in there i (omega arith)

  module _ (fits : FitsMachine ops g t) (k : ℕ) (lt : k < n) where
    pub keeps_width : Breaks.breaks_width g t k ≡ false
    keeps_width =
        let c = count_within (λ i. nat_eq (t.at i) (t.at k)) (up_to k) t.listed (once_range (suc k)) (up_to_there k lt) in
        let w = fits.width (t.at k) in
        le-ltb g.width (issuing t.at (up_to k) (t.at k)) (omega arith)

    pub keeps_units : Breaks.breaks_units ops g t k ≡ false
    keeps_units =
        let c = count_within (keeps_busy (unit_of ops) (unit_of ops k) t.at (busy_time ops g) (t.at k)) (up_to k) t.listed (once_range (suc k)) (up_to_there k lt) in
        let w = fits.units (t.at k) (unit_of ops k) in
        le-ltb (units_of g (unit_of ops k)) (busy_on (unit_of ops) (unit_of ops k) t.at (busy_time ops g) (up_to k) (t.at k)) (omega arith)

  module _ (keeps : KeepsTimes ops t end) (k : ℕ) (lt : k < n) where
    pub keeps_second : Breaks.breaks_second_branch ops k ≡ false
    keeps_second = elim (cases_Bool (is_branch_at ops k)) [
      | inr f ↦ and_left (is_branch_at ops k) (list_any (is_branch_at ops) (below k)) f
      | inl u ↦ and_right (is_branch_at ops k) (list_any (is_branch_at ops) (below k))
          (any_none (is_branch_at ops) k (λ j l. false_from_ne_true (is_branch_at ops j) (λ v.
          let e = keeps.one_branch j k (there j (omega arith)) (there k lt) v u in omega arith)))
    ]

    pub keeps_drain : Breaks.breaks_drain ops t end k ≡ false
    keeps_drain = and_right (not (is_branch_at ops k)) (nat_lt end (lands ops t k)) (le-ltb end (lands ops t k) (keeps.drain k (there k lt)))

    pub keeps_branch_end : Breaks.breaks_branch_end ops t end k ≡ false
    keeps_branch_end = elim (cases_Bool (is_branch_at ops k)) [
      | inr f ↦ and_left (is_branch_at ops k) (not (nat_eq (lands ops t k) end)) f
      | inl u ↦ and_right (is_branch_at ops k) (not (nat_eq (lands ops t k) end)) (ap not (eq-eqb (lands ops t k) end (keeps.branch_end k (there k lt) u)))
    ]

    -- the operation isn't in the shadow of another
    no_shadow : is_branch_at ops k ≡ false → (b : ℕ) → b < n → shadows ops t k b ≡ false
    no_shadow f b l = false_from_ne_true (shadows ops t k b) (λ h.
        let any = list_any (reads (ops b)) (destinations (ops k).op) in
        let late = nat_lt (t.at b) (lands ops t k) in
        let p = and_parts (is_branch_at ops b) (any && late) h in
        let q = and_parts any late p.1 in
        let r = some_of (reads (ops b)) (destinations (ops k).op) q.0 in
        let x = r.place in
        let ne : k ≢ b = λ e. both_ways (is_branch_at ops k) f (ap (is_branch_at ops) e ∙ p.0) in
        let w = writes_at (ops k).op x (read_varies (ops b) x r.passes) r.among in
        let s = keeps.branch_shadow k b x (there k lt) (there b l) ne p.0 w r.passes in
        let m = ltb-true (t.at b) (lands ops t k) q.1 in
        omega arith)

    pub keeps_shadow : Breaks.breaks_branch_shadow ops t n k ≡ false
    keeps_shadow = elim (cases_Bool (is_branch_at ops k)) [
      | inl u ↦ and_left (not (is_branch_at ops k)) (list_any (shadows ops t k) (below n)) (ap not u)
      | inr f ↦ and_right (not (is_branch_at ops k)) (list_any (shadows ops t k) (below n)) (any_none (shadows ops t k) n (no_shadow f))
    ]

    alone : (i : ℕ) → i < k → lands_with ops t k i ≡ false
    alone i l = false_from_ne_true (lands_with ops t k i) (λ h.
        let p = and_parts (nat_eq (lands ops t i) (lands ops t k)) (both_write (ops i).op (ops k).op) h in
        let b = both_there (ops i).op (ops k).op p.1 in
        keeps.landing i k b.place (there i (omega arith)) (there k lt) (λ e. omega arith) b.there (eqb-true (lands ops t i) (lands ops t k) p.0))

    pub keeps_landing : Breaks.breaks_landing ops t k ≡ false
    keeps_landing =
        ap (λ (b : Bool). b || is_at_odds (ops k).op) (any_none (lands_with ops t k) k alone) ∙ keeps.dests k (there k lt)
