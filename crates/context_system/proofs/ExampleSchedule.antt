-- The list schedule of the example's block as t2.
use Rattle.std.proofs.Common.{◌≡◌, ◌≢◌, ℕ, zero, suc, ◌+◌, ◌<◌, ◌≤◌, Bool, true, false, cond, ◌&&◌, List, [], ◌∷◌, refl, sym, ap, subst, ◌∙◌, ◌⊎◌, inl, inr, Option, Some, None, ℤ, pos, ◌≤ℤ◌, arith}
use Rattle.std.specs.Prelude.{nat_lt, is_some}
use Rattle.std.proofs.lemmas.Bool.{ltb-true}
use Rattle.std.proofs.lemmas.Int.{ints}
use Rattle.machine_desc.specs.Description.{units_of}
use Rattle.machine_desc.specs.Issue.{busy_on}
use Rattle.machine_desc.specs.BuiltIn.{t2}
use Rattle.list_encoding.specs.Reading.{guarded_in, mnemonic_at}
use Rattle.serial_order.specs.Lists.{Among, Earlier}
use Rattle.latency_deps.specs.Delays.{delay_in}
use Rattle.image_check.specs.Blocks.{block_of}
use Rattle.list_sched.specs.Extremes.{IsLeast}
use Rattle.list_sched.specs.Schedule.{Problem, Schedule, IsBefore, IsBranch, Climb, Itself, From, AreHeights, IsReady, IsNext, CanIssue, IsSchedule, landing, latency, busy}
use Rattle.page_resched.specs.Block.{problem, IsListing}
use Rattle.context_system.specs.Example.{image}

abbrev pub given : Problem
given = problem t2 (block_of image 0)

-- the `addi` and the `halt` issue in cycle 0, the `outb` in cycle 1
abbrev pub cycle : ℕ → ℕ
cycle zero = 0
cycle (suc zero) = 1
cycle (suc (suc k)) = 0

abbrev pub planned : Schedule
planned = record { order = 0 ∷ (1 ∷ (2 ∷ [])); cycle = cycle; end = 2 }

abbrev height : ℕ → ℕ
height zero = 2
height (suc zero) = 1
height (suc (suc k)) = 2

-- ---- the one delay

small : (i j : ℕ) (d : ℤ) → i < 3 → j < 3 → delay_in t2 (block_of image 0) i j ≡ Some d → (i ≡ 0) × (j ≡ 1) × (d ≡ pos 1)
unfolding guarded_in mnemonic_at
small zero zero d a b h = absurd (let none : ⊥ = cc in none)
small zero (suc zero) d a b h = (refl, refl, cc)
small zero (suc (suc zero)) d a b h = absurd (let none : ⊥ = cc in none)
small (suc zero) zero d a b h = absurd (let none : ⊥ = cc in none)
small (suc zero) (suc zero) d a b h = absurd (let none : ⊥ = cc in none)
small (suc zero) (suc (suc zero)) d a b h = absurd (let none : ⊥ = cc in none)
small (suc (suc zero)) zero d a b h = absurd (let none : ⊥ = cc in none)
small (suc (suc zero)) (suc zero) d a b h = absurd (let none : ⊥ = cc in none)
small (suc (suc zero)) (suc (suc zero)) d a b h = absurd (let none : ⊥ = cc in none)
small (suc (suc (suc i))) j d a b h = absurd (omega arith)
small i (suc (suc (suc j))) d a b h = absurd (omega arith)

delays : (i j : ℕ) (d : ℤ) → given.delay i j ≡ Some d → (i ≡ 0) × (j ≡ 1) × (d ≡ pos 1)
delays i j d h = go (nat_lt i 3) (nat_lt j 3) refl refl h
  where
    go : (a b : Bool) → nat_lt i 3 ≡ a → nat_lt j 3 ≡ b → cond (a && b) (delay_in t2 (block_of image 0) i j) None ≡ Some d → (i ≡ 0) × (j ≡ 1) × (d ≡ pos 1)
    go true true e f h = small i j d (ltb-true i 3 e) (ltb-true j 3 f) h
    go true false e f h = absurd (let none : ⊥ = cc in none)
    go false b e f h = absurd (let none : ⊥ = cc in none)

delayed : given.delay 0 1 ≡ Some (pos 1)
unfolding guarded_in mnemonic_at
delayed = refl

before : (i j : ℕ) → IsBefore given i j → (i ≡ 0) × (j ≡ 1)
before i j h = go (given.delay i j) refl h
  where
    go : (o : Option ℤ) → given.delay i j ≡ o → is_some o ≡ true → (i ≡ 0) × (j ≡ 1)
    go None e k = absurd (let none : ⊥ = cc in none)
    go (Some d) e k = let r = delays i j d e in (r.0, r.1)

-- ---- kinds

first_unit : ¬ (IsBranch given 0)
unfolding guarded_in mnemonic_at
first_unit h = let none : ⊥ = cc in none

second_unit : ¬ (IsBranch given 1)
unfolding guarded_in mnemonic_at
second_unit h = let none : ⊥ = cc in none

third_unit : IsBranch given 2
unfolding guarded_in mnemonic_at
third_unit = refl

latencies : (latency given 0 ≡ 1) × (latency given 1 ≡ 1) × (latency given 2 ≡ 2)
unfolding guarded_in mnemonic_at
latencies = (refl, refl, refl)

-- ---- heights

heights : AreHeights given height
unfolding guarded_in mnemonic_at
heights zero below = record { holds = From 1 (pos 1) delayed; greatest = most }
  where
    most : (m : ℤ) → Climb given height 0 m → m ≤ℤ pos 2
    most m Itself = omega (arith, ints)
    most m (From j d e) =
        let r = delays 0 j d e in
        let low : height j ≡ 1 = ap height r.1 in
        let one : d ≡ pos 1 = r.2 in
        omega (arith, ints)
heights (suc zero) below = record { holds = Itself; greatest = most }
  where
    most : (m : ℤ) → Climb given height 1 m → m ≤ℤ pos 1
    most m Itself = omega (arith, ints)
    most m (From j d e) = let none : ◌≡◌ {A = ℕ} 1 0 = (delays 1 j d e).0 in absurd (omega arith)
heights (suc (suc zero)) below = record { holds = Itself; greatest = most }
  where
    most : (m : ℤ) → Climb given height 2 m → m ≤ℤ pos 2
    most m Itself = omega (arith, ints)
    most m (From j d e) = let none : ◌≡◌ {A = ℕ} 2 0 = (delays 2 j d e).0 in absurd (omega arith)
heights (suc (suc (suc i))) below = absurd (omega arith)

-- ---- the order of placing

next_0 : IsNext given height [] 0
next_0 = record {
  ready = record {
    inside = omega arith;
    unplaced = λ b. b;
    after_all = λ k h. let none : 0 ≡ 1 = (before k 0 h).1 in absurd (omega arith);
    branch_last = λ h. absurd (first_unit h);
  };
  first = go;
}
  where
    go : (k : ℕ) → IsReady given [] k → (height k < height 0) ⊎ ((height k ≡ height 0) × (0 ≤ k))
    go zero r = inr (refl, omega arith)
    go (suc zero) r = inl (omega arith)
    go (suc (suc k)) r = inr (refl, omega arith)

next_1 : IsNext given height (0 ∷ []) 1
next_1 = record {
  ready = record {
    inside = omega arith;
    unplaced = apart;
    after_all = λ k h. inl (sym (before k 1 h).0);
    branch_last = λ h. absurd (second_unit h);
  };
  first = go;
}
  where
    apart : ¬ (Among 1 (0 ∷ []))
    apart (inl e) = absurd (omega arith)
    apart (inr b) = b

    go : (k : ℕ) → IsReady given (0 ∷ []) k → (height k < height 1) ⊎ ((height k ≡ height 1) × (1 ≤ k))
    go zero r = absurd (r.unplaced (inl refl))
    go (suc zero) r = inr (refl, omega arith)
    go (suc (suc zero)) r = absurd (apart (r.branch_last third_unit 1 (omega arith) (λ e. absurd (omega arith))))
    go (suc (suc (suc k))) r = let inside = r.inside in absurd (omega arith)

next_2 : IsNext given height (1 ∷ (0 ∷ [])) 2
next_2 = record {
  ready = record {
    inside = omega arith;
    unplaced = apart;
    after_all = λ k h. let none : 2 ≡ 1 = (before k 2 h).1 in absurd (omega arith);
    branch_last = λ h. others;
  };
  first = go;
}
  where
    apart : ¬ (Among 2 (1 ∷ (0 ∷ [])))
    apart (inl e) = absurd (omega arith)
    apart (inr (inl e)) = absurd (omega arith)
    apart (inr (inr b)) = b

    others : (k : ℕ) → k < given.count → k ≢ 2 → Among k (1 ∷ (0 ∷ []))
    others zero below ne = inr (inl refl)
    others (suc zero) below ne = inl refl
    others (suc (suc zero)) below ne = absurd (ne refl)
    others (suc (suc (suc k))) below ne = absurd (omega arith)

    go : (k : ℕ) → IsReady given (1 ∷ (0 ∷ [])) k → (height k < height 2) ⊎ ((height k ≡ height 2) × (2 ≤ k))
    go zero r = absurd (r.unplaced (inr (inl refl)))
    go (suc zero) r = absurd (r.unplaced (inl refl))
    go (suc (suc k)) r = inr (refl, omega arith)

-- ---- the cycles

issues_0 : IsLeast (CanIssue given cycle [] 0) 0
unfolding guarded_in mnemonic_at
issues_0 = record {
  holds = record {
    room = record { width = omega arith; units = λ t low high. omega arith };
    delays = λ k d h. let none : 0 ≡ 1 = (delays k 0 d h).1 in absurd (omega arith);
    lands_last = λ h. absurd (first_unit h);
  };
  least = λ m h. omega arith;
}

free_1 : (t : ℕ) → 1 ≤ t → t < 1 + busy given 1 → busy_on given.unit (given.unit 1) cycle (busy given) (0 ∷ []) t < units_of t2 (given.unit 1)
unfolding guarded_in mnemonic_at
free_1 t low high =
    let now : 1 ≡ t = omega arith in
    subst (λ (t : ℕ). busy_on given.unit (given.unit 1) cycle (busy given) (0 ∷ []) t < units_of t2 (given.unit 1)) now (omega arith)

free_2 : (t : ℕ) → 0 ≤ t → t < 0 + busy given 2 → busy_on given.unit (given.unit 2) cycle (busy given) (1 ∷ (0 ∷ [])) t < units_of t2 (given.unit 2)
unfolding guarded_in mnemonic_at
free_2 t low high =
    let now : 0 ≡ t = omega arith in
    subst (λ (t : ℕ). busy_on given.unit (given.unit 2) cycle (busy given) (1 ∷ (0 ∷ [])) t < units_of t2 (given.unit 2)) now (omega arith)

issues_1 : IsLeast (CanIssue given cycle (0 ∷ []) 1) 1
unfolding guarded_in mnemonic_at
issues_1 = record {
  holds = record {
    room = record { width = omega arith; units = free_1 };
    delays = λ k d h.
        let r = delays k 1 d h in
        let at : cycle k ≡ 0 = ap cycle r.0 in
        let one : d ≡ pos 1 = r.2 in
        omega (arith, ints);
    lands_last = λ h. absurd (second_unit h);
  };
  least = λ m h. let late = h.delays 0 (pos 1) delayed in omega (arith, ints);
}

issues_2 : IsLeast (CanIssue given cycle (1 ∷ (0 ∷ [])) 2) 0
unfolding guarded_in mnemonic_at
issues_2 = record {
  holds = record {
    room = record { width = omega arith; units = free_2 };
    delays = λ k d h. let none : 2 ≡ 1 = (delays k 2 d h).1 in absurd (omega arith);
    lands_last = λ h. last;
  };
  least = λ m h. omega arith;
}
  where
    last : (k : ℕ) → Among k (1 ∷ (0 ∷ [])) → cycle k + latency given k ≤ 0 + latency given 2
    last k (inl e) = subst (λ (k : ℕ). cycle k + latency given k ≤ 0 + latency given 2) e (let l = latencies in omega arith)
    last k (inr (inl e)) = subst (λ (k : ℕ). cycle k + latency given k ≤ 0 + latency given 2) e (let l = latencies in omega arith)
    last k (inr (inr b)) = absurd b

pub scheduled : IsSchedule given planned
scheduled = record {
  height = height;
  heights = heights;
  complete = complete;
  placed = (next_0, issues_0, (next_1, issues_1, (next_2, issues_2, tt)));
  ends = ends;
  reached = (1, omega arith, let l = latencies in omega arith);
}
  where
    complete : (i : ℕ) → i < given.count → Among i planned.order
    complete zero below = inl refl
    complete (suc zero) below = inr (inl refl)
    complete (suc (suc zero)) below = inr (inr (inl refl))
    complete (suc (suc (suc i))) below = absurd (omega arith)

    ends : (i : ℕ) → i < given.count → landing given planned i ≤ 2
    ends zero below = let l = latencies in omega arith
    ends (suc zero) below = let l = latencies in omega arith
    ends (suc (suc zero)) below = let l = latencies in omega arith
    ends (suc (suc (suc i))) below = absurd (omega arith)

-- ---- the operations in order of cycle

abbrev pub listed : List ℕ
listed = 0 ∷ (2 ∷ (1 ∷ []))

pub listing : IsListing planned listed
listing = record {
  complete = record { each_once = (apart_0, (apart_2, ((λ b. b), tt))); same = λ k. (there k, back k) };
  sorted = sorted;
}
  where
    apart_0 : ¬ (Among 0 (2 ∷ (1 ∷ [])))
    apart_0 (inl e) = absurd (omega arith)
    apart_0 (inr (inl e)) = absurd (omega arith)
    apart_0 (inr (inr b)) = b

    apart_2 : ¬ (Among 2 (1 ∷ []))
    apart_2 (inl e) = absurd (omega arith)
    apart_2 (inr b) = b

    there : (k : ℕ) → Among k listed → Among k planned.order
    there k (inl e) = inl e
    there k (inr (inl e)) = inr (inr (inl e))
    there k (inr (inr (inl e))) = inr (inl e)
    there k (inr (inr (inr b))) = absurd b

    back : (k : ℕ) → Among k planned.order → Among k listed
    back k (inl e) = inl e
    back k (inr (inl e)) = inr (inr (inl e))
    back k (inr (inr (inl e))) = inr (inl e)
    back k (inr (inr (inr b))) = absurd b

    sorted : (i j : ℕ) → Earlier listed i j → (cycle i < cycle j) ⊎ ((cycle i ≡ cycle j) × Earlier planned.order i j)
    sorted i j (inl (e, inl f)) = inr (ap cycle (sym e) ∙ ap cycle f, inl (e, inr (inl f)))
    sorted i j (inl (e, inr (inl f))) = inl (let a : cycle i ≡ 0 = ap cycle (sym e) in let b : cycle j ≡ 1 = ap cycle (sym f) in omega arith)
    sorted i j (inl (e, inr (inr b))) = absurd b
    sorted i j (inr (inl (e, inl f))) = inl (let a : cycle i ≡ 0 = ap cycle (sym e) in let b : cycle j ≡ 1 = ap cycle (sym f) in omega arith)
    sorted i j (inr (inl (e, inr b))) = absurd b
    sorted i j (inr (inr (inl (e, b)))) = absurd b
    sorted i j (inr (inr (inr b))) = absurd b
