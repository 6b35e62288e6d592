-- Slots count the operations that took them.
use Rattle.std.proofs.Common.{◌≡◌, ℕ, ◌+◌, ◌*◌, ◌<◌, ◌≤◌, cond, List, [], ◌∷◌, length, inl, inr, sym, ap, ◌∙◌, arith, get_or-set_other, get_or-set_same}
use Rattle.std.specs.Prelude.{slice_index, slice_set, nat_eq}
use Rattle.std.specs.List.{count_by}
use Rattle.std.proofs.lemmas.Bool.{cases_eq, ne_eqb, eq-eqb}
use Rattle.std.proofs.lemmas.List.{length-set, length-replicate, get_or-replicate}
use Rattle.operation.specs.declared.UnitKind.{UnitKind}
use Rattle.operation.specs.Places.{unit_number}
use Rattle.machine_desc.specs.Ranges.{unit_below}
use Rattle.list_sched.specs.Slots.{Slots, cycles, Taken, busy_in, empty, IsTaken, AreTaken, is_busy_in}
use Rattle.list_sched.specs.Laws.{SlotsCount}
use Rattle.list_sched.proofs.Counts.{count_cons}

-- counts of both kinds, by cycle
pub record AreCounts (taken : List Taken) (old new : Slots) (n : ℕ) : Type 0 where
  pub issued : (c : ℕ) → c < n → slice_index new.issued c ≡ slice_index old.issued c + count_by (λ t. nat_eq t.cycle c) taken
  pub busy : (c : ℕ) (u : UnitKind) → c < n → busy_in new c u ≡ busy_in old c u + count_by (is_busy_in c u) taken

one_more : (old mid : Slots) (t : Taken) → IsTaken old mid t.unit t.busy t.cycle → t.cycle + t.busy ≤ cycles old → 1 ≤ t.busy → (c : ℕ) →
    slice_index mid.issued c ≡ slice_index old.issued c + cond (nat_eq t.cycle c) 1 0
one_more old mid t taken inside some c = ap (λ l. slice_index l c) taken.issued ∙ elim (cases_eq c t.cycle) [
  | inl e ↦
      (let there : t.cycle < length old.issued = omega arith in
      let one : cond {A = ℕ} (nat_eq t.cycle c) 1 0 ≡ 1 = ap (λ b. cond {A = ℕ} b 1 0) (eq-eqb t.cycle c (sym e)) in
      let w : slice_index (slice_set old.issued t.cycle (slice_index old.issued t.cycle + 1)) t.cycle ≡ slice_index old.issued t.cycle + 1 = rw get_or-set_same in
      let at : slice_index (slice_set old.issued t.cycle (slice_index old.issued t.cycle + 1)) c ≡ slice_index (slice_set old.issued t.cycle (slice_index old.issued t.cycle + 1)) t.cycle = ap (slice_index (slice_set old.issued t.cycle (slice_index old.issued t.cycle + 1))) e in
      let here : slice_index old.issued c ≡ slice_index old.issued t.cycle = ap (slice_index old.issued) e in
      omega arith)
  | inr ne ↦
      (let none : cond {A = ℕ} (nat_eq t.cycle c) 1 0 ≡ 0 = ap (λ b. cond {A = ℕ} b 1 0) (ne_eqb t.cycle c (λ e. ne (sym e))) in
      let w : slice_index (slice_set old.issued t.cycle (slice_index old.issued t.cycle + 1)) c ≡ slice_index old.issued c = rw get_or-set_other in
      omega arith)
]

counts : (taken : List Taken) (old new : Slots) (n : ℕ) → cycles old ≡ n → length old.busy ≡ n * 5 → AreTaken taken old new → AreCounts taken old new n
counts [] old new n size each e = record {
  issued = λ c below. ap (λ (s : Slots). slice_index s.issued c) (sym e) ∙ (omega arith);
  busy = λ c u below. ap (λ (s : Slots). busy_in s c u) (sym e) ∙ (omega arith);
}
counts (t ∷ ts) old new n size each h =
    let mid = h.2 in
    let taken = h.3 in
    let rest = counts ts mid new n (ap length taken.issued ∙ (length-set old.issued t.cycle (slice_index old.issued t.cycle + 1) ∙ size)) (taken.size ∙ each) h.4 in
    record {
      issued = λ c below.
          let first = one_more old mid t taken h.0 h.1 c in
          let later = rest.issued c below in
          let sum = count_cons (λ (t : Taken). nat_eq t.cycle c) t ts in
          omega arith;
      busy = λ c u below.
          let first = taken.busier c u (let b = unit_below u in omega arith) in
          let later = rest.busy c u below in
          let sum = count_cons (is_busy_in c u) t ts in
          omega arith;
    }

pub slots_count : SlotsCount
slots_count n taken s h =
    let all = counts taken (empty n) s n (length-replicate n 0) (length-replicate (n * 5) 0) h in
    record {
      issued = λ c below. let none : slice_index (empty n).issued c ≡ 0 = get_or-replicate n c 0 0 below in let sum = all.issued c below in omega arith;
      busy = λ c u below.
          let none : busy_in (empty n) c u ≡ 0 = get_or-replicate (n * 5) (c * 5 + unit_number u) 0 0 (let b = unit_below u in omega arith) in
          let sum = all.busy c u below in
          omega arith;
    }
