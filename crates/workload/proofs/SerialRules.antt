-- A block whose operations issue one by one breaks no rule.
use Rattle.std.proofs.Common.{◌≡◌, ℕ, zero, suc, ◌+◌, ◌-◌, ◌<◌, ◌≤◌, Bool, true, false, not, ◌&&◌, ◌||◌, List, length, get_or, refl, sym, ap, ◌∙◌, arith, ◌⊎◌, inl, inr, None}
use Rattle.std.specs.Prelude.{nat_eq, nat_lt, nat_le}
use Rattle.std.specs.List.{list_any, range_with_len}
use Rattle.std.proofs.lemmas.Bool.{cases_Bool, cases_lt, cases_eq, and_left, and_right, and_parts, false_from_ne_true, both_ways, le-ltb, lt-leb, eq-eqb, ne_eqb, ltb-true}
use Rattle.std.proofs.lemmas.List.FromFn.{length-range_with_len}
use Rattle.std.proofs.lemmas.List.Sums.{count_by-le-length}
use Rattle.tnk_base.proofs.Searches.{any_none}
use Rattle.operation.specs.declared.Guarded.{Guarded}
use Rattle.operation.specs.declared.UnitKind.{UnitKind}
use Rattle.operation.specs.declared.UnitKind.TheVariants as unit_kinds
use Rattle.operation.specs.declared.LatKind.{LatKind}
use Rattle.operation.specs.declared.LatKind.TheVariants as lat
use Rattle.operation.specs.Places.{unit_kind, unit_number, latency_kind}
use Rattle.machine_desc.specs.Description.{units_of, busy_of}
use Rattle.machine_desc.specs.BuiltIn.{t1}
use Rattle.machine_desc.specs.Issue.{keeps_busy, busy_on}
use Rattle.block_table.specs.Rows.{Rows}
use Rattle.serial_order.specs.Lists.{Among}
use Rattle.serial_order.specs.SerialOrder.{IsStuckSet, is_stuck}
use Rattle.serial_order.proofs.Stuck.{not_stuck}
use Rattle.list_encoding.specs.Word.{is_head, unit_in}
use Rattle.list_encoding.proofs.GuardedIn.{readable_decided}
use Rattle.dependences.specs.Before.{feeds, both_write, keep_list_order, is_at_odds}
use Rattle.two_timings.specs.Timing.{Timing, lands}
use Rattle.latency_deps.specs.declared.rules.BlockRule.{BlockRule}
use Rattle.latency_deps.specs.declared.rules.BlockRule.TheVariants as rule
use Rattle.latency_deps.specs.Breaks
use Rattle.latency_deps.specs.Breaks.{up_to, below, unit_of, busy_time, is_branch_at, shadows, lands_with, before_by, prepares_elsewhere}
use Rattle.latency_deps.specs.Rules.{end_of, first_broken}
use Rattle.latency_deps.specs.Laws.{KeepsRule}
use Rattle.latency_deps.proofs.Told.{none_broken}
use Rattle.latency_deps.proofs.Counts.{own_rise, width_law, window_law}
use Rattle.workload.proofs.Readings.{serial}
use Rattle.workload.proofs.SerialTimes as times
use Rattle.workload.proofs.SerialTimes.{AreSerial}

-- each unit of t1 is free again in the next cycle, and there is one of each kind
busy_one : (o : Guarded) → busy_of t1 (latency_kind o.op) ≡ 1
busy_one o = go (latency_kind o.op)
  where
    go : (k : LatKind) → busy_of t1 k ≡ 1
    go lat.Alu = refl
    go lat.Mul = refl
    go lat.Div = refl
    go lat.Load = refl
    go lat.Store = refl
    go lat.Io = refl
    go lat.Cmp = refl
    go lat.Pbr = refl
    go lat.Branch = refl

one_unit : (u : UnitKind) → units_of t1 u ≡ 1
one_unit unit_kinds.I = refl
one_unit unit_kinds.M = refl
one_unit unit_kinds.L = refl
one_unit unit_kinds.P = refl
one_unit unit_kinds.B = refl

none_of : {a b c d : Bool} → a ≡ false → b ≡ false → c ≡ false → d ≡ false → (a || (b || (c || d))) ≡ false
none_of p q r t = cc

module _ (words : List ℕ) (s : AreSerial words) where
  abbrev n : ℕ
  n = length words

  abbrev ops : ℕ → Guarded
  ops = times.ops words s

  abbrev own : Timing
  own = times.times words s

  late : (k : ℕ) → own.at k < lands ops own k
  late k = times.lands_late words s k

  turn : (i j : ℕ) → i < j → j < n → lands ops own i ≤ own.at j
  turn i j lt there = times.in_turn words s i j lt there

  -- only the last one is a branch
  last_branch : (k : ℕ) → k < n → is_branch_at ops k ≡ true → suc k ≡ n
  last_branch k lt h = elim (cases_lt (suc k) n) [
    | inl more ↦ absurd (both_ways (is_branch_at ops k) (s.stays k more) h)
    | inr less ↦ omega arith
  ]

  opcode : (k : ℕ) → k < n → Breaks.breaks_opcode words k ≡ false
  opcode k lt = ap not ((readable_decided (get_or words k 0)).0 (serial (s.each k lt).guarded, (s.each k lt).read))

  unit : (k : ℕ) → k < n → Breaks.breaks_unit words ops k ≡ false
  unit k lt =
      ap not (eq-eqb (unit_in (get_or words k 0)) (unit_number (unit_of ops k))
      ((s.each k lt).read.unit ∙ ap (λ (o : Guarded). unit_number (unit_kind o.op)) (sym (times.op_is words s k lt))))

  head : (k : ℕ) → k < n → Breaks.breaks_head words k ≡ false
  head k lt = and_left (not (is_head (get_or words k 0))) _ (ap not (s.each k lt).read.head)

  width : (k : ℕ) → k < n → Breaks.breaks_width t1 own k ≡ false
  width k lt = width_law own.at (own_rise t1 words) 2 k ∙ go (cases_lt k 2)
    where
      go : (k < 2) ⊎ (2 ≤ k) → (nat_le 2 k && nat_eq (own.at (k - 2)) (own.at k)) ≡ false
      go (inl few) = and_left (nat_le 2 k) (nat_eq (own.at (k - 2)) (own.at k)) (lt-leb 2 k few)
      go (inr more) =
          let t = turn (k - 2) k (omega arith) lt in
          let l = late (k - 2) in
          and_right (nat_le 2 k) (nat_eq (own.at (k - 2)) (own.at k)) (ne_eqb (own.at (k - 2)) (own.at k) (λ e. omega arith))

  -- of the operations up to k it alone is busy when it issues
  busy_alone : (k : ℕ) → k < n → busy_on (unit_of ops) (unit_of ops k) own.at (busy_time ops t1) (up_to k) (own.at k) ≤ 1
  busy_alone k lt =
      let u = unit_of ops k in
      let w = window_law (unit_of ops) u own.at (busy_time ops t1) 1 k k (omega arith)
      (λ i. let b = busy_one (ops i) in omega arith)
      (λ i l. let t = turn i k l lt in let a = late i in omega arith) in
      let p = keeps_busy (unit_of ops) u own.at (busy_time ops t1) (own.at k) in
      let one : k + 1 - k ≡ 1 = omega arith in
      let short = count_by-le-length p (range_with_len k (k + 1 - k)) in
      let long = length-range_with_len k (k + 1 - k) in
      omega arith

  units : (k : ℕ) → k < n → Breaks.breaks_units ops t1 own k ≡ false
  units k lt =
      let u = unit_of ops k in
      let b = busy_alone k lt in
      let e = one_unit u in
      le-ltb (units_of t1 u) (busy_on (unit_of ops) u own.at (busy_time ops t1) (up_to k) (own.at k)) (omega arith)

  second : (k : ℕ) → k < n → Breaks.breaks_second_branch ops k ≡ false
  second k lt =
      and_right (is_branch_at ops k) (list_any (is_branch_at ops) (below k))
      (any_none (is_branch_at ops) k (λ j l. s.stays j (omega arith)))

  target : (rows : Rows) (k : ℕ) → k < n → Breaks.breaks_target ops rows k ≡ false
  target rows k lt = ap (λ (o : Guarded). prepares_elsewhere rows o.op) (times.op_is words s k lt) ∙ (s.each k lt).target rows

  drain : (k : ℕ) → k < n → Breaks.breaks_drain ops own (end_of words) k ≡ false
  drain k lt =
      and_right (not (is_branch_at ops k)) (nat_lt (end_of words) (lands ops own k))
      (le-ltb (end_of words) (lands ops own k) (times.by_end words s k lt))

  branch_end : (k : ℕ) → k < n → Breaks.breaks_branch_end ops own (end_of words) k ≡ false
  branch_end k lt = elim (cases_Bool (is_branch_at ops k)) [
    | inr f ↦ and_left (is_branch_at ops k) (not (nat_eq (lands ops own k) (end_of words))) f
    | inl u ↦ and_right (is_branch_at ops k) (not (nat_eq (lands ops own k) (end_of words)))
        (ap not (eq-eqb (lands ops own k) (end_of words) (times.last_at_end words s k (last_branch k lt u))))
  ]

  no_shadow : (k : ℕ) → k < n → is_branch_at ops k ≡ false → (b : ℕ) → b < n → shadows ops own k b ≡ false
  no_shadow k lt f b l = false_from_ne_true (shadows ops own k b) (λ h.
      let p = and_parts (is_branch_at ops b) _ h in
      let q = and_parts _ (nat_lt (own.at b) (lands ops own k)) p.1 in
      let m = ltb-true (own.at b) (lands ops own k) q.1 in
      let e = last_branch b l p.0 in
      elim (cases_lt k b) [
        | inl before ↦ (let t = turn k b before l in omega arith)
        | inr after ↦ (let same : k ≡ b = omega arith in both_ways (is_branch_at ops k) f (ap (is_branch_at ops) same ∙ p.0))
      ])

  shadow : (k : ℕ) → k < n → Breaks.breaks_branch_shadow ops own n k ≡ false
  shadow k lt = elim (cases_Bool (is_branch_at ops k)) [
    | inl u ↦ and_left (not (is_branch_at ops k)) (list_any (shadows ops own k) (below n)) (ap not u)
    | inr f ↦ and_right (not (is_branch_at ops k)) (list_any (shadows ops own k) (below n))
        (any_none (shadows ops own k) n (no_shadow k lt f))
  ]

  alone : (k : ℕ) → k < n → (i : ℕ) → i < k → lands_with ops own k i ≡ false
  alone k lt i l =
      and_left (nat_eq (lands ops own i) (lands ops own k)) (both_write (ops i).op (ops k).op)
      (ne_eqb (lands ops own i) (lands ops own k) (λ e. let t = turn i k l lt in let a = late k in omega arith))

  landing : (k : ℕ) → k < n → Breaks.breaks_landing ops own k ≡ false
  landing k lt =
      ap (λ (b : Bool). b || is_at_odds (ops k).op) (any_none (lands_with ops own k) k (alone k lt))
      ∙ ap (λ (o : Guarded). is_at_odds o.op) (times.op_is words s k lt) ∙ (s.each k lt).odds

  -- an operation comes before later ones alone
  not_back : (i j : ℕ) → i < n → j < i → before_by ops own i j ≡ false
  not_back i j there lt =
      let a = ops i in
      let b = ops j in
      let t = turn j i lt there in
      let x = late i in
      let y = late j in
      let one : (feeds a b && nat_le (lands ops own i) (own.at j)) ≡ false =
      and_right (feeds a b) (nat_le (lands ops own i) (own.at j)) (lt-leb (lands ops own i) (own.at j) (omega arith)) in
      let two : (feeds b a && nat_lt (own.at i) (lands ops own j)) ≡ false =
      and_right (feeds b a) (nat_lt (own.at i) (lands ops own j)) (le-ltb (own.at i) (lands ops own j) t) in
      let three : (both_write a.op b.op && nat_lt (lands ops own i) (lands ops own j)) ≡ false =
      and_right (both_write a.op b.op) (nat_lt (lands ops own i) (lands ops own j))
      (le-ltb (lands ops own i) (lands ops own j) (omega arith)) in
      let four : (keep_list_order a.op b.op && nat_lt i j) ≡ false =
      and_right (keep_list_order a.op b.op) (nat_lt i j) (le-ltb i j (omega arith)) in
      and_right (not (nat_eq i j)) _ (none_of one two three four)

  forward : (i j : ℕ) → i < n → j < n → before_by ops own i j ≡ true → i < j
  forward i j a c h = elim (cases_lt j i) [
    | inl back ↦ absurd (both_ways (before_by ops own i j) (not_back i j a back) h)
    | inr on ↦ elim (cases_eq i j) [
      | inl e ↦ absurd (both_ways (before_by ops own i j) (and_left (not (nat_eq i j)) _ (ap not (eq-eqb i j e))) h)
      | inr ne ↦ omega arith
    ]
  ]

  -- so there are none of which each has one of them before it: the first of them would have an earlier one
  no_first : (set : List ℕ) → IsStuckSet (before_by ops own) n set → (bound k : ℕ) → k < bound → Among k set → ⊥
  no_first set q zero k lt a = omega arith
  no_first set q (suc bound) k lt a =
      let h = q.held k a in
      let f = forward h.0 k (q.inside h.0 h.1) (q.inside k a) h.2 in
      no_first set q bound h.0 (omega arith) h.1

  cycle : (k : ℕ) → k < n → is_stuck (before_by ops own) n k ≡ false
  cycle k lt = not_stuck (before_by ops own) n k (λ set q a. no_first set q (suc k) k (omega arith) a)

  each : (rows : Rows) (r : BlockRule) → KeepsRule t1 rows words r
  each rows rule.Opcode k lt = opcode k lt
  each rows rule.Unit k lt = unit k lt
  each rows rule.Head k lt = head k lt
  each rows rule.Width k lt = width k lt
  each rows rule.Units k lt = units k lt
  each rows rule.SecondBranch k lt = second k lt
  each rows rule.Target k lt = target rows k lt
  each rows rule.Drain k lt = drain k lt
  each rows rule.BranchEnd k lt = branch_end k lt
  each rows rule.BranchShadow k lt = shadow k lt
  each rows rule.Landing k lt = landing k lt
  each rows rule.Cycle k lt = cycle k lt

pub serial_kept : (rows : Rows) (words : List ℕ) → AreSerial words → first_broken t1 rows words ≡ None
serial_kept rows words s = (none_broken t1 rows words).1 (each words s rows)
