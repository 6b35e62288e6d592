-- Step by step.
use Rattle.std.proofs.Common.{◌≡◌, ◌<◌, ◌≤◌, ◌+◌, ◌*◌, ℕ, List, length, max, ◌⊎◌, inl, inr, refl, arith, rules, subst, sym, ap, ◌∙◌, ◌++◌, ◌∷◌, []}
use Rattle.std.specs.Prelude.{slice_index, slice_index_or, slice_set}
use Rattle.std.specs.BinaryHeap.{heap_items, heap_capacity}
use Rattle.std.proofs.lemmas.Bool.{cases_lt}
use Rattle.std.proofs.lemmas.Grind.{common_steps}
use Rattle.std.proofs.Math.Nat.{le-max_left, le-max_right, max-eq_left, max-eq_right}
use Rattle.std.proofs.lemmas.List.{length_push, length-set, get_or_default, with_items_is}
use Rattle.operation.specs.declared.UnitKind.TheVariants as unit
use Rattle.operation.specs.declared.LatKind.TheVariants as lat
use Rattle.machine_desc.specs.Description.{Description, busy_of}
use Rattle.block_links.specs.declared.links.Link.{Link}
use Rattle.block_links.specs.Links.{row, LeadInside, count_to, delay_of}
use Rattle.block_links.proofs.Counted.{links_of}
use Rattle.list_sched.specs.Extremes.{IsLeast}
use Rattle.list_sched.specs.Given.{unit_in, latency_in}
use Rattle.list_sched.specs.Links.{linked}
use Rattle.list_sched.specs.Schedule.{Problem, IsNext, latency, busy}
use Rattle.list_sched.specs.Slots.{Slots, HasRoomFor, IsTaken}
use Rattle.list_sched.specs.Steps.{IsStart, IsHeldBack}
use Rattle.serial_order.specs.Counts.{waiting, one_where}
use Rattle.list_sched.specs.Queue.{AreFreed, can_go}
use Rattle.list_sched.proofs.Climbs.{latency_at, busy_at, unit_at}
use Rattle.list_sched.proofs.Plans.{Allowed, IsPlan, IsRoom, early, has_room, next_plan, done, agree, here, no_plan}
use Rattle.list_sched.proofs.Waits.{IsWaiting, branch_left, goes_next, least_allowed, enough, idle, next_waiting, no_waiting}
use Rattle.list_sched.proofs.placing.place.Goals as goal
use Rattle.list_sched.proofs.placing.place.Goals.{After-next-i, After-start-from, After-find-c}
use Rattle.list_sched.proofs.placing.place.Given.{Over}

-- the greater of two is one of them
one_of : (a b n : ℕ) → n ≡ max a b → (n ≡ a) ⊎ (n ≡ b)
one_of a b n e = elim (cases_lt a b) [
  | inl less ↦ (let below : a ≤ b = omega arith in inr (e ∙ max-eq_right below))
  | inr most ↦ inl (e ∙ max-eq_left most)
]

-- what is known behind the choice of the operation
module _ (g : Over) (c : After-next-i g) where
  pub few : length c.loop-step.order.items < length c.args.kinds.now
  few = let t = c.loop-step-test.true in let k = c.loop-step.invariant.count in omega arith

  pub next : IsNext (linked c.args.links.now c.args.kinds.now (g.G.Generation.description c.args.g.now)) (slice_index c.args.heights.now) c.loop-step.order.items c.next-i.result
  next =
      goes_next c.args.links.now c.args.kinds.now (g.G.Generation.description c.args.g.now) c.requires.problem c.args.heights.now c.loop-step.order.items c.loop-step.cycle c.loop-step.invariant.plan.schedule
      c.loop-step.work.waits.items c.loop-step.work.least.items (heap_items c.loop-step.work.queue) c.loop-step.invariant.waiting c.requires.heights few (heap_items c.next-i.new.queue) c.next-i.result c.next-i.ensures.next

  pub there : c.next-i.result < length c.args.kinds.now
  there = next.ready.inside

-- the operation goes next
abbrev GoesNext : (g : Over) → After-next-i g → Type 0
GoesNext g c = IsNext (linked c.args.links.now c.args.kinds.now (g.G.Generation.description c.args.g.now)) (slice_index c.args.heights.now) c.loop-step.order.items c.next-i.result

-- behind the choice of its first cycle
module _ (g : Over) (c : After-start-from g) (n : IsNext (linked c.args.links.now c.args.kinds.now (g.G.Generation.description c.args.g.now)) (slice_index c.args.heights.now) c.loop-step.order.items c.next-i.result) where
  abbrev machine : Description
  machine = g.G.Generation.description c.args.g.now

  abbrev p : Problem
  p = linked c.args.links.now c.args.kinds.now machine

  abbrev i : ℕ
  i = c.next-i.result

  on_unit : (slice_index_or c.args.kinds.now i (unit.I, lat.Alu)).0 ≡ p.unit i
  on_unit = unit_at c.args.kinds.now i (unit.I, lat.Alu) n.ready.inside

  late : c.latency-latency.result ≡ latency p i
  late = latency_at machine c.args.kinds.now i c.latency-latency.result (unit.I, lat.Alu) n.ready.inside c.latency-latency.ensures

  is_busy : busy_of machine (slice_index_or c.args.kinds.now i (unit.I, lat.Alu)).1 ≡ busy p i
  is_busy = busy_at machine c.args.kinds.now i _ (unit.I, lat.Alu) n.ready.inside refl

  read : c.index.result.now ≡ slice_index c.loop-step.work.least.items i
  read = c.index.ensures ∙ get_or_default c.loop-step.work.least.items i c.index.result.now 0 (let z = c.loop-step.invariant.waiting.least_size in let t = n.ready.inside in omega arith)

  least : IsLeast (Allowed p (slice_index c.loop-step.cycle) i) (slice_index c.loop-step.work.least.items i)
  least =
      least_allowed c.args.links.now c.args.kinds.now machine c.requires.problem c.args.heights.now c.loop-step.order.items c.loop-step.cycle c.loop-step.invariant.plan.schedule
      c.loop-step.work.waits.items c.loop-step.work.least.items (heap_items c.loop-step.work.queue) c.loop-step.invariant.waiting i n

  start : IsStart (p.unit i) (latency p i) (slice_index c.loop-step.work.least.items i) c.loop-step.end c.start-from.result
  start =
      subst (λ u. IsStart u (latency p i) (slice_index c.loop-step.work.least.items i) c.loop-step.end c.start-from.result) on_unit
      (subst (λ m. IsStart (slice_index_or c.args.kinds.now i (unit.I, lat.Alu)).0 m (slice_index c.loop-step.work.least.items i) c.loop-step.end c.start-from.result) late
      (subst (λ m. IsStart (slice_index_or c.args.kinds.now i (unit.I, lat.Alu)).0 c.latency-latency.result m c.loop-step.end c.start-from.result) read c.start-from.ensures))

pub next-i-requires-clause-some : goal.next-i-requires-clause-some
next-i-requires-clause-some g c =
    let few : length c.loop-step.order.items < length c.args.kinds.now = (let t = c.loop-step-test.true in let k = c.loop-step.invariant.count in omega arith) in
    branch_left c.args.links.now c.args.kinds.now (g.G.Generation.description c.args.g.now) c.requires.problem c.args.heights.now c.loop-step.order.items c.loop-step.cycle c.loop-step.invariant.plan.schedule c.loop-step.work.waits.items c.loop-step.work.least.items (heap_items c.loop-step.work.queue) c.loop-step.invariant.waiting few

pub bounds-kinds-i : goal.bounds-kinds-i
bounds-kinds-i g c = there g (goal.at.bounds-kinds-i g c).After-next-i

pub bounds-kinds-i-in-loop-step : goal.bounds-kinds-i-in-loop-step
bounds-kinds-i-in-loop-step g c = there g (goal.at.bounds-kinds-i-in-loop-step g c).After-next-i

pub index-requires : goal.index-requires
index-requires g c =
    let t = there g (goal.at.index-requires g c).After-next-i in
    let s = c.loop-step.invariant.waiting.least_size in
    let many : length c.loop-step.work.least.items ≡ c.loop-step.work.least.len = search rules in
    omega arith

-- behind the search for room
module _ (g : Over) (c : After-find-c g) (n : IsNext (linked c.args.links.now c.args.kinds.now (g.G.Generation.description c.args.g.now)) (slice_index c.args.heights.now) c.loop-step.order.items c.next-i.result)
    (u : (slice_index_or c.args.kinds.now c.next-i.result (unit.I, lat.Alu)).0 ≡ unit_in c.args.kinds.now c.next-i.result)
    (b : busy_of (g.G.Generation.description c.args.g.now) (slice_index_or c.args.kinds.now c.next-i.result (unit.I, lat.Alu)).1 ≡ busy (linked c.args.links.now c.args.kinds.now (g.G.Generation.description c.args.g.now)) c.next-i.result) where
  room : IsRoom (g.G.Generation.description c.args.g.now) c.loop-step.work.rooms.slots (unit_in c.args.kinds.now c.next-i.result) (busy (linked c.args.links.now c.args.kinds.now (g.G.Generation.description c.args.g.now)) c.next-i.result)
      c.start-from.result (32 * length c.loop-step.order.items) c.find-c.result
  room =
      let machine = g.G.Generation.description c.args.g.now in
      let slots = c.loop-step.work.rooms.slots in
      let from = c.start-from.result in
      let v = c.find-c.result in
      subst (λ (k : ℕ). IsRoom machine slots (unit_in c.args.kinds.now c.next-i.result) (busy (linked c.args.links.now c.args.kinds.now machine) c.next-i.result) from (32 * k) v) (sym c.loop-step.invariant.count)
      (subst (λ m. IsRoom machine slots (unit_in c.args.kinds.now c.next-i.result) m from (32 * c.loop-step.step) v) b
      (subst (λ k. IsRoom machine slots k (busy_of machine (slice_index_or c.args.kinds.now c.next-i.result (unit.I, lat.Alu)).1) from (32 * c.loop-step.step) v) u
      (record { within = c.find-c.ensures.within; room = c.find-c.ensures.room; full = c.find-c.ensures.full })))

pub find-c-requires-clause-order : goal.find-c-requires-clause-order
find-c-requires-clause-order g c =
    let at = goal.at.find-c-requires-clause-order g c in
    let n = next g at.After-next-i in
    let s = at.After-start-from in
    let p = linked c.args.links.now c.args.kinds.now (g.G.Generation.description c.args.g.now) in
    let e = early p c.requires.problem (slice_index c.args.heights.now) c.loop-step.order.items c.loop-step.cycle c.loop-step.work.rooms.slots c.loop-step.end c.loop-step.invariant.plan c.next-i.result n (few g at.After-next-i)
    (slice_index c.loop-step.work.least.items c.next-i.result) (least g s n) c.start-from.result (start g s n) in
    let k = c.loop-step.invariant.count in
    omega arith

pub take-requires-clause-room : goal.take-requires-clause-room
take-requires-clause-room g c =
    let at = goal.at.take-requires-clause-room g c in
    let n = next g at.After-next-i in
    let s = at.After-start-from in
    let machine = g.G.Generation.description c.args.g.now in
    let p = linked c.args.links.now c.args.kinds.now machine in
    let u = on_unit g s n in
    let b = is_busy g s n in
    let r = has_room p c.requires.problem (slice_index c.args.heights.now) c.loop-step.order.items c.loop-step.cycle c.loop-step.work.rooms.slots c.loop-step.end c.loop-step.invariant.plan c.next-i.result n (few g at.After-next-i)
    (slice_index c.loop-step.work.least.items c.next-i.result) (least g s n) c.start-from.result (start g s n) c.find-c.result (room g at.After-find-c n u b) in
    subst (λ (k : Slots). HasRoomFor machine k (slice_index_or c.args.kinds.now c.next-i.result (unit.I, lat.Alu)).0 (busy_of machine (slice_index_or c.args.kinds.now c.next-i.result (unit.I, lat.Alu)).1) c.find-c.result) (sym c.find-c.ensures.slots)
    (subst (λ k. HasRoomFor machine c.loop-step.work.rooms.slots k (busy_of machine (slice_index_or c.args.kinds.now c.next-i.result (unit.I, lat.Alu)).1) c.find-c.result) (sym u)
    (subst (λ m. HasRoomFor machine c.loop-step.work.rooms.slots (unit_in c.args.kinds.now c.next-i.result) m c.find-c.result) (sym b) r))

pub of-requires : goal.of-requires
of-requires g c = (length c.args.kinds.now, c.requires.links, there g (goal.at.of-requires g c).After-next-i)

pub of-requires-in-loop-step : goal.of-requires-in-loop-step
of-requires-in-loop-step g c = (length c.args.kinds.now, c.requires.links, there g (goal.at.of-requires-in-loop-step g c).After-next-i)

pub hold_back-requires-clause-there : goal.hold_back-requires-clause-there
hold_back-requires-clause-there g c = there g (goal.at.hold_back-requires-clause-there g c).After-next-i

pub hold_back-requires-clause-inside : goal.hold_back-requires-clause-inside
hold_back-requires-clause-inside g c =
    let i = there g (goal.at.hold_back-requires-clause-inside g c).After-next-i in
    subst (LeadInside (length c.args.kinds.now)) (sym c.of.ensures) (c.requires.links.lead _ i)

pub release-requires-clause-inside : goal.release-requires-clause-inside
release-requires-clause-inside g c =
    let i = there g (goal.at.release-requires-clause-inside g c).After-next-i in
    subst (λ n. LeadInside n c.of-in-loop-step.result.now) (sym c.requires.heights) (subst (LeadInside (length c.args.kinds.now)) (sym c.of-in-loop-step.ensures) (c.requires.links.lead _ i))

pub release-requires-clause-counted : goal.release-requires-clause-counted
release-requires-clause-counted g c = λ j.
    let n = next g (goal.at.release-requires-clause-counted g c).After-next-i in
    let e = enough c.args.links.now c.args.kinds.now (g.G.Generation.description c.args.g.now) c.requires.problem c.args.heights.now c.loop-step.order.items c.loop-step.cycle c.loop-step.invariant.plan.schedule
    c.loop-step.work.waits.items c.loop-step.work.least.items (heap_items c.loop-step.work.queue) c.loop-step.invariant.waiting c.next-i.result n j in
    let a = ap (λ (l : List Link). count_to l j) c.of-in-loop-step.ensures in
    let b = ap (λ l. slice_index l j) c.deref_mut-in-loop-step-2.ensures.value in
    omega arith

pub release-requires-clause-idle : goal.release-requires-clause-idle
release-requires-clause-idle g c = λ j some.
    let n = next g (goal.at.release-requires-clause-idle g c).After-next-i in
    ap (λ l. slice_index l j) c.deref_mut-in-loop-step-2.ensures.value
    ∙ idle c.args.links.now c.args.kinds.now (g.G.Generation.description c.args.g.now) c.requires.problem c.args.heights.now c.loop-step.order.items c.loop-step.cycle c.loop-step.invariant.plan.schedule
    c.loop-step.work.waits.items c.loop-step.work.least.items (heap_items c.loop-step.work.queue) c.loop-step.invariant.waiting c.next-i.result n c.requires.heights (heap_items c.next-i.new.queue) c.next-i.ensures.next j some

pub bounds-cycle-i : goal.bounds-cycle-i
bounds-cycle-i g c = let i = there g (goal.at.bounds-cycle-i g c).After-next-i in let s = c.loop-step.invariant.plan.cycles in omega arith

pub loop-step-init : goal.loop-step-init
loop-step-init g c =
    let kinds = c.args.kinds.now in
    let p = linked c.args.links.now kinds (g.G.Generation.description c.args.g.now) in
    let none = c.clear-2.ensures.items in
    let n = length kinds in
    let old : c.deref_mut.result.now ≡ c.args.work.now.waits.items = c.deref_mut.ensures.value in
    let many : length c.count_all.new.waits ≡ n = c.count_all.ensures.size ∙ ap length old ∙ c.requires.work.waits in
    let size : length c.count_all.new.waits ≡ c.args.work.now.waits.len = (let l : length c.args.work.now.waits.items ≡ c.args.work.now.waits.len = search rules in let q = c.requires.work.waits in omega arith) in
    let written : (Rattle.std.specs.Vec.with_items c.args.work.now.waits c.count_all.new.waits).items ≡ c.count_all.new.waits = with_items_is c.args.work.now.waits c.count_all.new.waits size in
    record {
      count = ap length none;
      plan = subst (λ (o : List ℕ). IsPlan p (slice_index c.args.heights.now) o c.fill-2.new.self c.clear.new.self.slots 0) (sym none)
          (no_plan p (slice_index c.args.heights.now) c.fill-2.new.self c.clear.new.self.slots (c.fill-2.ensures.len ∙ c.requires.cycle) (λ k. grind (arith, common_steps))
          (let a = c.clear.ensures.cycles in let b = c.requires.work.cycles in omega arith) (c.clear.ensures.known (g.G.Generation.description c.args.g.now)).rooms.slots.each
          (λ k lt. c.clear.ensures.cleared.issued k (let e = c.clear.ensures.count in omega arith)) (λ u k lt. c.clear.ensures.cleared.busy u k (let e = c.clear.ensures.count in omega arith)));
      waiting = subst (λ (o : List ℕ). IsWaiting c.args.links.now kinds (g.G.Generation.description c.args.g.now) c.args.heights.now o c.fill-2.new.self (Rattle.std.specs.Vec.with_items c.args.work.now.waits c.count_all.new.waits).items c.fill.new.self.items (heap_items c.find_ready.new.queue)) (sym none)
          (subst (λ (w : List ℕ). IsWaiting c.args.links.now kinds (g.G.Generation.description c.args.g.now) c.args.heights.now [] c.fill-2.new.self w c.fill.new.self.items (heap_items c.find_ready.new.queue)) (sym written)
          (no_waiting c.args.links.now kinds (g.G.Generation.description c.args.g.now) c.args.heights.now c.fill-2.new.self c.count_all.new.waits c.fill.new.self.items (heap_items c.find_ready.new.queue) many (let e : length c.fill.new.self.items ≡ length c.args.work.now.least.items = grind (arith, common_steps) in e ∙ c.requires.work.least)
          (λ j. c.count_all.ensures.counted j ∙ ap (waiting (links_of c.args.links.now) [] j) (ap length old ∙ c.requires.work.waits)) (λ j. grind (arith, common_steps)) c.find_ready.ensures.queue
          (λ j lt. c.find_ready.ensures.entries j (let z = c.requires.heights in omega arith) ∙ ap (λ w. one_where (can_go kinds w j)) (c.deref.ensures.value ∙ written))));
      known = c.clear.ensures.known (g.G.Generation.description c.args.g.now);
      used = c.clear.ensures.count;
      queue = let q = c.requires.work.queue in let r = c.find_ready.ensures.room in omega arith;
      room = let q = c.requires.room in let r = c.clear-2.ensures.capacity in omega arith;
      more = let r = c.clear-2.ensures.capacity in omega arith;
      kept = record {
        waits = omega arith;
        least = let r = c.fill.ensures.capacity in omega arith;
        queue = c.find_ready.ensures.room;
        rooms = (c.clear.ensures.known (g.G.Generation.description c.args.g.now)).rooms;
        cycles = c.clear.ensures.cycles;
      };
    }

pub loop-step-preserved : goal.loop-step-preserved
loop-step-preserved g c =
    let at = goal.at.loop-step-preserved g c in
    let n = next g at.After-next-i in
    let s = at.After-start-from in
    let machine = g.G.Generation.description c.args.g.now in
    let kinds = c.args.kinds.now in
    let p = linked c.args.links.now kinds machine in
    let h = slice_index c.args.heights.now in
    let order = c.loop-step.order.items in
    let cycle = c.loop-step.cycle in
    let slots = c.loop-step.work.rooms.slots in
    let end = c.loop-step.end in
    let i = c.next-i.result in
    let v = c.find-c.result in
    let u = on_unit g s n in
    let b = is_busy g s n in
    let late = late g s n in
    let r = room g at.After-find-c n u b in
    let taken : IsTaken slots c.take.new.self.slots (p.unit i) (busy p i) v =
    subst (λ m. IsTaken slots c.take.new.self.slots (p.unit i) m v) b
    (subst (λ k. IsTaken slots c.take.new.self.slots k (busy_of machine (slice_index_or kinds i (unit.I, lat.Alu)).1) v) u
    (subst (λ (k : Slots). IsTaken k c.take.new.self.slots (slice_index_or kinds i (unit.I, lat.Alu)).0 (busy_of machine (slice_index_or kinds i (unit.I, lat.Alu)).1) v) c.find-c.ensures.slots c.take.ensures.taken)) in
    let grown = c.add.ensures.items in
    let l = least g s n in
    let st = start g s n in
    let few = few g at.After-next-i in
    let first : end ≤ c.max-end.result = (let m = le-max_left end (v + c.latency-latency.result) in let e = c.max-end.ensures in omega arith) in
    let second : v + latency p i ≤ c.max-end.result = (let m = le-max_right end (v + c.latency-latency.result) in let e = c.max-end.ensures in omega arith) in
    let one : (c.max-end.result ≡ end) ⊎ (c.max-end.result ≡ v + latency p i) = subst (λ k. (c.max-end.result ≡ end) ⊎ (c.max-end.result ≡ v + k)) late (one_of end (v + c.latency-latency.result) c.max-end.result c.max-end.ensures) in
    let before = c.deref_mut-in-loop-step-2.ensures.value in
    let behind = c.deref_mut-in-loop-step.ensures.value in
    let released : length c.release.new.waits ≡ length c.loop-step.work.waits.items = c.release.ensures.size ∙ ap length before in
    let backed : length c.hold_back.new.least ≡ length c.loop-step.work.least.items = c.hold_back.ensures.size ∙ ap length behind in
    let long_waits : length c.loop-step.work.waits.items ≡ c.loop-step.work.waits.len = search rules in
    let long_least : length c.loop-step.work.least.items ≡ c.loop-step.work.least.len = search rules in
    let delay = delay_of (latency_in kinds machine) i in
    let held : IsHeldBack delay (row c.args.links.now i) v c.loop-step.work.least.items c.hold_back.new.least =
    subst (λ (k : List ℕ). IsHeldBack delay (row c.args.links.now i) v k c.hold_back.new.least) behind (subst (λ (k : List Link). IsHeldBack delay k v c.deref_mut-in-loop-step.result.now c.hold_back.new.least) c.of.ensures c.hold_back.ensures) in
    let off = λ (j : ℕ). (let a = c.release.ensures.off j in let d = ap (λ (k : List Link). count_to k j) c.of-in-loop-step.ensures in let e = ap (λ k. slice_index k j) before in
    let f : slice_index c.release.new.waits j + count_to (row c.args.links.now i) j ≡ slice_index c.loop-step.work.waits.items j = omega arith in f) in
    let freed : AreFreed kinds c.loop-step.work.waits.items c.release.new.waits (heap_items c.next-i.new.queue) (heap_items c.release.new.queue) =
    subst (λ (k : List ℕ). AreFreed kinds k c.release.new.waits (heap_items c.next-i.new.queue) (heap_items c.release.new.queue)) before c.release.ensures.freed in
    let waits : (Rattle.std.specs.Vec.with_items c.loop-step.work.waits c.release.new.waits).items ≡ c.release.new.waits = with_items_is c.loop-step.work.waits c.release.new.waits (released ∙ long_waits) in
    let leasts : (Rattle.std.specs.Vec.with_items c.loop-step.work.least c.hold_back.new.least).items ≡ c.hold_back.new.least = with_items_is c.loop-step.work.least c.hold_back.new.least (backed ∙ long_least) in
    record {
      count = ap length grown ∙ length_push order i ∙ ap (λ (n : ℕ). n + 1) c.loop-step.invariant.count;
      plan = subst (λ (o : List ℕ). IsPlan p h o (slice_set cycle i v) c.take.new.self.slots c.max-end.result) (sym grown)
          (next_plan p c.requires.problem h order cycle slots end c.loop-step.invariant.plan i n few (slice_index c.loop-step.work.least.items i) l c.start-from.result st v r c.take.new.self.slots taken c.max-end.result first second one);
      waiting = subst (λ (o : List ℕ). IsWaiting c.args.links.now kinds (g.G.Generation.description c.args.g.now) c.args.heights.now o (slice_set cycle i v) (Rattle.std.specs.Vec.with_items c.loop-step.work.waits c.release.new.waits).items (Rattle.std.specs.Vec.with_items c.loop-step.work.least c.hold_back.new.least).items (heap_items c.release.new.queue)) (sym grown)
          (subst (λ (w : List ℕ). IsWaiting c.args.links.now kinds (g.G.Generation.description c.args.g.now) c.args.heights.now (order ++ i ∷ []) (slice_set cycle i v) w (Rattle.std.specs.Vec.with_items c.loop-step.work.least c.hold_back.new.least).items (heap_items c.release.new.queue)) (sym waits)
          (subst (λ (w : List ℕ). IsWaiting c.args.links.now kinds (g.G.Generation.description c.args.g.now) c.args.heights.now (order ++ i ∷ []) (slice_set cycle i v) c.release.new.waits w (heap_items c.release.new.queue)) (sym leasts)
          (next_waiting c.args.links.now kinds machine c.requires.problem c.args.heights.now order cycle c.loop-step.invariant.plan.schedule c.loop-step.work.waits.items c.loop-step.work.least.items (heap_items c.loop-step.work.queue) c.loop-step.invariant.waiting i n
          c.requires.heights (heap_items c.next-i.new.queue) c.next-i.ensures.next c.release.new.waits released off (heap_items c.release.new.queue) c.release.ensures.queue freed c.hold_back.new.least v held (slice_set cycle i v)
          (agree p c.requires.problem h order cycle slots end c.loop-step.invariant.plan i n few (slice_index c.loop-step.work.least.items i) l c.start-from.result st v r c.take.new.self.slots taken c.max-end.result first second one)
          (here p c.requires.problem h order cycle slots end c.loop-step.invariant.plan i n few (slice_index c.loop-step.work.least.items i) l c.start-from.result st v r c.take.new.self.slots taken c.max-end.result first second one))));
      known = c.take.ensures.known;
      used = c.take.ensures.count ∙ c.find-c.ensures.count ∙ c.loop-step.invariant.used;
      queue = let a = c.loop-step.invariant.queue in let b = c.next-i.ensures.room in let d = c.release.ensures.room in omega arith;
      room = let a = c.loop-step.invariant.room in let b = c.add.ensures.room in omega arith;
      more = let a = c.loop-step.invariant.more in let b = c.add.ensures.room in omega arith;
      kept = let k = c.loop-step.invariant.kept in record {
        waits = let a = k.waits in omega arith;
        least = let a = k.least in omega arith;
        queue = let a = k.queue in let b = c.next-i.ensures.room in let d = c.release.ensures.room in omega arith;
        rooms = c.take.ensures.known.rooms;
        cycles = ap length c.take.ensures.taken.issued ∙ length-set _ _ _ ∙ ap (λ (k : Slots). length k.issued) c.find-c.ensures.slots ∙ k.cycles;
      };
    }

pub returns-clause-schedule : goal.returns-clause-schedule
returns-clause-schedule g c =
    done (linked c.args.links.now c.args.kinds.now (g.G.Generation.description c.args.g.now)) c.requires.problem (slice_index c.args.heights.now) c.loop-step.order.items c.loop-step.cycle c.loop-step.work.rooms.slots c.loop-step.end c.loop-step.invariant.plan
    c.requires.high (let t = c.loop-step-test.false in let k = c.loop-step.invariant.count in let a = c.loop-step.auto in omega arith)
