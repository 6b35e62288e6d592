-- From the last operation of the order to the first.
use Rattle.std.proofs.Common.{◌≡◌, ◌≢◌, ◌<◌, ◌≤◌, ◌+◌, ◌-◌, ◌*◌, ℕ, suc, Bool, List, length, [], get_or, set, take, drop, arith, subst, sym, ◌∙◌, inl, inr, get_or-set_other, get_or-set_same}
use Rattle.std.proofs.Math.ListN.{length-set}
use Rattle.std.specs.Prelude.{pos, slice_index}
use Rattle.std.proofs.lemmas.Bool.{cases_eq}
use Rattle.serial_order.specs.Lists.{Among}
use Rattle.serial_order.specs.SerialOrder.{IsOrder}
use Rattle.serial_order.proofs.Onto.{onto}
use Rattle.block_links.specs.declared.links.Link.{Link}
use Rattle.block_links.specs.Links.{row, LeadInside, delay_of}
use Rattle.list_sched.specs.Extremes.{IsGreatest}
use Rattle.list_sched.specs.Given.{latency_in}
use Rattle.list_sched.specs.Schedule.{Climb}
use Rattle.list_sched.specs.Links.{linked}
use Rattle.list_sched.specs.Steps.{IsHeight}
use Rattle.list_sched.proofs.Exists.{heights_step}
use Rattle.list_sched.proofs.Positions.{among_at}
use Rattle.list_sched.proofs.Climbs.{serial_of, serial_length, split_onto, drop_at}
use Rattle.list_sched.proofs.Heights.{is_height, height_near}
use Rattle.list_sched.proofs.height.find_heights.Goals as goal

other_kept : (xs : List ℕ) (i c k : ℕ) → k ≢ i → get_or (set xs i c) k 0 ≡ get_or xs k 0
other_kept xs i c k ne = rw get_or-set_other

same_set : (xs : List ℕ) (i c : ℕ) → i < length xs → get_or (set xs i c) i 0 ≡ c
same_set xs i c lt = rw get_or-set_same

-- an operation of the order is one of those that there are
at_inside : (before : ℕ → ℕ → Bool) (n : ℕ) (order : List ℕ) (k : ℕ) → IsOrder before n order → 0 < k → k ≤ length order → get_or order (k - 1) 0 < n
at_inside before n order k o some le = (o.complete (get_or order (k - 1) 0)).0 (among_at order (k - 1) (omega arith))

pub height_of-height-requires-clause-there : goal.height_of-height-requires-clause-there
height_of-height-requires-clause-there g c = at_inside _ (length c.args.kinds.now) c.args.order.now c.loop-k.k c.requires.serial c.loop-k-test.true c.loop-k.auto.k

pub of-requires : goal.of-requires
of-requires g c = (length c.args.kinds.now, c.requires.links, at_inside _ (length c.args.kinds.now) c.args.order.now c.loop-k.k c.requires.serial c.loop-k-test.true c.loop-k.auto.k)

pub height_of-height-requires-clause-inside : goal.height_of-height-requires-clause-inside
height_of-height-requires-clause-inside g c =
    let i = at_inside _ (length c.args.kinds.now) c.args.order.now c.loop-k.k c.requires.serial c.loop-k-test.true c.loop-k.auto.k in
    subst (LeadInside (length c.args.kinds.now)) (sym c.of.ensures) (c.requires.links.lead _ i)

pub height_of-height-requires-clause-small : goal.height_of-height-requires-clause-small
height_of-height-requires-clause-small g c k lt =
    let s = c.loop-k.invariant.small k lt in
    let l = serial_length (linked c.args.links.now c.args.kinds.now (g.G.Generation.description c.args.g.now)) c.args.order.now (serial_of (linked c.args.links.now c.args.kinds.now (g.G.Generation.description c.args.g.now)) c.requires.problem c.args.order.now c.requires.serial) in
    let f = c.requires.problem.few in
    omega arith

pub bounds-heights-i : goal.bounds-heights-i
bounds-heights-i g c =
    let i = at_inside _ (length c.args.kinds.now) c.args.order.now c.loop-k.k c.requires.serial c.loop-k-test.true c.loop-k.auto.k in
    let s = c.loop-k.invariant.size in
    omega arith

pub loop-k-preserved : goal.loop-k-preserved
loop-k-preserved g c =
    let machine = g.G.Generation.description c.args.g.now in
    let p = linked c.args.links.now c.args.kinds.now machine in
    let order = c.args.order.now in
    let k = c.loop-k.k - 1 in
    let x = get_or order k 0 in
    let xs = c.loop-k.heights in
    let v = c.height_of-height.result in
    let h : ℕ → ℕ = slice_index xs in
    let lt : k < length order = (let t = c.loop-k-test.true in let a = c.loop-k.auto.k in omega arith) in
    let inside : x < length c.args.kinds.now = at_inside _ (length c.args.kinds.now) order c.loop-k.k c.requires.serial c.loop-k-test.true c.loop-k.auto.k in
    let bound : x < length xs = (let size = c.loop-k.invariant.size in omega arith) in
    let here : get_or (set xs x v) x 0 ≡ v = same_set xs x v bound in
    let latency = latency_in c.args.kinds.now machine in
    let high : IsHeight (delay_of latency x) (row c.args.links.now x) (latency x) h v =
    subst (λ (l : List Link). IsHeight (delay_of latency x) l (latency x) h v) c.of.ensures c.height_of-height.ensures in
    let top : IsGreatest (Climb p h x) (pos v) = is_height c.args.links.now c.args.kinds.now machine h x v high in
    let next : suc k ≡ c.loop-k.k = (let t = c.loop-k-test.true in omega arith) in
    let near : v ≤ (32 * length order - 32 * c.loop-k.k) + 32 =
    height_near c.args.links.now c.args.kinds.now machine h x v high c.requires.problem (c.requires.links.lead x inside) (32 * length order - 32 * c.loop-k.k) (λ j l. let s = c.loop-k.invariant.small j l in omega arith) in
    record {
      size = length-set {A = ℕ} xs x v ∙ c.loop-k.invariant.size;
      small = λ j l. elim (cases_eq j x) [
        | inl e ↦ subst (λ m. get_or (set xs x v) m 0 + 32 * k ≤ 32 * length order) (sym e) (let t = c.loop-k-test.true in let a = c.loop-k.auto.k in omega arith)
        | inr f ↦ (let o = other_kept xs x v j f in let s = c.loop-k.invariant.small j l in omega arith)
      ];
      are = λ i a. heights_step p c.requires.problem order (serial_of p c.requires.problem order c.requires.serial) (onto (take k order) []) (drop (suc k) order) x (split_onto order k lt) h (slice_index (set xs x v)) v
          (λ j f. other_kept xs x v j f) here top
          (λ j m. c.loop-k.invariant.are j (subst (λ n. Among j (drop n order)) next m)) i
          (subst (Among i) (drop_at order k lt) a);
    }

pub returns-clause-high : goal.returns-clause-high
returns-clause-high g c = λ i lt.
    let none : c.loop-k.k ≡ 0 = (let t = c.loop-k-test.false in omega arith) in
    c.loop-k.invariant.are i (subst (λ n. Among i (drop n c.args.order.now)) (sym none) ((c.requires.serial.complete i).1 lt))

pub returns-clause-small : goal.returns-clause-small
returns-clause-small g c = λ k lt.
    let s = c.loop-k.invariant.small k lt in
    let p = linked c.args.links.now c.args.kinds.now (g.G.Generation.description c.args.g.now) in
    let l = serial_length p c.args.order.now (serial_of p c.requires.problem c.args.order.now c.requires.serial) in
    let f = c.requires.problem.few in
    omega arith
