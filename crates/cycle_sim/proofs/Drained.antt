-- All that operations write lands by a cycle where each of them does.
use Rattle.std.proofs.Common.{ℕ, ◌+◌, ◌≤◌, Bool, true, false, cond, List, [], ◌∷◌, Option, Some, None}
use Rattle.std.specs.Prelude.{nat_lt, filter}
use Rattle.std.specs.List.{AllByRecursion}
use Rattle.operation.specs.declared.Trap.{Trap}
use Rattle.timed_meaning.specs.declared.Write.{Write}
use Rattle.timed_meaning.specs.declared.TimedOp.{TimedOp}
use Rattle.timed_meaning.specs.Block.{Start, Progress, Ran, Through, Stopped, act, issued, landing, run}
use Rattle.block_steps.specs.Flight.{in_turn, in_flight}
use Rattle.block_steps.proofs.Turns.{put_below, below_more}
use Rattle.cycle_sim.specs.declared.issue.Work.{Work}
use Rattle.cycle_sim.specs.Wheel.{slots_of, flight_of}
use Rattle.cycle_sim.specs.MultiOps.{came_to, ran_in_order}
use Rattle.cycle_sim.proofs.Cells.{landing_by}
use Rattle.cycle_sim.proofs.Flights.{both_by}

-- the writes land by a cycle
abbrev pub LandBy : ℕ → List Write → Type 0
LandBy e ws = AllByRecursion (λ w. w.lands ≤ e) ws

abbrev pub RanBy : ℕ → Ran → Type 0
RanBy e (Through p) = LandBy e p.writes
RanBy e (Stopped t p) = LandBy e p.writes

in_turn_by : (e : ℕ) (ws : List Write) → LandBy e ws → LandBy e (in_turn ws)
in_turn_by e [] h = tt
in_turn_by e (w ∷ ws) h = put_below e w (in_turn ws) h.0 (in_turn_by e ws h.1)

kept_by : (e : ℕ) (p : Write → Bool) (ws : List Write) → LandBy e ws → LandBy e (filter p ws)
kept_by e p [] h = tt
kept_by e p (w ∷ ws) h = elim (p w) as (λ b. LandBy e (cond b (w ∷ filter p ws) (filter p ws))) [
  | true ↦ (h.0, kept_by e p ws h.1)
  | false ↦ kept_by e p ws h.1
]

pub flight_by : (e t : ℕ) (ws : List Write) → LandBy e ws → LandBy e (in_flight t ws)
flight_by e t ws h = in_turn_by e (filter (λ w. nat_lt t w.lands) ws) (kept_by e (λ w. nat_lt t w.lands) ws h)

run_by : (c : Start) (e : ℕ) (ks : List TimedOp) (p : Progress) → AllByRecursion (λ k. k.at + k.latency ≤ e) ks → LandBy e p.writes → RanBy e (run c ks p)
run_by c e [] p h l = l
run_by c e (k ∷ ks) p h l =
    let t = k.at + k.latency in
    let vs = (act c k p).values in
    go (run_by c e ks (issued k (act c k p) p) h.1 (both_by e (landing t vs) p.writes (below_more t e (landing t vs) h.0 (landing_by t vs)) l)) (act c k p).trap
  where
    go : RanBy e (run c ks (issued k (act c k p) p)) → (o : Option Trap) → RanBy e (elim o [ None ↦ run c ks (issued k (act c k p) p) | Some t ↦ Stopped t p ])
    go ih None = ih
    go ih (Some t) = l

order_by : (e : ℕ) (r : Ran) → RanBy e r → RanBy e (ran_in_order r)
order_by e (Through p) h = in_turn_by e p.writes h
order_by e (Stopped t p) h = in_turn_by e p.writes h

pub ran_by : (c : Start) (e : ℕ) (ks : List TimedOp) (p : Progress) → AllByRecursion (λ k. k.at + k.latency ≤ e) ks → LandBy e p.writes → RanBy e (ran_in_order (run c ks p))
ran_by c e ks p h l = order_by e (run c ks p) (run_by c e ks p h l)

pub came_by : (e place : ℕ) (trap : Option Trap) (w : Work) (t : ℕ) → RanBy e (came_to place trap w t) → LandBy e (flight_of (slots_of w.wheel) t)
came_by e place None w t h = h
came_by e place (Some x) w t h = h
