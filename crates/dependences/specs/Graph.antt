-- The operations of a block two by two, by what is computed once for each. For contracts within the crates that make tables and rules.
use Rattle.std.specs.Prelude.{ℕ, ◌≡◌, ◌≤◌, ◌<◌, Bool, not, ◌&&◌, ◌||◌, if◌then◌else◌, nat_eq, nat_lt, nat_le, List, length, slice_index_or, Option, Some, None, ℤ, pos, negsuc, ◌+ℤ◌, ◌-ℤ◌}
use Rattle.std.specs.Int.{int_max}
use Rattle.operation.specs.declared.LatKind.{LatKind}
use Rattle.operation.specs.Places.{latency_kind}
use Rattle.timed_meaning.specs.declared.TimedOp.{TimedOp}
use Rattle.list_encoding.specs.Reading.{halt}
use Rattle.trap_order.specs.Order.{keep_issue_order}
use Rattle.serial_order.specs.Table.{Table, delay_of}
use Rattle.dependences.specs.declared.graph.Node.{Node}
use Rattle.dependences.specs.declared.graph.Meeting.{Meeting}
use Rattle.dependences.specs.Before.{lands_at}
use Rattle.dependences.specs.Footprint.{footprint, is_stranger_to, feeds, clashes}

-- an operation as a node
abbrev pub node : (LatKind → ℕ) → TimedOp → Node
node latency o = record {
  timed = o;
  footprint = footprint o.guarded;
  lands = lands_at o;
  latency = latency (latency_kind o.guarded.op);
}

-- what stands between two operations
abbrev pub meeting : Node → Node → Meeting
meeting a b = record {
  feeds = feeds a.footprint b.footprint;
  fed = feeds b.footprint a.footprint;
  both_write = clashes a.footprint b.footprint;
  in_list_order = keep_issue_order a.timed.guarded.op b.timed.guarded.op;
}

-- what stands between the second and the first
abbrev pub turned : Meeting → Meeting
turned m = record { feeds = m.fed; fed = m.feeds; both_write = m.both_write; in_list_order = m.in_list_order }

-- by that and their times the first comes before the second, whatever their places in the list
abbrev pub before_in_any_list : Meeting → Node → Node → Bool
before_in_any_list m a b =
    (m.feeds && nat_le a.lands b.timed.at) || ((m.fed && nat_lt a.timed.at b.lands) || (m.both_write && nat_lt a.lands b.lands))

-- a, at the place i of the list, comes before b, at the place j
abbrev pub is_before : Meeting → (i j : ℕ) → Node → Node → Bool
is_before m i j a b = not (nat_eq i j) && (before_in_any_list m a b || (m.in_list_order && nat_lt i j))

-- the greater of two delays, where the other one applies
abbrev pub at_least : ℤ → Bool → ℤ → ℤ
at_least delay applies other = if applies then int_max delay other else delay

-- the greatest of the delays that apply, and of -31, below which there is none
abbrev pub greatest_of : Meeting → Node → Node → ℤ
greatest_of m a b =
    at_least (at_least (at_least (at_least (negsuc 30) m.feeds (pos a.latency))
    m.fed (pos 1 -ℤ pos b.latency))
    m.both_write ((pos a.latency -ℤ pos b.latency) +ℤ pos 1))
    m.in_list_order (pos 0)

-- the two can stand in any order, whatever their times
abbrev pub have_nothing_in_common : Node → Node → Bool
have_nothing_in_common a b = is_stranger_to a.footprint b.footprint && not (keep_issue_order a.timed.guarded.op b.timed.guarded.op)

-- the greatest delay of those that apply, where a comes before b
abbrev pub delay_by_meeting : Meeting → (i j : ℕ) → Node → Node → Option ℤ
delay_by_meeting m i j a b = if is_before m i j a b then Some (greatest_of m a b) else None

-- the delay of a before b, if it is
abbrev pub delay_of_nodes : (i j : ℕ) → Node → Node → Option ℤ
delay_of_nodes i j a b = if have_nothing_in_common a b then None else delay_by_meeting (meeting a b) i j a b

-- the node i
abbrev pub node_at : List Node → ℕ → Node
node_at nodes i = slice_index_or nodes i (node (λ k. 1) (record { guarded = halt; at = 0; latency = 1 }))

-- the delay of the node i before the node j, if it is
abbrev pub delay_at : List Node → (i j : ℕ) → Option ℤ
delay_at nodes i j = delay_of_nodes i j (node_at nodes i) (node_at nodes j)

-- each latency is at most 32
abbrev pub AreShort : List Node → Type 0
AreShort nodes = (i : ℕ) → i < length nodes → (node_at nodes i).latency ≤ 32

-- the delays between nodes
pub record AreDelays (nodes : List Node) (d : Table) : Type 0 where
  pub count : d.count ≡ length nodes
  pub each : (i j : ℕ) → i < length nodes → j < length nodes → delay_of d i j ≡ delay_of_nodes i j (node_at nodes i) (node_at nodes j)
