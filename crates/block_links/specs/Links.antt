-- Links between operations by number, and the delays along them.
use Rattle.std.specs.Prelude.{ℕ, ◌≡◌, ◌+◌, ◌-◌, ◌^◌, ◌<◌, ◌≤◌, Bool, nat_eq, if◌then◌else◌, List, [], ◌∷◌, length, take, drop, slice_index, Option, Some, None, ℤ, pos, ◌+ℤ◌, ◌-ℤ◌}
use Rattle.std.specs.List.{All, count_by, list_any}
use Rattle.std.specs.Int.{int_max}
use Rattle.block_links.specs.declared.links.Dependence.{Dependence}
use Rattle.block_links.specs.declared.links.Dependence.TheVariants.{Flow, Anti, Output, Given}
use Rattle.block_links.specs.declared.links.Link.{Link}
use Rattle.block_links.specs.declared.links.Links.{Links}

-- the delay of a dependence, where the first operation lands so many cycles after its issue, and the second so many
abbrev pub delay_by : Dependence → (first second : ℕ) → ℤ
delay_by Flow first second = pos first
delay_by Anti first second = pos 1 -ℤ pos second
delay_by Output first second = (pos first -ℤ pos second) +ℤ pos 1
delay_by (Given delay) first second = delay

-- the delay of a link of operation i, where the operations have these latencies
abbrev pub delay_of : (latency : ℕ → ℕ) → ℕ → Link → ℤ
delay_of latency i l = delay_by l.dependence (latency i) (latency l.to)

-- the greater of a delay and another, if there is one
abbrev pub greater : ℤ → Option ℤ → ℤ
greater d None = d
greater d (Some e) = int_max d e

-- the greatest delay of the links of operation i to operation j
unfoldable pub delay_to : (latency : ℕ → ℕ) → ℕ → List Link → ℕ → Option ℤ
delay_to latency i [] j = None
delay_to latency i (l ∷ ls) j =
    if nat_eq l.to j then Some (greater (delay_of latency i l) (delay_to latency i ls j)) else delay_to latency i ls j

-- how many of the links lead to an operation
abbrev pub count_to : List Link → ℕ → ℕ
count_to links j = count_by (λ (l : Link). nat_eq l.to j) links

-- each link leads to one of the first operations
abbrev pub LeadInside : ℕ → List Link → Type 0
LeadInside n = All (λ (l : Link). l.to < n)

-- the links of an operation
abbrev pub row : Links → ℕ → List Link
row l i =
    take (slice_index l.starts.items (i + 1) - slice_index l.starts.items i) (drop (slice_index l.starts.items i) l.links.items)

-- the links are those of so many operations, among these
pub record AreLinks (l : Links) (n : ℕ) : Type 0 where
  pub size : length l.starts.items ≡ n + 1
  pub few : n ≤ 512
  pub ends : (i : ℕ) → i < n → slice_index l.starts.items i ≤ slice_index l.starts.items (i + 1)
  pub inside : (i : ℕ) → i < n → slice_index l.starts.items (i + 1) ≤ length l.links.items
  pub lead : (i : ℕ) → i < n → LeadInside n (row l i)
  pub small : length l.links.items < 2 ^ 32

-- how many operations have links
abbrev pub count_of : Links → ℕ
count_of l = length l.starts.items - 1

-- some link leads from i to j
abbrev pub is_linked : Links → ℕ → ℕ → Bool
is_linked l i j = list_any (λ (k : Link). nat_eq k.to j) (row l i)

-- and the greatest delay of these, where the operations have these latencies
abbrev pub delay_along : (latency : ℕ → ℕ) → Links → ℕ → ℕ → Option ℤ
delay_along latency l i j = delay_to latency i (row l i) j
