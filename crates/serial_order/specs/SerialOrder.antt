-- Serial orders of the operations below n, where `before` says which is before which, and the stuck set.
use Rattle.std.specs.Prelude.{ℕ, ◌≡◌, ◌<◌, ◌↔◌, ◌&&◌, Bool, IsTrue, List, find, Option, Some}
use Rattle.std.specs.List.{list_any, list_all, range_with_len}
use Rattle.serial_order.specs.Lists.{Among, Earlier, EachOnce, has, sublists}
use Rattle.serial_order.specs.declared.serial.OrderFault.{OrderFault}
use Rattle.serial_order.specs.declared.serial.OrderFault.TheVariants.{Cycle, NoMemory}

-- all operations, each once, in which i stands earlier than j wherever i is before j
pub record IsOrder (before : ℕ → ℕ → Bool) (n : ℕ) (order : List ℕ) : Type 0 where
  pub each_once : EachOnce order
  pub complete : (k : ℕ) → Among k order ↔ (k < n)
  pub kept : (i j : ℕ) → i < n → j < n → IsTrue (before i j) → Earlier order i j

-- operations of which each has one of them before it
pub record IsStuckSet (before : ℕ → ℕ → Bool) (n : ℕ) (set : List ℕ) : Type 0 where
  pub inside : (k : ℕ) → Among k set → k < n
  pub held : (j : ℕ) → Among j set → (i : ℕ) × Among i set × IsTrue (before i j)

-- the operation is in the greatest such set: in some such set
unfoldable pub is_stuck : (ℕ → ℕ → Bool) → (n k : ℕ) → Bool
is_stuck before n k =
    list_any (λ set. has k set && list_all (λ j. list_any (λ i. before i j) set) set) (sublists (range_with_len 0 n))

-- the least operation of that set
unfoldable pub first_stuck : (ℕ → ℕ → Bool) → ℕ → Option ℕ
first_stuck before n = find (is_stuck before n) (range_with_len 0 n)

-- why there is no order: that operation, or want of memory
abbrev pub IsFirstStuck : (ℕ → ℕ → Bool) → ℕ → OrderFault → Type 0
IsFirstStuck before n (Cycle k) = first_stuck before n ≡ Some k
IsFirstStuck before n NoMemory = Unit {0}
