-- For contracts within the crate: what is gathered from the statements so far, which are listed last first.
use Rattle.std.specs.Prelude.{ℕ, ◌≡◌, ◌+◌, ◌≤◌, ◌||◌, nat_lt, bytes_eq, Bool, true, List, [], ◌∷◌, ◌++◌, length, map, All, Option, Some, None, Result, Ok, Err, MatchResult, if◌then◌else◌}
use Rattle.std.specs.List.{list_any}
use Rattle.operation.specs.declared.Op.{Op}
use Rattle.operation.specs.declared.Guarded.{Guarded}
use Rattle.asm_syntax.specs.Statements.{Statement}
use Rattle.vliw_asm.specs.declared.stop.Cause.{Cause}
use Rattle.vliw_asm.specs.declared.stop.Cause.TheVariants as cause
use Rattle.vliw_asm.specs.declared.stop.Stop.{Stop}
use Rattle.vliw_asm.specs.declared.stop.Stop.TheVariants as stop
use Rattle.vliw_asm.specs.declared.names.Names.{Names}
use Rattle.vliw_asm.specs.declared.code.Code.{Code}
use Rattle.vliw_asm.specs.declared.data.Data.{Data}
use Rattle.vliw_asm.specs.Names.{with_name, number_in}
use Rattle.vliw_asm.specs.Places.{last, is_inside}
use Rattle.vliw_asm.specs.Data.{data_bytes, initial_bytes, labels}
use Rattle.vliw_asm.specs.Blocks.{begun, words, references, operation_count, begun_block, blocks}
use Rattle.vliw_asm.specs.Assembly.{block_by, reference_by, label_by}

-- ---- why it stops

-- for the cause that is expected, or for want of memory
abbrev pub IsStop : Option Cause → Stop → Type 0
IsStop expected stop.NoMemory = Unit {0}
IsStop expected (stop.Faulty c) = expected ≡ Some c

-- ---- names

-- the names in order are these, and those that are defined are these
pub record AreNames (known defined : List (List ℕ)) (n : Names) : Type 0 where
  pub listed : map (λ name. name.now) n.known.keys ≡ known
  pub marked : map (λ name. name.now) n.defined.keys ≡ defined
  pub few : length known ≤ 262144
  pub short : All (λ name. length name ≤ 32) known

-- a name is too long, or one too many of these
abbrev pub is_over : List ℕ → (known : List (List ℕ)) → Bool
is_over name known = nat_lt 32 (length name) || nat_lt 262144 (length known)

-- why a name may not join
abbrev pub refused_name : List ℕ → (known : List (List ℕ)) → Option Cause
refused_name name known = if is_over name (with_name known name) then Some cause.Limit else None

-- why a name may not be defined
abbrev pub refused_definition : List ℕ → (known defined : List (List ℕ)) → Option Cause
refused_definition name known defined = if list_any (bytes_eq name) defined then Some cause.Duplicate else refused_name name known

-- a name has joined by its number, where the names that are defined are these now
pub record HasJoined (name : List ℕ) (known defined : List (List ℕ)) (new : Names) (number : ℕ) : Type 0 where
  pub numbered : number ≡ number_in (with_name known name) name
  pub names : AreNames (with_name known name) defined new

-- a name is defined: it joins the names and is defined from now on, or is refused
abbrev pub Defines : List ℕ → (old new : Names) → Result ℕ Stop → Type 0
Defines name old new result =
    (known defined : List (List ℕ)) → AreNames known defined old →
    MatchResult result
    (λ number. (refused_definition name known defined ≡ None) × HasJoined name known (defined ++ name ∷ []) new number)
    (IsStop (refused_definition name known defined))

-- a name is referred to: it joins the names, or is refused
abbrev pub Refers : List ℕ → (old new : Names) → Result ℕ Stop → Type 0
Refers name old new result =
    (known defined : List (List ℕ)) → AreNames known defined old →
    MatchResult result
    (λ number. (refused_name name known ≡ None) × HasJoined name known defined new number)
    (IsStop (refused_name name known))

-- ---- blocks, words and data

-- operations with their guards
abbrev pub operations_of : List Guarded → List (ℕ × Op)
operations_of gs = map (λ g. (g.guard, g.op)) gs

-- the blocks, the words and the references are those of statements, by the numbers of names
pub record IsCode (known : List (List ℕ)) (before : List Statement) (c : Code) : Type 0 where
  pub ended : c.blocks.items ≡ map (block_by known) (blocks before)
  pub inside : is_inside (last before) ≡ true → c.block ≡ block_by known (begun_block before)
  pub written : c.words.items ≡ words before
  pub waiting : operations_of c.begun.items ≡ begun before
  pub referring : c.refs.items ≡ map (reference_by known) (references before)
  pub counted : length (words before) + length (begun before) ≡ operation_count before
  pub few : operation_count before ≤ 131072

-- the labels, the size and the first bytes are those of statements, by the numbers of names
pub record IsData (known : List (List ℕ)) (before : List Statement) (d : Data) : Type 0 where
  pub labelled : d.labels.items ≡ map (label_by known) (labels before)
  pub size : d.size ≡ length (data_bytes before)
  pub initial : d.init.items ≡ initial_bytes before
  pub few : length (data_bytes before) ≤ 1048576
