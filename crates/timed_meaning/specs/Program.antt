-- What a program does.
use Rattle.timed_meaning.specs.declared.Answer.TheVariants.{GoOn, GoTo, Stop}
use Rattle.std.specs.Prelude.{◌≡◌, ◌≢◌, ℕ, zero, suc, ◌+◌, ◌-◌, ◌^◌, ◌<◌, ◌≤◌, true, false, nat_eq, List, [], ◌∷◌, ◌++◌, length, map, replicate, find, Option, Some, None, MatchOption, All}
use Rattle.std.specs.List.Sorted.{IsStrictlyIncreasing}
use Rattle.operation.specs.declared.End.{End}
use Rattle.operation.specs.declared.End.TheVariants as end
use Rattle.operation.specs.declared.TrapKind.TheVariants.{BadTarget}
use Rattle.timed_meaning.specs.declared.TimedOp.{TimedOp}
use Rattle.timed_meaning.specs.declared.TimedBlock as built
use Rattle.timed_meaning.specs.declared.Program as whole
use Rattle.timed_meaning.specs.declared.Meant.{Meant}
use Rattle.timed_meaning.specs.Values.{State}
use Rattle.timed_meaning.specs.Block.{Ending, Ended, Trapped, block}

-- a block as lists; `next` is the entry of the block after it
pub record Block : Type 0 where
  pub entry : ℕ
  pub next : Option ℕ
  pub ops : List TimedOp
  pub end : ℕ

-- a program as lists, its blocks in table order
pub record Program : Type 0 where
  pub blocks : List Block
  pub entry : ℕ
  pub memory : ℕ
  pub init : List ℕ

-- a block of the evaluator as lists
abbrev pub block_of : built.TimedBlock → Block
block_of b = record { entry = b.entry; next = b.next; ops = b.ops.items; end = b.end }

-- a program of the evaluator as lists
abbrev pub program_of : whole.Program → Program
program_of p = record { blocks = map block_of p.blocks.items; entry = p.entry; memory = p.memory; init = p.init.items }

-- all 0 and false but p0, and memory with its initial bytes
abbrev pub first_state : Program → State
first_state p =
    record {
      general = replicate 32 0;
      predicates = true ∷ replicate 31 false;
      targets = replicate 8 0;
      memory = p.init ++ replicate (p.memory - length p.init) 0;
      output = [];
      position = 0;
    }

-- the block with an entry
abbrev pub block_at : Program → ℕ → Option Block
block_at p entry = find (λ b. nat_eq b.entry entry) p.blocks

-- what comes of one block: the program goes on at an entry, or it ends, with how many blocks that counts
pub data Next : Type 0 where
  Goes : ℕ → State → Next
  Ends : End → ℕ → (output memory : List ℕ) → Next

-- to an address: on at the block there, or a trap where it is no entry, with the block counted
abbrev pub goes_to : Program → ℕ → ℕ → State → Next
goes_to p from to s = elim (block_at p to) [
  | None ↦ Ends (end.Trapped (record { kind = BadTarget; block = from; detail = to })) 1 s.output s.memory
  | Some b ↦ Goes to s
]

-- on to the next row; a sound program's last block doesn't go on
abbrev pub goes_on : ℕ → Option ℕ → State → Next
goes_on from None s = Goes from s
goes_on from (Some to) s = Goes to s

-- what comes of a block, by how it ended: one that a trap stops isn't counted
abbrev pub follows : Program → ℕ → Option ℕ → Ending → Next
follows p from next (Ended s GoOn) = goes_on from next s
follows p from next (Ended s (GoTo to)) = goes_to p from to s
follows p from next (Ended s (Stop code)) = Ends (end.Halted code) 1 s.output s.memory
follows p from next (Trapped t k output memory) = Ends (end.Trapped (record { kind = t.kind; block = from; detail = t.detail })) 0 output memory

-- the block with this entry, from a state; where there is none, which no sound program meets, nothing changes
abbrev pub advance : Program → List ℕ → ℕ → ℕ → State → Next
advance p input limit entry s = elim (block_at p entry) [
  | None ↦ Goes entry s
  | Some b ↦ follows p entry b.next (block (record { state = s; input = input; next = b.next; limit = limit }) b.ops)
]

-- the state and the entry when b blocks have ended without an end of the program
abbrev pub after : Program → List ℕ → ℕ → ℕ → Option (State × ℕ)
after p input limit zero = Some (first_state p, p.entry)
after p input limit (suc b) = elim (after p input limit b) [
  | None ↦ None
  | Some at ↦ elim (advance p input limit at.1 at.0) [ Goes entry s ↦ Some (s, entry) | Ends e k out mem ↦ None ]
]

-- what a run comes to
pub record Meaning : Type 0 where
  pub end : End
  pub blocks : ℕ
  pub output : List ℕ
  pub memory : List ℕ

-- the evaluator's answer as lists
abbrev pub meaning_of : Meant → Meaning
meaning_of m = record { end = m.end; blocks = m.blocks; output = m.output.items; memory = m.memory.items }

-- at most n more blocks, when k have ended
abbrev pub mean_from : Program → List ℕ → ℕ → ℕ → ℕ → ℕ → State → Meaning
mean_from p input limit zero k entry s = record { end = end.Bound; blocks = k; output = s.output; memory = s.memory }
mean_from p input limit (suc n) k entry s = elim (advance p input limit entry s) [
  | Goes to s' ↦ mean_from p input limit n (k + 1) to s'
  | Ends e j out mem ↦ record { end = e; blocks = k + j; output = out; memory = mem }
]

-- at most n blocks, from the start
abbrev pub mean : Program → List ℕ → ℕ → ℕ → Meaning
mean p input limit n = mean_from p input limit n 0 p.entry (first_state p)

-- a run in which b blocks end without an end of the program is the run of the rest from the state and entry after them
abbrev pub GoesOnFromAfter : Type 0
GoesOnFromAfter =
    (p : Program) (input : List ℕ) (limit b n : ℕ) (s : State) (entry : ℕ) →
    after p input limit b ≡ Some (s, entry) → mean p input limit (b + n) ≡ mean_from p input limit n b entry s

-- a run ends by its bound exactly where the program doesn't end within it, and then as it stands after so many blocks
abbrev pub EndsByItsBound : Type 0
EndsByItsBound =
    (p : Program) (input : List ℕ) (limit n : ℕ) →
    MatchOption (after p input limit n) ((mean p input limit n).end ≢ end.Bound)
    (λ at. mean p input limit n ≡ record { end = end.Bound; blocks = n; output = at.0.output; memory = at.0.memory })

-- what the evaluator can count: at most 512 operations in a block, and landings below 2 ^ 32
pub record IsBlockInRange (b : Block) : Type 0 where
  pub few : length b.ops ≤ 512
  pub landings : All (λ k. k.at + k.latency < 2 ^ 32) b.ops

-- blocks in the order of their entries, and a memory of at most 2 ^ 20 bytes with no more initial ones
pub record IsInRange (p : Program) : Type 0 where
  pub blocks : All IsBlockInRange p.blocks
  pub entries : IsStrictlyIncreasing (map (λ b. b.entry) p.blocks)
  pub memory : p.memory ≤ 2 ^ 20
  pub init : length p.init ≤ p.memory
