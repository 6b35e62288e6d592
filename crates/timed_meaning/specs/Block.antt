-- What a block does.
use Rattle.timed_meaning.specs.declared.Cell.{Cell}
use Rattle.timed_meaning.specs.declared.Cell.TheVariants.{At, Byte}
use Rattle.timed_meaning.specs.declared.Write.{Write}
use Rattle.std.specs.Prelude.{ℕ, ◌≡◌, zero, suc, ◌+◌, ◌*◌, ◌/◌, ◌%◌, Bool, nat_le, List, [], ◌∷◌, ◌++◌, length, map, slice_get, if◌then◌else◌, Option, Some, None}
use Rattle.std.specs.List.{range_with_len}
use Rattle.operation.specs.declared.Op.{Op}
use Rattle.operation.specs.declared.Op.TheVariants as op
use Rattle.operation.specs.declared.Guarded.{Guarded}
use Rattle.operation.specs.declared.Operands.{Operands}
use Rattle.operation.specs.declared.Effect.{Effect}
use Rattle.operation.specs.declared.Effect.TheVariants as effects
use Rattle.operation.specs.declared.Trap.{Trap}
use Rattle.operation.specs.declared.Place.{Place}
use Rattle.operation.specs.declared.Place.TheVariants.{General, Predicate, Target}
use Rattle.operation.specs.Places.{sources, is_constant}
use Rattle.operation.specs.Arithmetic.{bytes_of, extended}
use Rattle.operation.specs.Effects.{effect}
use Rattle.timed_meaning.specs.declared.TimedOp.{TimedOp}
use Rattle.timed_meaning.specs.declared.Answer.{Answer}
use Rattle.timed_meaning.specs.declared.Answer.TheVariants.{GoOn, GoTo, Stop}
use Rattle.timed_meaning.specs.Values.{State, is_set, bit, value_at, value_after, memory_after}

-- what a block begins with: the state, the run's input, the entry of the next row and the output limit
pub record Start : Type 0 where
  pub state : State
  pub input : List ℕ
  pub next : Option ℕ
  pub limit : ℕ

-- how many operations have issued, and what they have done. The writes have the latest listed first
pub record Progress : Type 0 where
  pub count : ℕ
  pub writes : List Write
  pub output : List ℕ
  pub position : ℕ
  pub answer : Answer

-- nothing has issued
abbrev pub fresh : State → Progress
fresh s = record { count = 0; writes = []; output = s.output; position = s.position; answer = GoOn }

-- what one operation adds: values of cells, output bytes, how many input bytes it takes, the branch's answer, or a trap
pub record Act : Type 0 where
  pub values : List (Cell × ℕ)
  pub put : List ℕ
  pub taken : ℕ
  pub answer : Option Answer
  pub trap : Option Trap

-- nothing
abbrev pub idle : Act
idle = record { values = []; put = []; taken = 0; answer = None; trap = None }

-- the value of a numbered place, and 0 where the operation has no such operand
abbrev pub operand : (ℕ → Place) → (Cell → ℕ) → Option ℕ → ℕ
operand place value None = 0
operand place value (Some n) = value (At (place n))

-- the guard and the operands, by the values at the issue
abbrev pub operands : Guarded → (Cell → ℕ) → ℕ → Bool → Operands
operands g value memory full =
    record {
      guard = is_set (value (At (Predicate g.guard)));
      first = operand General value (sources g.op).first;
      second = operand General value (sources g.op).second;
      target = operand Target value (sources g.op).target;
      test = is_set (operand Predicate value (sources g.op).test);
      memory = memory;
      full = full;
    }

-- a value of a place; r0 and p0 take none
abbrev pub to_place : Place → ℕ → List (Cell × ℕ)
to_place x v = if is_constant x then [] else ((At x, v) ∷ [])

-- what a compare's action writes, or nothing
abbrev pub to_predicate : ℕ → Option Bool → List (Cell × ℕ)
to_predicate p None = []
to_predicate p (Some b) = to_place (Predicate p) (bit b)

-- a compare's values, that of the second destination first
abbrev pub to_predicates : Op → Option Bool → Option Bool → List (Cell × ℕ)
to_predicates (op.Cmp test a b s t) x y = to_predicate b.p y ++ to_predicate a.p x
to_predicates (op.CmpImm test a b s imm) x y = to_predicate b.p y ++ to_predicate a.p x
to_predicates _ x y = []

-- the number in some bytes of memory, the lowest byte first
abbrev pub number_at : (Cell → ℕ) → ℕ → ℕ → ℕ
number_at value address zero = 0
number_at value address (suc n) = value (Byte address) % 256 + 256 * number_at value (address + 1) n

-- the low bytes of a number, from an address on
abbrev pub bytes_at : ℕ → ℕ → ℕ → List (Cell × ℕ)
bytes_at address zero v = []
bytes_at address (suc n) v = (Byte address, v % 256) ∷ bytes_at (address + 1) n (v / 256)

-- the next input byte, and all ones at the end
abbrev pub input_or_ones : Option ℕ → ℕ
input_or_ones (Some b) = b
input_or_ones None = 0xffff_ffff

-- how many input bytes that takes
abbrev pub how_many : Option ℕ → ℕ
how_many (Some b) = 1
how_many None = 0

-- the entry of the next row, and 0 where there is none
abbrev pub entry_or_zero : Option ℕ → ℕ
entry_or_zero (Some n) = n
entry_or_zero None = 0

-- what an effect adds, by the memory at the issue, the next input byte and the next row
abbrev pub act_of : Op → (Cell → ℕ) → Option ℕ → Option ℕ → Effect → Act
act_of o value byte next effects.Nothing = idle
act_of o value byte next (effects.General d v) = record idle { values = to_place (General d) v }
act_of o value byte next (effects.Predicates x y) = record idle { values = to_predicates o x y }
act_of o value byte next (effects.Target d v) = record idle { values = to_place (Target d) v }
act_of o value byte next (effects.Load d address size) =
    record idle { values = to_place (General d) (extended size (number_at value address (bytes_of size))) }
act_of o value byte next (effects.Store address size v) = record idle { values = bytes_at address (bytes_of size) v }
act_of o value byte next (effects.Take d) =
    record idle { values = to_place (General d) (input_or_ones byte); taken = how_many byte }
act_of o value byte next (effects.Put v) = record idle { put = v ∷ [] }
act_of o value byte next (effects.Trapped t) = record idle { trap = Some t }
act_of o value byte next (effects.Jump t) = record idle { answer = Some (GoTo t) }
act_of o value byte next (effects.Link d t) =
    record idle { values = to_place (Target d) (entry_or_zero next); answer = Some (GoTo t) }
act_of o value byte next (effects.Halt code) = record idle { answer = Some (Stop code) }

-- what an operation does when it issues
abbrev pub act : Start → TimedOp → Progress → Act
act c k p =
    let value = value_at c.state p.writes k.at in
    act_of k.guarded.op value (slice_get c.input p.position) c.next
    (effect k.guarded (operands k.guarded value (length c.state.memory) (nat_le c.limit (length p.output))))

-- the values as writes that land together
abbrev pub landing : ℕ → List (Cell × ℕ) → List Write
landing t vs = map (λ v. record { cell = v.0; value = v.1; lands = t }) vs

-- an operation's answer, or else the one before
abbrev pub answered : Answer → Option Answer → Answer
answered old None = old
answered old (Some new) = new

-- what has been done when an operation has issued
abbrev pub issued : TimedOp → Act → Progress → Progress
issued k a p =
    record {
      count = p.count + 1;
      writes = landing (k.at + k.latency) a.values ++ p.writes;
      output = p.output ++ a.put;
      position = p.position + a.taken;
      answer = answered p.answer a.answer;
    }

-- how the operations of a list end: all have issued, or the next one traps
pub data Ran : Type 0 where
  Through : Progress → Ran
  Stopped : Trap → Progress → Ran

-- the operations in list order, up to the first trap
abbrev pub run : Start → List TimedOp → Progress → Ran
run c [] p = Through p
run c (k ∷ ks) p =
    let a = act c k p in
    elim a.trap [ None ↦ run c ks (issued k a p) | Some t ↦ Stopped t p ]

-- the state when all writes have landed
abbrev pub state_after : State → Progress → State
state_after s p =
    record {
      general = map (λ n. value_after s p.writes (At (General n))) (range_with_len 0 32);
      predicates = map (λ n. is_set (value_after s p.writes (At (Predicate n)))) (range_with_len 0 32);
      targets = map (λ n. value_after s p.writes (At (Target n))) (range_with_len 0 8);
      memory = memory_after s p.writes;
      output = p.output;
      position = p.position;
    }

-- how a block ends: with a state and an answer, or at a trap with its operation's number, the output and the memory
pub data Ending : Type 0 where
  Ended : State → Answer → Ending
  Trapped : Trap → ℕ → List ℕ → List ℕ → Ending

-- all writes land, also at a trap
abbrev pub ending : State → Ran → Ending
ending s (Through p) = Ended (state_after s p) p.answer
ending s (Stopped t p) = Trapped t p.count p.output (memory_after s p.writes)

-- what a block does: its operations, from nothing done
abbrev pub block : Start → List TimedOp → Ending
block c ks = ending c.state (run c ks (fresh c.state))

-- the operations of a second list, after those of a first
abbrev pub then_run : Start → Ran → List TimedOp → Ran
then_run c (Through p) ks = run c ks p
then_run c (Stopped t p) ks = Stopped t p

-- a list may be run in two parts
abbrev pub RunsInParts : Type 0
RunsInParts = (c : Start) (ks ls : List TimedOp) (p : Progress) → run c (ks ++ ls) p ≡ then_run c (run c ks p) ls
