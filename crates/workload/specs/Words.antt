-- The words of operations that issue one by one under t1.
use Rattle.std.specs.Prelude.{ℕ, ◌-◌, ◌*◌, true, List, map}
use Rattle.std.specs.List.{range_with_len}
use Rattle.operation.specs.declared.Op.{Op}
use Rattle.operation.specs.Places.{unit_kind, unit_number, latency_kind}
use Rattle.machine_desc.specs.Description.{latency_of}
use Rattle.machine_desc.specs.BuiltIn.{t1}
use Rattle.list_encoding.specs.Fields.{fields_of}
use Rattle.list_encoding.specs.Written.{word_of}
use Rattle.workload.specs.Draws.{after}
use Rattle.workload.specs.Operations.{drawn_operation, drawn_guard}

-- an operation that is a MultiOp of its own, and has landed when the next one issues: it pauses for its latency minus one
unfoldable pub serial_word : (guard : ℕ) → Op → ℕ
serial_word guard o = word_of true (unit_number (unit_kind o)) (latency_of t1 (latency_kind o) - 1) guard (fields_of o)

-- the word of the operation that is drawn from a state on
abbrev pub drawn_word : ℕ → ℕ
drawn_word x = serial_word (drawn_guard x) (drawn_operation x)

-- so many of them, one after another
abbrev pub drawn_words : (n x : ℕ) → List ℕ
drawn_words n x = map (λ k. drawn_word (after (5 * k) x)) (range_with_len 0 n)
