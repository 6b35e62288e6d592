-- The reading of a serial word.
use Rattle.std.proofs.Common.{◌≡◌, ℕ, ◌-◌, ◌^◌, ◌<◌, ◌≤◌, true, subst, refl, ap, ◌∙◌, arith}
use Rattle.std.proofs.lemmas.Bool.{and_parts, leb-true, eqb-true}
use Rattle.operation.specs.declared.Op.{Op}
use Rattle.operation.specs.declared.Guarded.{Guarded}
use Rattle.operation.specs.Places.{unit_kind, unit_number, latency_kind}
use Rattle.operation.specs.Ranges.{is_register, is_op_in_range}
use Rattle.machine_desc.specs.Description.{latency_of}
use Rattle.machine_desc.specs.BuiltIn.{t1}
use Rattle.machine_desc.specs.BuiltInRanges.{t1_in_range}
use Rattle.machine_desc.specs.Ranges.{unit_below}
use Rattle.list_encoding.specs.declared.fields.Fields.{Fields}
use Rattle.list_encoding.specs.declared.Coded.{Coded}
use Rattle.list_encoding.specs.Bits.{bits}
use Rattle.list_encoding.specs.Opcodes.{opcode_of}
use Rattle.list_encoding.specs.Fields.{fields_of}
use Rattle.list_encoding.specs.Word.{HasReading}
use Rattle.list_encoding.proofs.Packing.{Fit, packed_reading}
use Rattle.workload.specs.Words.{serial_word}

-- the latencies of t1 are 1 to 32
pub latency_range : (o : Op) → (1 ≤ latency_of t1 (latency_kind o)) × (latency_of t1 (latency_kind o) ≤ 32)
latency_range o = t1_in_range.latency (latency_kind o)

-- an operation as a MultiOp of its own, that has landed when the next one issues
abbrev pub serial : Guarded → Coded
serial g = record {
  head = true;
  unit = unit_number (unit_kind g.op);
  pause = latency_of t1 (latency_kind g.op) - 1;
  guarded = g;
  unit_in_range = (let u = unit_below (unit_kind g.op) in omega arith);
  pause_in_range = (let l = latency_range g.op in omega arith);
}

guard_below : (g : Guarded) → g.guard < 32
guard_below g =
    let p = and_parts (is_register g.guard) (is_op_in_range g.op) g.in_range in
    let q = leb-true g.guard 31 p.0 in omega arith

-- its word has that reading
pub reads : (g : Guarded) → Fit (fields_of g.op) → HasReading (serial_word g.guard g.op) (serial g)
unfolding serial_word
reads g fit =
    packed_reading (serial g) (fields_of g.op) refl (guard_below g) fit

-- and is a word
pub is_word : (g : Guarded) → Fit (fields_of g.op) → serial_word g.guard g.op < 2 ^ 64
unfolding serial_word
is_word g fit =
    let f = fields_of g.op in
    let u = unit_below (unit_kind g.op) in
    let l = latency_range g.op in
    let b = guard_below g in
    let opcode = fit.opcode in
    let d = fit.d in
    let s = fit.s in
    let tail = fit.tail in
    omega arith
