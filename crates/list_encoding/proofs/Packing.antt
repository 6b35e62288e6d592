-- The fields of a word that is put together from them.
use Rattle.std.proofs.Common.{◌≡◌, ℕ, ◌+◌, ◌*◌, ◌^◌, ◌<◌, Bool, true, false, ap, subst, arith}
use Rattle.std.specs.Prelude.{nat_eq}
use Rattle.list_encoding.specs.declared.fields.Fields.{Fields}
use Rattle.list_encoding.specs.declared.Coded.{Coded}
use Rattle.list_encoding.specs.Opcodes.{opcode_of}
use Rattle.list_encoding.specs.Fields.{fields_of}
use Rattle.list_encoding.specs.Word.{HasFields, HasReading}
use Rattle.list_encoding.specs.Bits.{bits}
use Rattle.list_encoding.specs.Written.{mark, word_of}

-- the sum of eight fields at their places
abbrev packed : (head unit pause opcode guard d s tail : ℕ) → ℕ
packed head unit pause opcode guard d s tail =
    head * 2 ^ 63 + unit * 2 ^ 59 + pause * 2 ^ 54 + opcode * 2 ^ 47 + guard * 2 ^ 42 + d * 2 ^ 37 + s * 2 ^ 32 + tail

pub record Unpacked (word head unit pause opcode guard d s tail : ℕ) : Type 0 where
  pub head_is : bits 63 1 word ≡ head
  pub unit_is : bits 59 4 word ≡ unit
  pub pause_is : bits 54 5 word ≡ pause
  pub opcode_is : bits 47 7 word ≡ opcode
  pub guard_is : bits 42 5 word ≡ guard
  pub d_is : bits 37 5 word ≡ d
  pub s_is : bits 32 5 word ≡ s
  pub tail_is : bits 0 32 word ≡ tail

pub unpacked : (head unit pause opcode guard d s tail : ℕ) → head < 2 → unit < 16 → pause < 32 → opcode < 128 → guard < 32 → d < 32 → s < 32 → tail < 2 ^ 32 →
    Unpacked (packed head unit pause opcode guard d s tail) head unit pause opcode guard d s tail
unpacked head unit pause opcode guard d s tail p q r t u v w x = record {
  head_is = omega arith;
  unit_is = omega arith;
  pause_is = omega arith;
  opcode_is = omega arith;
  guard_is = omega arith;
  d_is = omega arith;
  s_is = omega arith;
  tail_is = omega arith;
}

marked : (b : Bool) (n : ℕ) → n ≡ mark b → nat_eq n 1 ≡ b
marked true n h = ap (λ k. nat_eq k 1) h
marked false n h = ap (λ k. nat_eq k 1) h

mark_below : (b : Bool) → mark b < 2
mark_below true = omega arith
mark_below false = omega arith

-- fields that fit their places
pub record Fit (f : Fields) : Type 0 where
  pub opcode : opcode_of f.mnemonic < 128
  pub d : f.d < 32
  pub s : f.s < 32
  pub tail : f.tail < 2 ^ 32

-- the word of a reading's fields has the reading
pub packed_reading : (c : Coded) (f : Fields) → f ≡ fields_of c.guarded.op → c.guarded.guard < 32 → Fit f →
    HasReading (word_of c.head c.unit c.pause c.guarded.guard f) c
packed_reading c f same guard fit =
    let u = unpacked (mark c.head) c.unit c.pause (opcode_of f.mnemonic) c.guarded.guard f.d f.s f.tail (mark_below c.head) c.unit_in_range c.pause_in_range fit.opcode guard fit.d fit.s fit.tail in
    let word = word_of c.head c.unit c.pause c.guarded.guard f in
    let fields : HasFields word f = record { opcode = u.opcode_is; d = u.d_is; s = u.s_is; tail = u.tail_is } in
    record {
      head = marked c.head (bits 63 1 word) u.head_is;
      unit = u.unit_is;
      pause = u.pause_is;
      guard = u.guard_is;
      fields = subst (HasFields word) same fields;
    }
