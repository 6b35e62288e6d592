-- The parts of a compare's tail.
use Rattle.std.proofs.Common.{◌≡◌, ℕ, ◌+◌, ◌*◌, ◌^◌, ◌<◌, suc, zero, refl, arith}
use Rattle.std.specs.Prelude.{ℤ, pos, negsuc}
use Rattle.std.specs.Int.{cast_signed, w16}
use Rattle.std.proofs.lemmas.Bool.Decides.{nat_tests}
use Rattle.operation.specs.declared.Action.{Action}
use Rattle.operation.specs.declared.Action.TheVariants.{Un, Uc, On, Oc, An, Ac}
use Rattle.list_encoding.specs.Bits.{bits}
use Rattle.list_encoding.specs.Fields.{action_number, sixteen_bits}
use Rattle.list_encoding.specs.Operands.{action_at}

-- a tail of these parts
abbrev pub tail_of : (second p first other : ℕ) → ℕ
tail_of second p first other = second * 2 ^ 16 + p * 2 ^ 11 + first * 2 ^ 8 + other * 2 ^ 5

-- a tail's parts are those that it was made of
pub record Parts (second p first other tail : ℕ) : Type 0 where
  pub second_is : bits 16 16 tail ≡ second
  pub p_is : bits 11 5 tail ≡ p
  pub first_is : bits 8 3 tail ≡ first
  pub other_is : bits 5 3 tail ≡ other
  pub low : bits 0 5 tail ≡ 0

pub parts : (second p first other : ℕ) → second < 2 ^ 16 → p < 32 → first < 8 → other < 8 →
    Parts second p first other (tail_of second p first other)
parts second p first other a b c d = record {
  second_is = omega arith;
  p_is = omega arith;
  first_is = omega arith;
  other_is = omega arith;
  low = omega arith;
}

-- a tail is made of its parts
pub of_parts : (tail : ℕ) → tail < 2 ^ 32 → bits 0 5 tail ≡ 0 →
    tail_of (bits 16 16 tail) (bits 11 5 tail) (bits 8 3 tail) (bits 5 3 tail) ≡ tail
of_parts tail few low = omega arith

pub action_below : (a : Action) → action_number a < 6
action_below Un = omega arith
action_below Uc = omega arith
action_below On = omega arith
action_below Oc = omega arith
action_below An = omega arith
action_below Ac = omega arith

pub action_of_number : (a : Action) → action_at (action_number a) ≡ a
action_of_number Un = refl
action_of_number Uc = refl
action_of_number On = refl
action_of_number Oc = refl
action_of_number An = refl
action_of_number Ac = refl

pub number_of_action : (n : ℕ) → n < 6 → action_number (action_at n) ≡ n
number_of_action zero h = refl
number_of_action (suc zero) h = refl
number_of_action (suc (suc zero)) h = refl
number_of_action (suc (suc (suc zero))) h = refl
number_of_action (suc (suc (suc (suc zero)))) h = refl
number_of_action (suc (suc (suc (suc (suc n))))) h = omega arith

-- sixteen bits as a signed number, and back
pub bits_of_signed : (n : ℕ) → n < 2 ^ 16 → sixteen_bits (cast_signed w16 n) ≡ n
bits_of_signed n h = grind (arith, nat_tests)

signed_pos : (n : ℕ) → sixteen_bits (pos n) < 2 ^ 16 → cast_signed w16 (sixteen_bits (pos n)) ≡ pos n
signed_pos n h = grind (arith, nat_tests)

signed_negsuc : (n : ℕ) → sixteen_bits (negsuc n) < 2 ^ 16 → cast_signed w16 (sixteen_bits (negsuc n)) ≡ negsuc n
signed_negsuc n h = grind (arith, nat_tests)

-- a signed number as sixteen bits, and back
pub signed_of_bits : (z : ℤ) → sixteen_bits z < 2 ^ 16 → cast_signed w16 (sixteen_bits z) ≡ z
signed_of_bits (pos n) h = signed_pos n h
signed_of_bits (negsuc n) h = signed_negsuc n h
