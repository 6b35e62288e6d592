-- The example's image is accepted, and t2 has its units.
use Rattle.std.proofs.Common.{◌≡◌, ℕ, zero, suc, ◌<◌, [], ◌∷◌, refl, None, arith}
use Rattle.std.specs.Prelude.{◌^◌, replicate}
use Rattle.std.proofs.lemmas.List.Elements.{All-nil, All-cons, All-replicate}
use Rattle.machine_desc.specs.BuiltIn.{t1, t2}
use Rattle.machine_desc.specs.BuiltInRanges.{t1_in_range, t2_in_range}
use Rattle.list_encoding.specs.Reading.{guarded_in, mnemonic_at}
use Rattle.serial_order.specs.SerialOrder.{is_stuck}
use Rattle.serial_order.specs.Lists.{sublists}
use Rattle.image_format.specs.Laws.{IsImage, IsRow}
use Rattle.image_check.specs.Accepted.{IsAccepted}
use Rattle.image_check.specs.Rules.{broken_part}
use Rattle.image_check.specs.Units.{HasUnits}
use Rattle.image_resched.specs.Rescheduled.{IsRescheduled}
use Rattle.context_system.specs.Example.{image, PremisesCanBeMet}
use Rattle.context_system.proofs.ExampleForm.{rescheduled}

kept : broken_part image ≡ None
unfolding guarded_in mnemonic_at is_stuck sublists
kept = refl

abbrev IsWord : ℕ → Type 0
IsWord w = w < 2 ^ 64

written : IsImage image
written = record {
  limits = record {
    words = refl;
    pages = (omega arith, omega arith);
    blocks = (omega arith, omega arith);
    memory = omega arith;
    init = omega arith;
  };
  description = t1_in_range;
  entry = omega arith;
  ranges = record {
    rows = All-cons IsRow (record { entry = 0; count = 3 }) [] (omega arith, omega arith) (All-nil IsRow);
    words = All-cons IsWord 0x8008_8020_0000_0041 (0x901C_8001_0000_0000 ∷ (0xA02A_0000_0000_0000 ∷ replicate 509 0)) (omega arith)
        (All-cons IsWord 0x901C_8001_0000_0000 (0xA02A_0000_0000_0000 ∷ replicate 509 0) (omega arith)
        (All-cons IsWord 0xA02A_0000_0000_0000 (replicate 509 0) (omega arith) (All-replicate IsWord 509 0 (omega arith))));
  };
}

units_1 : HasUnits image t1
unfolding guarded_in mnemonic_at
units_1 zero below zero inside = omega arith
units_1 zero below (suc zero) inside = omega arith
units_1 zero below (suc (suc zero)) inside = omega arith
units_1 zero below (suc (suc (suc i))) inside = absurd (omega arith)
units_1 (suc k) below i inside = absurd (omega arith)

units_2 : HasUnits image t2
unfolding guarded_in mnemonic_at
units_2 zero below zero inside = omega arith
units_2 zero below (suc zero) inside = omega arith
units_2 zero below (suc (suc zero)) inside = omega arith
units_2 zero below (suc (suc (suc i))) inside = absurd (omega arith)
units_2 (suc k) below i inside = absurd (omega arith)

accepted : IsAccepted image
accepted = record { written = written; kept = kept }

-- in its own generation the image is itself
at_home : IsRescheduled image t1 image
at_home = record { same = λ h. refl; other = λ ne. absurd (ne refl) }

pub premises_can_be_met : PremisesCanBeMet
premises_can_be_met = record {
  own = record { movable = record { accepted = accepted; machine = t1_in_range; units = units_1 }; formed = at_home; bound = omega arith };
  other = record { movable = record { accepted = accepted; machine = t2_in_range; units = units_2 }; formed = rescheduled; bound = omega arith };
}
