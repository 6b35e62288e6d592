-- The example's image as t2.
use Rattle.std.proofs.Common.{◌≡◌, ◌≢◌, ℕ, zero, suc, ◌<◌, [], ◌∷◌, length, refl, sym, ap, inl, inr, arith}
use Rattle.std.specs.Prelude.{slice_index, replicate, All, IsFalse}
use Rattle.std.proofs.lemmas.List.Elements.{All-replicate}
use Rattle.machine_desc.specs.Description.{Description}
use Rattle.machine_desc.specs.BuiltIn.{t2}
use Rattle.block_table.specs.Padding.{is_in_block}
use Rattle.serial_order.specs.Lists.{Among}
use Rattle.list_sched.specs.Laws.{IsUsed}
use Rattle.image_check.specs.Blocks.{rows_of, block_of}
use Rattle.page_resched.specs.Form.{IsFormOf, AreInForm}
use Rattle.image_resched.specs.Rescheduled.{AreWordsInForm, IsRescheduled, words_at}
use Rattle.context_system.specs.Example.{image, image_in_t2}
use Rattle.context_system.proofs.ExampleSchedule.{planned, listed, scheduled, listing}

used_1 : IsUsed planned 1
used_1 = (1, inr (inl refl), refl)

first_form : IsFormOf planned [] 0 0x8008_8020_0000_0041 0x8008_8020_0000_0041
first_form = record {
  alike = record { unit = refl; operation = refl };
  word = omega arith;
  head = ((λ h i b. absurd b), (λ h. refl));
  pause = λ h. record { holds = (omega arith, inl used_1); least = λ m later. let after = later.0 in omega arith };
  no_pause = λ h. refl;
}

second_form : IsFormOf planned (0 ∷ []) 2 0xA02A_0000_0000_0000 0x202A_0000_0000_0000
second_form = record {
  alike = record { unit = refl; operation = refl };
  word = omega arith;
  head = ((λ h. absurd (let none : ⊥ = cc in none)), (λ h. absurd (h 0 (inl refl) refl)));
  pause = λ h. absurd (let none : ⊥ = cc in none);
  no_pause = λ h. refl;
}

third_form : IsFormOf planned (2 ∷ (0 ∷ [])) 1 0x901C_8001_0000_0000 0x901C_8001_0000_0000
third_form = record {
  alike = record { unit = refl; operation = refl };
  word = omega arith;
  head = ((λ h. apart), (λ h. refl));
  pause = λ h. record { holds = (omega arith, inr refl); least = λ m later. let after = later.0 in omega arith };
  no_pause = λ h. refl;
}
  where
    apart : (i : ℕ) → Among i (2 ∷ (0 ∷ [])) → planned.cycle i ≢ 1
    apart i (inl e) h = let a : planned.cycle i ≡ 0 = ap planned.cycle (sym e) in absurd (omega arith)
    apart i (inr (inl e)) h = let a : planned.cycle i ≡ 0 = ap planned.cycle (sym e) in absurd (omega arith)
    apart i (inr (inr b)) h = absurd b

in_form : AreInForm t2 (block_of image 0) (words_at (rows_of image) image_in_t2.words 0)
in_form = record { schedule = planned; listed = listed; scheduled = scheduled; listing = listing; forms = (first_form, (second_form, (third_form, tt))) }

in_words : AreWordsInForm image t2 image_in_t2.words
in_words = record { as_many = refl; blocks = blocks; padding = padding }
  where
    blocks : (k : ℕ) → k < length image.rows → AreInForm t2 (block_of image k) (words_at (rows_of image) image_in_t2.words k)
    blocks zero below = in_form
    blocks (suc k) below = absurd (omega arith)

    zeros : All (λ (w : ℕ). w ≡ 0) (replicate 509 0)
    zeros = All-replicate (λ (w : ℕ). w ≡ 0) 509 0 refl

    many : length {A = ℕ} (replicate 509 0) ≡ 509
    many = refl

    padding : (a : ℕ) → a < length image_in_t2.words → IsFalse (is_in_block (rows_of image) a) → slice_index image_in_t2.words a ≡ 0
    padding zero below out = absurd (let none : ⊥ = cc in none)
    padding (suc zero) below out = absurd (let none : ⊥ = cc in none)
    padding (suc (suc zero)) below out = absurd (let none : ⊥ = cc in none)
    padding (suc (suc (suc a))) below out = let n = many in zeros a 0 (omega arith)

pub rescheduled : IsRescheduled image t2 image_in_t2
rescheduled = record {
  same = λ h. let none : 2 ≡ 4 = ap (λ (d : Description). d.width) h in absurd (omega arith);
  other = λ ne. (image_in_t2.words, in_words, refl);
}
