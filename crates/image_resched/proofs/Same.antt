-- The program of an image in another generation means the same, and its blocks have the same relation.
use Rattle.std.proofs.Common.{◌≡◌, ℕ, zero, suc, ◌+◌, ◌<◌, ◌≤◌, List, length, get_or, map, refl, sym, subst, arith}
use Rattle.std.specs.List.{AllZip, range_with_len}
use Rattle.operation.specs.declared.Guarded.{Guarded}
use Rattle.operation.specs.Places.{unit_kind}
use Rattle.machine_desc.specs.Description.{Description, units_of}
use Rattle.timed_meaning.specs.Program.{mean, after}
use Rattle.latency_deps.proofs.GoodOrders.{good_is_ordered}
use Rattle.image_format.specs.Image.{Image}
use Rattle.image_check.specs.Blocks.{words_of, block_of, timed_block, program_in}
use Rattle.image_check.specs.Laws.{IsInAnotherTiming, IsInOtherTimings}
use Rattle.image_check.proofs.OtherTimings.{programs_in_other_timings}
use Rattle.image_check.proofs.KeptBlocks.{good}
use Rattle.page_resched.specs.Block.{timing_in}
use Rattle.page_resched.proofs.Agreeing.{schedules_agree}
use Rattle.page_resched.proofs.Words.{forms_are_scheduled}
use Rattle.page_resched.proofs.Accepted.{forms_keep_before}
use Rattle.image_check.specs.Units.{HasUnits}
use Rattle.image_resched.specs.Rescheduled.{AreWordsInForm, with_words}
use Rattle.image_resched.specs.Laws.{IsMovable, IsSameRelation, RescheduledMeansTheSame, RescheduledKeepsBefore, RescheduledMovesOn}
use Rattle.image_resched.proofs.Moved.{movable, in_form}
use Rattle.image_resched.proofs.Accepted.{by_cases, rescheduled_is_accepted}

-- ---- the meaning

module _ (image : Image) (g : Description) (words : List ℕ) (m : IsMovable image g) (f : AreWordsInForm image g words) where
  abbrev new : Image
  new = with_words image g words

  in_another : (k : ℕ) → k < length image.rows → IsInAnotherTiming image k (timed_block new k)
  in_another k lt =
      let b = block_of image k in
      let move = movable image g words m f k lt in
      let form = in_form image g words m f k lt in
      let o = good_is_ordered b (good image m.accepted k lt) in
      record {
        entry = refl;
        next = refl;
        order = o.0;
        serial = o.1;
        timing = timing_in g form.schedule form.listed;
        agrees = schedules_agree b g (words_of new k) move form o.0 o.1;
        ops = forms_are_scheduled b g (words_of new k) move form;
      }

  all_others : (a n : ℕ) → a + n ≤ length image.rows → AllZip (IsInAnotherTiming image) (range_with_len a n) (map (timed_block new) (range_with_len a n))
  all_others a zero fits = tt
  all_others a (suc n) fits = (in_another a (omega arith), all_others (a + 1) n (omega arith))

  others : IsInOtherTimings image (program_in new)
  others = record { entry = refl; memory = refl; init = refl; blocks = all_others 0 (length image.rows) (omega arith) }

  pub same_meaning : (input : List ℕ) (limit n : ℕ) →
      (mean (program_in image) input limit n ≡ mean (program_in new) input limit n)
      × (after (program_in image) input limit n ≡ after (program_in new) input limit n)
  same_meaning = programs_in_other_timings image m.accepted (program_in new) others

  same_relation : (k : ℕ) → k < length image.rows → IsSameRelation image new k
  same_relation k lt =
      let same = forms_keep_before (block_of image k) g (words_of new k) (movable image g words m f k lt) (in_form image g words m f k lt) in
      record { number = λ i. get_or (in_form image g words m f k lt).listed i 0; inside = same.inside; each = same.each; same = same.same; before = same.before }

own_relation : (image : Image) (k : ℕ) → IsSameRelation image image k
own_relation image k = record {
  number = λ m. m;
  inside = λ m lt. lt;
  each = λ i lt. (i, lt, refl);
  same = λ m lt. refl;
  before = λ m j lt below. refl;
}

pub rescheduled_means_the_same : RescheduledMeansTheSame
rescheduled_means_the_same image g new m r =
    by_cases
    (λ (i : Image). (input : List ℕ) (limit n : ℕ) →
    (mean (program_in image) input limit n ≡ mean (program_in i) input limit n) × (after (program_in image) input limit n ≡ after (program_in i) input limit n))
    image g new r (λ input limit n. (refl, refl)) (λ words f. same_meaning image g words m f)

pub rescheduled_keeps_before : RescheduledKeepsBefore
rescheduled_keeps_before image g new m r =
    by_cases (λ (i : Image). (length i.rows ≡ length image.rows) × ((k : ℕ) → k < length image.rows → IsSameRelation image i k))
    image g new r (refl, λ k lt. own_relation image k) (λ words f. (refl, λ k lt. same_relation image g words m f k lt))

-- the operations of the image in another generation need the same units
units_on : (image : Image) (h : Description) (new : Image) → HasUnits image h → (length new.rows ≡ length image.rows) × ((k : ℕ) → k < length image.rows → IsSameRelation image new k) → HasUnits new h
units_on image h new has r k lt j below =
    let n = r.0 in
    let here : k < length image.rows = omega arith in
    let same = r.1 k here in
    subst (λ (o : Guarded). 0 < units_of h (unit_kind o.op)) (sym (same.same j below)) (has k here (same.number j) (same.inside j below))

pub rescheduled_moves_on : RescheduledMovesOn
rescheduled_moves_on image g h new m to r = record {
  accepted = rescheduled_is_accepted image g new m r;
  machine = to.machine;
  units = units_on image h new to.units (rescheduled_keeps_before image g new m r);
}
