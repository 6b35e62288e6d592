-- Contexts as they are given are setups that a core can open.
use Rattle.std.proofs.Common.{◌≡◌, zero, suc, List, [], ◌∷◌, length, map, refl, sym, ap, subst, ◌∙◌, arith}
use Rattle.std.specs.Prelude.{All}
use Rattle.std.proofs.lemmas.List.{length-map}
use Rattle.machine_desc.specs.Value.{description_of}
use Rattle.image_format.specs.Image.{page_count}
use Rattle.image_resched.specs.Laws.{IsMovable, Forms, AreForms}
use Rattle.page_fault.specs.declared.Loaded.{Loaded}
use Rattle.context_system.specs.Meant.{IsReady}
use Rattle.contexts.specs.declared.Setup.{Setup as Given}
use Rattle.contexts.specs.Core.{Contexts, Runs, AreSetups, run_of}
use Rattle.event_script.specs.declared.reading.Line.{Line}
use Rattle.event_script.specs.Script.{IsFor}
use Rattle.tinker_words.specs.declared.settings.Number.TheVariants.{Bound}
use Rattle.tinker_words.specs.Settings.{Settings, number}
use Rattle.run_report.specs.Run.{runs_as}
use Rattle.run_report.specs.Seats.{AreFor}
use Rattle.run_report.specs.Setups.{HasBound, as_given, page_counts}

rest : {X : Type 0} (P : X → Type 0) (x : X) (xs : List X) → All P (x ∷ xs) → All P xs
rest P x xs h = λ k d lt. h (suc k) d (omega arith)

module _ (forms : Forms) (are : AreForms forms) where
  pub setups_are : (setups : List Given) → All (λ s. IsMovable s.image (description_of s.chosen)) setups → AreSetups setups (map (as_given forms) setups)
  setups_are [] h = tt
  setups_are (x ∷ xs) h = (
    record { image = refl; generation = refl; formed = are x.image (description_of x.chosen) (h 0 x (omega arith)); input = refl; limit = refl; bound = refl },
    setups_are xs (rest (λ (s : Given). IsMovable s.image (description_of s.chosen)) x xs h),
  )

  pub all_ready : (s : Settings) (setups : List Given) → All (λ s. IsMovable s.image (description_of s.chosen)) setups → All (HasBound s) setups →
      All IsReady (map (as_given forms) setups)
  all_ready s [] h b k d lt = absurd (omega arith)
  all_ready s (x ∷ xs) h b zero d lt =
      let movable = h 0 x (omega arith) in
      record { movable = movable; formed = are x.image (description_of x.chosen) movable; bound = let l = (b 0 x (omega arith)).some in omega arith }
  all_ready s (x ∷ xs) h b (suc k) d lt =
      all_ready s xs (rest (λ (s : Given). IsMovable s.image (description_of s.chosen)) x xs h) (rest (HasBound s) x xs b) k d (omega arith)

pub bounds_are : (forms : Forms) (s : Settings) (setups : List Given) → All (HasBound s) setups → All (λ x. x.bound ≡ number s Bound) (map (as_given forms) setups)
bounds_are forms s [] b k d lt = absurd (omega arith)
bounds_are forms s (x ∷ xs) b zero d lt = (b 0 x (omega arith)).same
bounds_are forms s (x ∷ xs) b (suc k) d lt = bounds_are forms s xs (rest (HasBound s) x xs b) k d (omega arith)

pub runs_are : (forms : Forms) (setups : List Given) → map runs_as (map (as_given forms) setups) ≡ map run_of setups
runs_are forms [] = refl
runs_are forms (x ∷ xs) = ap (λ l. run_of x ∷ l) (runs_are forms xs)

-- ---- the lines of their script

images_of : (ps : List Loaded) → map (λ (p : Loaded). page_count p.image) ps ≡ map page_count (map (λ (p : Loaded). p.image) ps)
images_of [] = refl
images_of (p ∷ ps) = ap (λ l. page_count p.image ∷ l) (images_of ps)

counts_are : (setups : List Given) → map page_count (map (λ (s : Given). s.image) setups) ≡ page_counts setups
counts_are [] = refl
counts_are (x ∷ xs) = ap (λ l. page_count x.image ∷ l) (counts_are xs)

pub lines_are_for : (setups : List Given) (core : Contexts) (lines : List Line) → Runs setups core → All (IsFor (page_counts setups)) lines → AreFor core lines
lines_are_for setups core lines runs all =
    let images : map (λ (p : Loaded). page_count p.image) core.loading.programs ≡ page_counts setups =
    images_of core.loading.programs ∙ ap (map page_count) runs.images ∙ counts_are setups in (
      sym (length-map core.loading.programs (λ (p : Loaded). p.image)) ∙ ap length runs.images ∙ length-map setups (λ (s : Given). s.image) ∙ sym runs.contexts,
      subst (λ pages. All (IsFor pages) lines) (sym images) all,
    )
