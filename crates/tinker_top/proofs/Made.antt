-- A generated image runs as each of the generations that are built in.
use Rattle.std.proofs.Common.{◌≡◌, ◌<◌, ℕ, zero, suc, Bool, true, false, cond, ◌&&◌, [], ◌∷◌, map, Vec, Global, Option, Some, None, Result, Ok, Err, refl, sym, ap, ◌∙◌, arith}
use Rattle.std.specs.Prelude.{All}
use Rattle.std.proofs.lemmas.Bool.{ne_eqb}
use Rattle.operation.specs.declared.UnitKind.{UnitKind}
use Rattle.operation.specs.declared.UnitKind.TheVariants as unit
use Rattle.machine_desc.specs.Description.{Description, units_of}
use Rattle.machine_desc.specs.BuiltIn.{t1, t2, t3}
use Rattle.image_format.specs.Image.{Image}
use Rattle.image_check.specs.Units.{uses, lacks, first_lacking}
use Rattle.image_resched.specs.Laws.{Forms}
use Rattle.context_system.specs.Needs.{first_without}
use Rattle.contexts.specs.declared.Setup.{Setup as Given}
use Rattle.tinker_words.specs.Settings.{Settings}
use Rattle.tinker_texts.specs.Refusals.{context_name, no_unit_text}
use Rattle.tinker_top.specs.declared.steps.Said.{Said}
use Rattle.tinker_top.specs.declared.steps.Stop.{Stop}
use Rattle.tinker_top.specs.declared.steps.Stop.TheVariants.{Refused, Fault, Memory}
use Rattle.tinker_top.specs.Outcome.{Outcome, says, refused}
use Rattle.run_report.specs.Run.{runs_as, report}
use Rattle.tinker_top.specs.Command.{run_of, generated_contexts}
use Rattle.run_report.specs.Setups.{HasBound, AreGiven}
use Rattle.tinker_top.specs.Steps.{ComesTo, IsMade, IsRun}
use Rattle.tinker_top.proofs.Onward.{leads_to_itself, begins_with_none}
use Rattle.tnk_base.specs.Host.{Shown}

and_false : (b : Bool) → (b && false) ≡ false
and_false b = elim b as (λ b. (b && false) ≡ false) [ true ↦ refl | false ↦ refl ]

-- a generation with a unit of each kind lacks none
lacks_not : (image : Image) (g : Description) (k : UnitKind) → 0 < units_of g k → lacks image g k ≡ false
lacks_not image g k h =
    ap (λ (b : Bool). uses image k && b) (ne_eqb (units_of g k) 0 (λ e. omega arith)) ∙ and_false (uses image k)

lacks_none : (image : Image) (g : Description) → ((k : UnitKind) → 0 < units_of g k) → first_lacking image g ≡ None
lacks_none image g h =
    let skip : (k : UnitKind) (o : Option UnitKind) → cond (lacks image g k) (Some k) o ≡ o = λ k o. ap (λ (b : Bool). cond b (Some k) o) (lacks_not image g k (h k)) in
    skip unit.I _ ∙ skip unit.M _ ∙ skip unit.L _ ∙ skip unit.P _ ∙ skip unit.B _

has_t1 : (k : UnitKind) → 0 < units_of t1 k
has_t1 unit.I = omega arith
has_t1 unit.M = omega arith
has_t1 unit.L = omega arith
has_t1 unit.P = omega arith
has_t1 unit.B = omega arith

has_t2 : (k : UnitKind) → 0 < units_of t2 k
has_t2 unit.I = omega arith
has_t2 unit.M = omega arith
has_t2 unit.L = omega arith
has_t2 unit.P = omega arith
has_t2 unit.B = omega arith

has_t3 : (k : UnitKind) → 0 < units_of t3 k
has_t3 unit.I = omega arith
has_t3 unit.M = omega arith
has_t3 unit.L = omega arith
has_t3 unit.P = omega arith
has_t3 unit.B = omega arith

-- so its contexts lack none
pub none_without : (forms : Forms) (s : Settings) (image : Image) → first_without 0 (map runs_as (generated_contexts forms s image)) ≡ None
none_without forms s image =
    let skip : (c : ℕ) (o : Option UnitKind) (r : Option (ℕ × UnitKind)) → o ≡ None →
    let q : Option (ℕ × UnitKind) = elim o [ Some kind ↦ Some (c, kind) | None ↦ r ] in q ≡ r =
    λ c o r e. ap (λ (o : Option UnitKind). let q : Option (ℕ × UnitKind) = elim o [ Some kind ↦ Some (c, kind) | None ↦ r ] in q) e in
    skip 0 (first_lacking image t1) _ (lacks_none image t1 has_t1)
    ∙ skip 1 (first_lacking image t2) _ (lacks_none image t2 has_t2)
    ∙ skip 2 (first_lacking image t3) _ (lacks_none image t3 has_t3)

run_is : (forms : Forms) (s : Settings) (image : Image) → run_of s (generated_contexts forms s image) [] ≡ says 0 (report s [] (generated_contexts forms s image))
run_is forms s image =
    ap (λ (o : Option (ℕ × UnitKind)). let r : Outcome = elim o [
      | Some lack ↦ refused (context_name lack.0) (no_unit_text lack.1)
      | None ↦ says 0 (report s [] (generated_contexts forms s image))
    ] in r) (none_without forms s image)

-- what their run puts out is their report
pub text_is : (forms : Forms) (s : Settings) (image : Image) (text : Vec ℕ Global) → IsRun s (generated_contexts forms s image) [] (Ok text) →
    report s [] (generated_contexts forms s image) ≡ text.items
text_is forms s image text h = ap (λ (o : Outcome). o.text) (sym (run_is forms s image) ∙ h)

-- a command that was made has come to its end
pub made_comes : (o : Outcome) (r : Result Said Stop) (old : Shown) → IsMade o r → ComesTo o r old old
made_comes o (Ok said) old h = (o, h, leads_to_itself o old)
made_comes o (Err (Refused line)) old h = absurd h
made_comes o (Err Fault) old h = absurd h
made_comes o (Err Memory) old h = begins_with_none o old old refl

-- three of which each is another
pub same_three : {X : Type 0} (x y z u v w : X) → x ≡ u → y ≡ v → z ≡ w → x ∷ (y ∷ (z ∷ [])) ≡ u ∷ (v ∷ (w ∷ []))
same_three x y z u v w e f g = cc

-- three contexts
pub three_given : (s : Settings) (x y z : Given) → HasBound s x → HasBound s y → HasBound s z → AreGiven s (x ∷ (y ∷ (z ∷ [])))
three_given s x y z a b c = record { some = omega arith; few = omega arith; bounds = all }
  where
    all : All (HasBound s) (x ∷ (y ∷ (z ∷ [])))
    all zero d lt = a
    all (suc zero) d lt = b
    all (suc (suc zero)) d lt = c
    all (suc (suc (suc k))) d lt = absurd (omega arith)
