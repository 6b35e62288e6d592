-- How an image file comes to be judged: by the first rule that it breaks, once it is fetched.
use Rattle.std.proofs.Common.{ℕ, List, Vec, Global, None, Result, Ok, Err, ◌≡◌, ◌∙◌, ap, sym}
use Rattle.tnk_base.specs.Host.{Files, Shown}
use Rattle.image_format.specs.Image.{Image, image_in}
use Rattle.image_check.specs.Rules.{first_broken}
use Rattle.tinker_top.specs.declared.steps.Stop.{Stop}
use Rattle.tinker_top.specs.Outcome.{fetching}
use Rattle.tinker_top.specs.Command.{image_limit, if_accepted, with_image}
use Rattle.tinker_top.specs.Steps.{GivesTo, IsJudged}
use Rattle.tinker_top.proofs.Onward.{stops_within, gives_on, decided_gives}

-- the bytes break no rule
pub accepted_is_judged : {V : Type 0} (view : V → Image) (name bytes : List ℕ) (v : V) → first_broken bytes ≡ None → view v ≡ image_in bytes →
    IsJudged view name bytes (Ok v)
accepted_is_judged view name bytes v kept same = λ next. ap (if_accepted name next bytes) kept ∙ ap next (sym same)

-- a file was fetched and judged
pub judged_gives : {V : Type 0} (view : V → Image) (files : Files) (name : List ℕ) (bytes : Vec ℕ Global) (r : Result V Stop) (old new : Shown) →
    GivesTo {V = Vec ℕ Global} {X = List ℕ} (λ bytes. bytes.items) (fetching files name image_limit) (Ok bytes) old new → IsJudged view name bytes.items r →
    GivesTo {V = V} {X = Image} view (with_image files name) r old new
judged_gives {V} view files name bytes r old new fetched judged =
    gives_on {V = Vec ℕ Global} {X = List ℕ} {W = V} {Y = Image} (λ bytes. bytes.items) (fetching files name image_limit) view
    (λ next bytes. if_accepted name next bytes (first_broken bytes)) bytes r old new new fetched
    (decided_gives {V = V} {X = Image} view (λ next. if_accepted name next bytes.items (first_broken bytes.items)) r new judged)

-- it wasn't fetched
pub unfetched_stops : {V : Type 0} (view : V → Image) (files : Files) (name : List ℕ) (why : Stop) (old new : Shown) →
    GivesTo {V = Vec ℕ Global} {X = List ℕ} (λ bytes. bytes.items) (fetching files name image_limit) (Err why) old new →
    GivesTo {V = V} {X = Image} view (with_image files name) (Err why) old new
unfetched_stops {V} view files name why old new fetched =
    stops_within {V = Vec ℕ Global} {X = List ℕ} {W = V} {Y = Image} (λ bytes. bytes.items) (fetching files name image_limit) view
    (λ next bytes. if_accepted name next bytes (first_broken bytes)) why old new fetched
