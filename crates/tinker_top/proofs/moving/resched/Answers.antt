-- The image, the generation, and the image in it.
use Rattle.std.proofs.Common.{subst, sym, ap, ◌∙◌, ◌≡◌, Ok, Err, List, ℕ}
use Rattle.machine_desc.specs.declared.Mdes.{Mdes}
use Rattle.machine_desc.specs.Description.{Description}
use Rattle.machine_desc.specs.Value.{description_of}
use Rattle.image_format.specs.Image.{Image}
use Rattle.image_check.specs.Units.{first_lacking}
use Rattle.tnk_base.specs.Host.{Files}
use Rattle.tinker_words.specs.Words.{Target}
use Rattle.tinker_words.specs.Forms.{aimed_at}
use Rattle.tinker_top.specs.Outcome.{Outcome}
use Rattle.tinker_top.specs.Command.{with_image, with_target, if_it_has_units, resched_command}
use Rattle.tinker_top.specs.Steps.{ComesTo, GivesTo}
use Rattle.tinker_top.proofs.Onward.{passed_on, stops, comes_on, moved_comes}
use Rattle.tinker_top.proofs.moving.resched.Goals as goal

-- what comes behind the image, and behind the generation
abbrev last : (name out : List ℕ) → Image → Description → Outcome
last name out image g = if_it_has_units name out image g (first_lacking image g)

abbrev rest : (name out : List ℕ) → Target → Files → Image → Outcome
rest name out target files image = with_target target image.description files (last name out image)

pub returns-in_err-image-clause-come : goal.returns-in_err-image-clause-come
returns-in_err-image-clause-come g c = λ files told.
    let name = c.args.name.now in
    let out = c.args.out.now in
    let target = aimed_at c.args.target in
    let old = g.H.Host.shows c.args.host.now in
    let new = g.H.Host.shows c.image.new.host in
    let why = c.in_err-image.field-0.0 in
    subst (λ r. ComesTo (resched_command name target out files) r old new) (sym (passed_on c.from_residual.result why c.from_residual.ensures))
    (stops {V = Image} {X = Image} (λ image. image) (with_image files name) (rest name out target files) why old new (c.in_err-image.ensures.given files told))

pub returns-in_err-g-clause-come : goal.returns-in_err-g-clause-come
returns-in_err-g-clause-come g c = λ files told.
    let name = c.args.name.now in
    let out = c.args.out.now in
    let target = aimed_at c.args.target in
    let old = g.H.Host.shows c.args.host.now in
    let mid = g.H.Host.shows c.image.new.host in
    let new = g.H.Host.shows c.generation.new.host in
    let why = c.in_err-g.field-0.0 in
    let image = c.in_ok-image.image in
    let own : description_of c.parts.result.now.description ≡ image.description = ap (λ (i : Image). i.description) c.parts.ensures.image in
    subst (λ r. ComesTo (resched_command name target out files) r old new) (sym (passed_on c.from_residual-in_err-g.result why c.from_residual-in_err-g.ensures))
    (comes_on {V = Image} {X = Image} (λ image. image) (with_image files name) (rest name out target files) image old mid new (Err why) (c.in_ok-image.ensures.given files told)
    (stops {V = Mdes} {X = Description} description_of (with_target target image.description files) (last name out image) why mid new
    (subst (λ d. GivesTo {V = Mdes} {X = Description} description_of (with_target target d files) (Err why) mid new) own
    (c.in_err-g.ensures.given files (c.in_ok-image.ensures.reads.stands.files ∙ told)))))

pub returns-clause-come : goal.returns-clause-come
returns-clause-come g c = λ files told.
    let name = c.args.name.now in
    let out = c.args.out.now in
    let target = aimed_at c.args.target in
    let old = g.H.Host.shows c.args.host.now in
    let mid = g.H.Host.shows c.image.new.host in
    let new = g.H.Host.shows c.generation.new.host in
    let image = c.in_ok-image.image in
    let own : description_of c.parts.result.now.description ≡ image.description = ap (λ (i : Image). i.description) c.parts.ensures.image in
    comes_on {V = Image} {X = Image} (λ image. image) (with_image files name) (rest name out target files) image old mid new c.moved.result (c.in_ok-image.ensures.given files told)
    (comes_on {V = Mdes} {X = Description} description_of (with_target target image.description files) (last name out image) c.in_ok-g.g mid new new c.moved.result
    (subst (λ d. GivesTo {V = Mdes} {X = Description} description_of (with_target target d files) (Ok c.in_ok-g.g) mid new) own
    (c.in_ok-g.ensures.given files (c.in_ok-image.ensures.reads.stands.files ∙ told)))
    (moved_comes name out image (description_of c.in_ok-g.g) c.moved.result new c.moved.ensures))
