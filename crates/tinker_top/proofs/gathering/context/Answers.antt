-- A context: its image, its generation and its input.
use Rattle.std.proofs.Common.{List, ℕ, Vec, Global, Ok, Err, refl, subst, sym, ap, ◌∙◌, ◌≡◌}
use Rattle.machine_desc.specs.declared.Mdes.{Mdes}
use Rattle.machine_desc.specs.Description.{Description}
use Rattle.machine_desc.specs.Value.{description_of}
use Rattle.image_format.specs.Image.{Image}
use Rattle.image_resched.specs.Laws.{Forms}
use Rattle.context_system.specs.Context.{Setup}
use Rattle.contexts.specs.declared.Setup.{Setup as Given}
use Rattle.tnk_base.specs.Host.{Files}
use Rattle.tinker_words.specs.Settings.{Settings}
use Rattle.tinker_words.specs.Words.{NamedContext}
use Rattle.tinker_words.specs.Forms.{named}
use Rattle.tinker_top.specs.Outcome.{Outcome}
use Rattle.run_report.specs.Run.{context_of}
use Rattle.tinker_top.specs.Command.{with_image, with_target, with_input, with_context}
use Rattle.run_report.specs.Setups.{as_given}
use Rattle.tinker_top.specs.Steps.{GivesTo}
use Rattle.tinker_top.proofs.Onward.{passed_on, stops_within, gives_on, leads_to_same}
use Rattle.tinker_top.proofs.gathering.context.Goals as goal

-- what comes behind the image, and behind the generation
abbrev behind_generation : Forms → Settings → NamedContext → Files → Image → (Setup → Outcome) → Description → Outcome
behind_generation forms s n files image next g = with_input n.input files (λ input. next (context_of forms s image g input))

abbrev behind_image : Forms → Settings → NamedContext → Files → (Setup → Outcome) → Image → Outcome
behind_image forms s n files next image = with_target n.target image.description files (behind_generation forms s n files image next)

pub returns-in_err-image-clause-given : goal.returns-in_err-image-clause-given
returns-in_err-image-clause-given g c = λ forms files told.
    let n = named c.args.named.now in
    let s = c.args.settings.now in
    let old = g.H.Host.shows c.args.host.now in
    let new = g.H.Host.shows c.image.new.host in
    let why = c.in_err-image.field-0.0 in
    subst (λ r. GivesTo {V = Given} {X = Setup} (as_given forms) (with_context forms s n files) r old new) (sym (passed_on c.from_residual.result why c.from_residual.ensures))
    (stops_within {V = Image} {X = Image} {W = Given} {Y = Setup} (λ image. image) (with_image files n.image) (as_given forms) (behind_image forms s n files) why old new
    (c.in_err-image.ensures.given files told))

pub returns-in_err-chosen-clause-given : goal.returns-in_err-chosen-clause-given
returns-in_err-chosen-clause-given g c = λ forms files told.
    let n = named c.args.named.now in
    let s = c.args.settings.now in
    let old = g.H.Host.shows c.args.host.now in
    let mid = g.H.Host.shows c.image.new.host in
    let new = g.H.Host.shows c.generation.new.host in
    let why = c.in_err-chosen.field-0.0 in
    let image = c.in_ok-image.image in
    let own : description_of c.parts.result.now.description ≡ image.description = ap (λ (i : Image). i.description) c.parts.ensures.image in
    subst (λ r. GivesTo {V = Given} {X = Setup} (as_given forms) (with_context forms s n files) r old new) (sym (passed_on c.from_residual-in_err-chosen.result why c.from_residual-in_err-chosen.ensures))
    (gives_on {V = Image} {X = Image} {W = Given} {Y = Setup} (λ image. image) (with_image files n.image) (as_given forms) (behind_image forms s n files) image (Err why) old mid new
    (c.in_ok-image.ensures.given files told)
    (stops_within {V = Mdes} {X = Description} {W = Given} {Y = Setup} description_of (with_target n.target image.description files) (as_given forms) (behind_generation forms s n files image) why mid new
    (subst (λ d. GivesTo {V = Mdes} {X = Description} description_of (with_target n.target d files) (Err why) mid new) own
    (c.in_err-chosen.ensures.given files (c.in_ok-image.ensures.reads.stands.files ∙ told)))))

pub returns-in_err-input-clause-given : goal.returns-in_err-input-clause-given
returns-in_err-input-clause-given g c = λ forms files told.
    let n = named c.args.named.now in
    let s = c.args.settings.now in
    let old = g.H.Host.shows c.args.host.now in
    let mid = g.H.Host.shows c.image.new.host in
    let later = g.H.Host.shows c.generation.new.host in
    let new = g.H.Host.shows c.input.new.host in
    let why = c.in_err-input.field-0.0 in
    let image = c.in_ok-image.image in
    let chosen = c.in_ok-chosen.chosen in
    let own : description_of c.parts.result.now.description ≡ image.description = ap (λ (i : Image). i.description) c.parts.ensures.image in
    let told' = c.in_ok-image.ensures.reads.stands.files ∙ told in
    subst (λ r. GivesTo {V = Given} {X = Setup} (as_given forms) (with_context forms s n files) r old new) (sym (passed_on c.from_residual-in_err-input.result why c.from_residual-in_err-input.ensures))
    (gives_on {V = Image} {X = Image} {W = Given} {Y = Setup} (λ image. image) (with_image files n.image) (as_given forms) (behind_image forms s n files) image (Err why) old mid new
    (c.in_ok-image.ensures.given files told)
    (gives_on {V = Mdes} {X = Description} {W = Given} {Y = Setup} description_of (with_target n.target image.description files) (as_given forms) (behind_generation forms s n files image) chosen (Err why) mid later new
    (subst (λ d. GivesTo {V = Mdes} {X = Description} description_of (with_target n.target d files) (Ok chosen) mid later) own (c.in_ok-chosen.ensures.given files told'))
    (stops_within {V = Vec ℕ Global} {X = List ℕ} {W = Given} {Y = Setup} (λ bytes. bytes.items) (with_input n.input files) (as_given forms)
    (λ next input. next (context_of forms s image (description_of chosen) input)) why later new
    (c.in_err-input.ensures.given files (c.in_ok-chosen.ensures.reads.stands.files ∙ told')))))

pub returns-clause-given : goal.returns-clause-given
returns-clause-given g c = λ forms files told.
    let n = named c.args.named.now in
    let s = c.args.settings.now in
    let old = g.H.Host.shows c.args.host.now in
    let mid = g.H.Host.shows c.image.new.host in
    let later = g.H.Host.shows c.generation.new.host in
    let new = g.H.Host.shows c.input.new.host in
    let image = c.in_ok-image.image in
    let chosen = c.in_ok-chosen.chosen in
    let input = c.in_ok-input.input in
    let own : description_of c.parts.result.now.description ≡ image.description = ap (λ (i : Image). i.description) c.parts.ensures.image in
    let told' = c.in_ok-image.ensures.reads.stands.files ∙ told in
    let given : Given = record { image = image; chosen = chosen; input = input; limit = c.number.result; bound = c.number-2.result } in
    let same : context_of forms s image (description_of chosen) input.items ≡ as_given forms given =
    ap (λ (l : ℕ). let x : Setup = record (context_of forms s image (description_of chosen) input.items) { limit = l } in x) (sym c.number.ensures.value)
    ∙ ap (λ (b : ℕ). let x : Setup = record (as_given forms given) { bound = b } in x) (sym c.number-2.ensures.value) in
    gives_on {V = Image} {X = Image} {W = Given} {Y = Setup} (λ image. image) (with_image files n.image) (as_given forms) (behind_image forms s n files) image (Ok given) old mid new
    (c.in_ok-image.ensures.given files told)
    (gives_on {V = Mdes} {X = Description} {W = Given} {Y = Setup} description_of (with_target n.target image.description files) (as_given forms) (behind_generation forms s n files image) chosen (Ok given) mid later new
    (subst (λ d. GivesTo {V = Mdes} {X = Description} description_of (with_target n.target d files) (Ok chosen) mid later) own (c.in_ok-chosen.ensures.given files told'))
    (gives_on {V = Vec ℕ Global} {X = List ℕ} {W = Given} {Y = Setup} (λ bytes. bytes.items) (with_input n.input files) (as_given forms)
    (λ next input. next (context_of forms s image (description_of chosen) input)) input (Ok given) later new new
    (c.in_ok-input.ensures.given files (c.in_ok-chosen.ensures.reads.stands.files ∙ told'))
    (λ next. leads_to_same (next (context_of forms s image (description_of chosen) input.items)) (next (as_given forms given)) new new (ap next same) refl)))
