use Rattle.std.proofs.Common.{◌≡◌, ◌∙◌, ℕ, List, ap}
use Rattle.machine_desc.specs.Description.{Description}
use Rattle.machine_desc.specs.Value.{description_of}
use Rattle.image_format.specs.declared.Row.{Row}
use Rattle.image_format.specs.Image.{Image}
use Rattle.image_resched.proofs.Accepted.{rescheduled_is_accepted}
use Rattle.image_resched.proofs.Gathered.{made, same_parts}
use Rattle.image_resched.proofs.moving.moved.Goals as goal

pub returns-clause-image : goal.returns-clause-image
returns-clause-image g c =
    let image : Image = c.args.a.now in
    let d : Description = g.G.Generation.description c.args.g.now in
    let own = c.parts-parts.ensures.image in
    let words : List ℕ = c.in_ok-words_in_form.field-0.items in
    let rows : List Row = c.in_ok-to_vec.field-0.items in
    let init : List ℕ = c.in_ok-to_vec-2.field-0.items in
    let same_rows : rows ≡ image.rows =
    c.in_ok-to_vec.ensures.items_if_clones_equal (λ x y e. e) ∙ c.deref.ensures.value ∙ ap (λ (i : Image). i.rows) own in
    let same_init : init ≡ image.init =
    c.in_ok-to_vec-2.ensures.items_if_clones_equal (λ x y e. e) ∙ c.deref-2.ensures.value ∙ ap (λ (i : Image). i.init) own in
    made image _ d words c.parts-parts.ensures.accepted c.in_ok-words_in_form.ensures
    (same_parts image (description_of c.described.result) d c.parts-parts.result.now.entry c.parts-parts.result.now.memory rows init words
    c.described.ensures (ap (λ (i : Image). i.entry) own) same_rows (ap (λ (i : Image). i.memory) own) same_init)

pub returns-clause-accepted : goal.returns-clause-accepted
returns-clause-accepted g c =
    rescheduled_is_accepted c.args.a.now (g.G.Generation.description c.args.g.now) _
    (record {
      accepted = c.parts-parts.ensures.accepted;
      machine = g.met.G.Generation.in_range c.args.g.now;
      units = c.requires;
    })
    (returns-clause-image g c)
