use Rattle.std.proofs.Common.{◌∙◌, ap, List, ◌∷◌, ◌++◌, ℕ}
use Rattle.std.specs.Prelude.{map}
use Rattle.machine_desc.specs.Description.{units_of, latency_of}
use Rattle.machine_desc.specs.Same.{unit_kinds, latency_kinds}
use Rattle.machine_desc.specs.Value.{description_of}
use Rattle.image_format.specs.Bytes.{needs_two, busy_bytes}
use Rattle.image_format.proofs.Pushed.{two_pushed}
use Rattle.object_format.proofs.writing.push_description.Goals as goal

pub returns : goal.returns
returns c =
    let g = description_of c.args.description.now in
    two_pushed c.args.bytes.now.items (g.width ∷ (map (units_of g) unit_kinds ++ map (latency_of g) latency_kinds)) (busy_bytes (needs_two g) g)
    c.extend_from_slice.new.self.items c.push_busy_times.new.bytes.items
    (c.in_ok-extend_from_slice.ensures.items ∙ ap (λ (xs : List ℕ). c.args.bytes.now.items ++ xs) c.numbers.ensures)
    c.in_ok-push_busy_times.ensures
