use Rattle.machine_desc.specs.Value.{description_of}
use Rattle.image_format.specs.Bytes.{needs_two, description_bytes}
use Rattle.image_format.proofs.Pushed.{two_pushed}
use Rattle.object_format.specs.Bytes.{magic}
use Rattle.object_format.proofs.writing.push_beginning.Goals as goal

pub returns : goal.returns
returns c =
    let g = description_of c.args.description.now in
    two_pushed c.args.bytes.now.items (magic (needs_two g)) (description_bytes (needs_two g) g) c.push_magic.new.bytes.items c.push_description.new.bytes.items
    c.in_ok-push_magic.ensures c.in_ok-push_description.ensures
