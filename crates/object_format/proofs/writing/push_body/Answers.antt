use Rattle.std.proofs.Common.{◌++◌}
use Rattle.image_format.proofs.Pushed.{two_pushed}
use Rattle.object_format.specs.Objects.{module_of}
use Rattle.object_format.specs.Bytes.{numbers, tables}
use Rattle.object_format.proofs.writing.push_body.Goals as goal

pub returns : goal.returns
returns c =
    let o = module_of c.args.o.now in
    two_pushed c.args.bytes.now.items (numbers o) (tables o ++ o.initial) c.push_numbers.new.bytes.items c.push_contents.new.bytes.items
    c.in_ok-push_numbers.ensures c.in_ok-push_contents.ensures
