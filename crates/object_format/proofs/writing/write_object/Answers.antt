use Rattle.std.proofs.Common.{List, sym, subst, ℕ}
use Rattle.image_format.specs.Bytes.{needs_two}
use Rattle.image_format.proofs.Pushed.{two_written}
use Rattle.object_format.specs.Objects.{module_of}
use Rattle.object_format.specs.Bytes.{beginning, body}
use Rattle.object_format.specs.Laws.{HoldsModule}
use Rattle.object_format.proofs.Writable.{writable}
use Rattle.object_format.proofs.NoneBroken.{holds}
use Rattle.object_format.proofs.writing.write_object.Goals as goal

pub file_length-requires : goal.file_length-requires
file_length-requires c = writable (module_of c.args.o.now) c.requires

pub push_body-requires : goal.push_body-requires
push_body-requires c = writable (module_of c.args.o.now) c.requires

abbrev written : goal.returns-clause-bytes
written c =
    let o = module_of c.args.o.now in
    two_written c.in_ok-bytes.bytes.items (beginning (needs_two o.description) o) (body o) c.push_beginning.new.bytes.items
    c.push_body.new.bytes.items c.in_ok-bytes.ensures.items c.in_ok-push_beginning.ensures c.in_ok-push_body.ensures

pub returns-clause-bytes : goal.returns-clause-bytes
returns-clause-bytes c = written c

pub returns-clause-reads_back : goal.returns-clause-reads_back
returns-clause-reads_back c =
    subst (λ (xs : List ℕ). HoldsModule xs (module_of c.args.o.now)) (sym (written c)) (holds (module_of c.args.o.now) c.requires)
