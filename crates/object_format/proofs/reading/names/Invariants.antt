use Rattle.std.proofs.Common.{◌≡◌, drop}
use Rattle.object_format.specs.Layout.{names, names_offset}
use Rattle.object_format.proofs.NamesSeen.{Walking}
use Rattle.object_format.proofs.reading.names.Given as goal

abbrev pub invariant-loop-k : goal.invariant-loop-k
invariant-loop-k l = record {
  walking : Walking l.bytes l.count l._k l.end;
  read : l.names.items ≡ names l._k (drop (names_offset l.bytes) l.bytes);
}
