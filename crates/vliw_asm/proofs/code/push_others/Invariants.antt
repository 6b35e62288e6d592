use Rattle.std.proofs.Common.{◌≡◌, ◌++◌, map, take, false}
use Rattle.vliw_asm.specs.Blocks.{word_at}
use Rattle.vliw_asm.specs.Gathered.{operations_of}
use Rattle.vliw_asm.proofs.code.push_others.Given as goal

abbrev pub invariant-loop-operation : goal.invariant-loop-operation
invariant-loop-operation l = l.words.items ≡ l.fn.words.items ++ map (word_at false 0) (operations_of (take l.operation-index l.operations))
