-- A statement is of the kind that its line begins.
use Rattle.std.proofs.Common.{◌≡◌, length, sym, ap}
use Rattle.std.specs.Prelude.{nat_le, Some}
use Rattle.list_encoding.specs.Shapes.{slots_of}
use Rattle.asm_syntax.specs.declared.heads.Head.TheVariants as head
use Rattle.asm_syntax.specs.Beginnings.{Begun, kind_of}
use Rattle.asm_syntax.specs.Beginnings as begun
use Rattle.asm_syntax.specs.Reading.{operands_in}
use Rattle.asm_syntax.specs.Statements.{Statement, Desc, Pages, Data, Bytes, Word32, Space, Block, Operation, Stop, End, head_of, is_described}
use Rattle.asm_syntax.specs.StatementReading.{checked, numbers_in, number_in, name_in, nothing_in, address_in, pause_in, data_with, block_with, statement_behind}
use Rattle.asm_syntax.proofs.Lines.{behind, mapped}
use Rattle.asm_syntax.proofs.StatementLines.{let_through}

pub kind_kept : (b : Begun) (st : Statement) → statement_behind b ≡ Some st → head_of st ≡ kind_of b
kind_kept (begun.Operation guard m rest) st h = ap head_of (sym (mapped (λ xs. Operation guard m xs) (operands_in (slots_of m) rest) st h).2)
kind_kept (begun.Other head.Desc rest) st h =
    let b = behind (λ ns. checked (is_described ns) (Desc ns)) (numbers_in rest) st h in
    ap head_of (sym (let_through (is_described b.0) (Desc b.0) st b.2).1)
kind_kept (begun.Other head.Pages rest) st h = ap head_of (sym (mapped Pages (number_in rest) st h).2)
kind_kept (begun.Other head.Data rest) st h =
    let b = behind data_with (name_in rest) st h in
    ap head_of (sym (mapped (λ _. Data b.0.0) (nothing_in b.0.1) st b.2).2)
kind_kept (begun.Other head.Bytes rest) st h =
    let b = behind (λ ns. checked (nat_le 1 (length ns)) (Bytes ns)) (numbers_in rest) st h in
    ap head_of (sym (let_through (nat_le 1 (length b.0)) (Bytes b.0) st b.2).1)
kind_kept (begun.Other head.Word32 rest) st h = ap head_of (sym (mapped Word32 (number_in rest) st h).2)
kind_kept (begun.Other head.Space rest) st h = ap head_of (sym (mapped Space (number_in rest) st h).2)
kind_kept (begun.Other head.Block rest) st h =
    let b = behind block_with (name_in rest) st h in
    ap head_of (sym (mapped (λ at. Block b.0.0 at) (address_in b.0.1) st b.2).2)
kind_kept (begun.Other head.Operation rest) st h = absurd (let k : ⊥ = cc in k)
kind_kept (begun.Other head.Stop rest) st h = ap head_of (sym (mapped Stop (pause_in rest) st h).2)
kind_kept (begun.Other head.End rest) st h = ap head_of (sym (mapped (λ _. End) (nothing_in rest) st h).2)
