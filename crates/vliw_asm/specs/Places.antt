-- Where a statement may stand, by the statements before it, which are listed last first.
use Rattle.std.specs.Prelude.{Bool, true, false, not, ◌&&◌, List, [], ◌∷◌, Option, Some, None}
use Rattle.std.specs.List.{list_any}
use Rattle.asm_syntax.specs.declared.heads.Head.{Head}
use Rattle.asm_syntax.specs.declared.heads.Head.TheVariants as head
use Rattle.asm_syntax.specs.Statements.{Statement, Pages, head_of}

-- the kind of the last statement
abbrev pub last : List Statement → Option Head
last [] = None
last (st ∷ before) = Some (head_of st)

-- a block begins with `.block` and goes on with operations and `;;`
abbrev pub is_inside : Option Head → Bool
is_inside (Some head.Block) = true
is_inside (Some head.Operation) = true
is_inside (Some head.Stop) = true
is_inside _ = false

-- `;;` stands behind an operation
abbrev pub is_operation : Option Head → Bool
is_operation (Some head.Operation) = true
is_operation _ = false

-- `.end` stands behind `;;`
abbrev pub is_stop : Option Head → Bool
is_stop (Some head.Stop) = true
is_stop _ = false

abbrev pub is_nothing : Option Head → Bool
is_nothing None = true
is_nothing _ = false

abbrev pub is_pages : Statement → Bool
is_pages (Pages n) = true
is_pages _ = false

-- whether a kind may stand behind a last statement, where `.pages` was given or not: `.desc` first, `.pages` once, operations inside
-- a block, all others outside
abbrev pub may_follow : Option Head → (paged : Bool) → Head → Bool
may_follow before paged head.Desc = is_nothing before
may_follow before paged head.Pages = not (is_inside before) && not paged
may_follow before paged head.Operation = is_inside before
may_follow before paged head.Stop = is_operation before
may_follow before paged head.End = is_stop before
may_follow before paged _ = not (is_inside before)

-- whether a kind may stand behind statements
abbrev pub may_stand : List Statement → Head → Bool
may_stand before kind = may_follow (last before) (list_any is_pages before) kind
