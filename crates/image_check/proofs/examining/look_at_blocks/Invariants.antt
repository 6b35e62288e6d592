use Rattle.std.proofs.Common.{◌≡◌, ◌-◌, None}
use Rattle.image_format.specs.Parts.{image_of}
use Rattle.image_check.specs.Rules.{broken_rows}
use Rattle.image_check.proofs.examining.look_at_blocks.Given as goal

-- the blocks so far keep the rules
abbrev pub invariant-loop-row : goal.invariant-loop-row
invariant-loop-row l = broken_rows (image_of l.parts) 0 (l.row - 0) ≡ None
