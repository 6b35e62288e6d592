use Rattle.std.proofs.Common.{◌<◌, ap, ◌∙◌, length, arith}
use Rattle.timed_meaning.specs.Program.{program_of, block_of, follows}
use Rattle.timed_meaning.specs.Cycles.{cycles_by}
use Rattle.timed_meaning.specs.Evaluator.{state_with, start_with, next_of}
use Rattle.timed_meaning.proofs.Running.{advances, takes}
use Rattle.timed_meaning.proofs.Counting.{traps_inside}
use Rattle.timed_meaning.proofs.evaluate.step.Goals as goal

pub taken-cycles-requires : goal.taken-cycles-requires
taken-cycles-requires c =
    let b = c.index-block.result.now in
    let w = c.run_block.new.work in
    traps_inside c.in_ok-trap.trap w.answer w.count (state_with c.run_block.new.cells w) (start_with c.args.cells.now c.args.work.now c.args.input.now b.next c.args.limit) b.ops.items c.in_ok-trap.ensures.ended

pub returns-clause-next : goal.returns-clause-next
returns-clause-next c =
    let p = program_of c.args.program.now in
    let bs = c.args.program.now.blocks.items in
    let b = c.index-block.result.now in
    let after = state_with c.run_block.new.cells c.run_block.new.work in
    let row : c.in-Some.row < length bs = omega (arith, c.in-Some.ensures.within, c.args.program.now.blocks.ok.0) in
    advances p bs c.in-Some.row b c.args.input.now c.args.limit c.args.entry (state_with c.args.cells.now c.args.work.now) (next_of c.follow.result after) row c.index-block.ensures c.in-Some.ensures.found
    (c.follow.ensures after c.run_block.new.work.count ∙ ap (follows p b.entry b.next) c.in_ok-trap.ensures.ended)

pub returns-clause-cycles : goal.returns-clause-cycles
returns-clause-cycles c =
    let p = program_of c.args.program.now in
    let bs = c.args.program.now.blocks.items in
    let b = c.index-block.result.now in
    let after = state_with c.run_block.new.cells c.run_block.new.work in
    let row : c.in-Some.row < length bs = omega (arith, c.in-Some.ensures.within, c.args.program.now.blocks.ok.0) in
    takes p bs c.in-Some.row b c.args.input.now c.args.limit c.args.entry (state_with c.args.cells.now c.args.work.now) c.taken-cycles.result row c.index-block.ensures c.in-Some.ensures.found
    (c.taken-cycles.ensures.cycles after c.run_block.new.work.answer ∙ ap (cycles_by (block_of b)) c.in_ok-trap.ensures.ended)
