use Rattle.std.proofs.Common.{◌≡◌, ℕ, length, sym, subst, arith}
use Rattle.dependences.proofs.Tables.{TableTo, more_table, whole_table}
use Rattle.dependences.proofs.graph.fill.Goals as goal

pub loop-i-init : goal.loop-i-init
loop-i-init c = record {
  table = record {
    count = c.requires.count;
    here = λ i j inside below low. absurd (omega arith);
    left = λ i j row column. c.requires.empty i j;
  };
  room = λ most h. h;
}

pub fill_pairs-requires-clause-size : goal.fill_pairs-requires-clause-size
fill_pairs-requires-clause-size c = sym c.loop-i.invariant.table.count

pub fill_pairs-requires-clause-inside : goal.fill_pairs-requires-clause-inside
fill_pairs-requires-clause-inside c =
    let count = c.loop-i.invariant.table.count in
    let first = c.requires.count in
    let size = c.count-i-end.ensures.value in
    let test = c.loop-i-test.true in
    omega arith

pub fill_pairs-requires-clause-empty : goal.fill_pairs-requires-clause-empty
fill_pairs-requires-clause-empty c = λ j after.
    let left = c.loop-i.invariant.table.left in
    (left c.loop-i.i j (omega arith) (omega arith), left j c.loop-i.i (omega arith) (omega arith))

pub loop-i-preserved : goal.loop-i-preserved
loop-i-preserved c = record {
  table =
      more_table c.args.nodes.now (length c.args.nodes.now) c.loop-i.i c.loop-i.d c.fill_pairs.new.d c.loop-i.invariant.table c.fill_pairs.ensures.count
      c.fill_pairs.ensures.here c.fill_pairs.ensures.elsewhere;
  room = λ most h. c.fill_pairs.ensures.room most (c.loop-i.invariant.room most h);
}

pub returns-clause-delays : goal.returns-clause-delays
returns-clause-delays c =
    let n : c.loop-i.i ≡ length c.args.nodes.now =
    (let first = c.requires.count in let size = c.count-i-end.ensures.value in let done = c.loop-i-test.false in omega arith) in
    whole_table c.args.nodes.now c.loop-i.d
    (subst (λ (i : ℕ). TableTo c.args.nodes.now (length c.args.nodes.now) i c.loop-i.d) n c.loop-i.invariant.table)
