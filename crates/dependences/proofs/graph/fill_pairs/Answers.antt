use Rattle.std.proofs.Common.{◌≡◌, ◌∙◌, ◌<◌, ℕ, ◌+◌, List, length, true, sym, ap, subst, arith}
use Rattle.std.proofs.lemmas.List.{get_or_default}
use Rattle.serial_order.specs.Table.{Table, HasRoom}
use Rattle.dependences.specs.declared.graph.Node.{Node}
use Rattle.dependences.specs.Graph.{have_nothing_in_common, node_at}
use Rattle.dependences.proofs.Tables.{PairsTo, more_pairs, no_pair}
use Rattle.dependences.proofs.graph.fill_pairs.Goals.{then-not-has_nothing_in_common, else-not-has_nothing_in_common}
use Rattle.dependences.proofs.graph.fill_pairs.Goals as goal

-- two nodes are those of their numbers
by_number : (nodes : List Node) (i j : ℕ) (a b : Node) → a ≡ node_at nodes i → b ≡ node_at nodes j → have_nothing_in_common a b ≡ true →
    have_nothing_in_common (node_at nodes i) (node_at nodes j) ≡ true
by_number nodes i j a b first second e =
    ap (λ (x : Node). have_nothing_in_common x (node_at nodes j)) (sym first) ∙ ap (λ (x : Node). have_nothing_in_common a x) (sym second) ∙ e

pub loop-j-preserved : goal.loop-j-preserved
loop-j-preserved c =
    let nodes = c.args.nodes.now in
    let i = c.args.i in
    let j = c.loop-j.j in
    let old = c.args.d.now in
    let size = c.requires.size in
    let test = c.loop-j-test.true in
    let count = c.count-count.ensures.value in
    let inside : i < length nodes = (let h = c.requires.inside in omega arith) in
    let below : j < length nodes = omega arith in
    let behind : i < j = (let h = c.loop-j.auto.j in omega arith) in
    elim c.if-not-has_nothing_in_common.branch [
      | then-not-has_nothing_in_common w ↦ record {
        pairs =
            subst (λ (d : Table). PairsTo nodes i (j + 1) old d) (sym w.d-is)
            (more_pairs nodes i j old c.loop-j.d w.fill_pair.new.d c.loop-j.invariant.pairs behind w.fill_pair.ensures.count
            w.fill_pair.ensures.forth w.fill_pair.ensures.back w.fill_pair.ensures.elsewhere);
        room = λ most h. subst (λ (d : Table). HasRoom d most) (sym w.d-is) (w.fill_pair.ensures.room most (c.loop-j.invariant.room most h));
      }
      | else-not-has_nothing_in_common w ↦ record {
        pairs =
            subst (λ (d : Table). PairsTo nodes i (j + 1) old d) (sym w.d-is)
            (no_pair nodes i j old c.loop-j.d c.loop-j.invariant.pairs behind
            (by_number nodes i j c.index-nodes-i.result c.index-nodes-j.result (c.index-nodes-i.is ∙ get_or_default nodes i _ _ inside) (c.index-nodes-j.is ∙ get_or_default nodes j _ _ below)
            (sym c.has_nothing_in_common.ensures ∙ w.if-not-has_nothing_in_common.false)));
        room = λ most h. subst (λ (d : Table). HasRoom d most) (sym w.d-is) (c.loop-j.invariant.room most h);
      }
    ]
