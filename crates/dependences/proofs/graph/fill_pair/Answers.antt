use Rattle.std.proofs.Common.{◌≡◌, ◌∙◌, ◌<◌, ℕ, false, List, Option, length, sym, ap, arith}
use Rattle.std.specs.Prelude.{ℤ}
use Rattle.std.proofs.lemmas.List.{get_or_default}
use Rattle.dependences.specs.declared.graph.Node.{Node}
use Rattle.dependences.specs.declared.graph.Meeting.{Meeting}
use Rattle.dependences.specs.Graph.{meeting, turned, have_nothing_in_common, delay_by_meeting, delay_at, node_at}
use Rattle.dependences.proofs.Pairs.{meeting_turned, nothing_turned, by_meeting}
use Rattle.dependences.proofs.graph.fill_pair.Goals as goal

-- what the meeting turned says of two nodes is the delay of the second before the first
other_way : (nodes : List Node) (i j : ℕ) (a b : Node) (m : Meeting) (o : Option ℤ) → a ≡ node_at nodes i → b ≡ node_at nodes j →
    have_nothing_in_common (node_at nodes i) (node_at nodes j) ≡ false → m ≡ turned (meeting a b) → o ≡ delay_by_meeting m j i b a → o ≡ delay_at nodes j i
other_way nodes i j a b m o first second meet made e =
    let p = node_at nodes i in
    let q = node_at nodes j in
    e
    ∙ ap (λ (n : Meeting). delay_by_meeting n j i b a) (made ∙ meeting_turned a b)
    ∙ ap (λ (x : Node). delay_by_meeting (meeting x a) j i x a) second
    ∙ ap (λ (x : Node). delay_by_meeting (meeting q x) j i q x) first
    ∙ sym (by_meeting j i q p (nothing_turned q p ∙ meet))

pub returns-clause-back : goal.returns-clause-back
returns-clause-back c =
    let nodes = c.args.nodes.now in
    let i = c.args.i in
    let j = c.args.j in
    let size = c.requires.size in
    let below : j < length nodes = (let h = c.requires.inside.1 in omega arith) in
    let inside : i < length nodes = (let h = c.requires.inside.0 in omega arith) in
    other_way nodes i j c.index-nodes-i.result c.index-nodes-j.result c.turned.result _ (c.index-nodes-i.is ∙ get_or_default nodes i _ _ inside) (c.index-nodes-j.is ∙ get_or_default nodes j _ _ below) c.requires.meet
    (c.turned.ensures ∙ ap turned c.meet-meeting.ensures)
    c.set_delay-2.ensures.here

pub returns-clause-elsewhere : goal.returns-clause-elsewhere
returns-clause-elsewhere c k l row column = c.set_delay-2.ensures.elsewhere k l column ∙ c.set_delay.ensures.elsewhere k l row
