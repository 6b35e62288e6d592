use Rattle.std.proofs.Common.{◌≡◌, ◌++◌, ◌<◌, List, length, rules, arith, sym, ap, subst, ◌∙◌}
use Rattle.std.specs.List.Sorted.{IsPermutation, IsNonDecreasingBy}
use Rattle.std.proofs.lemmas.List.Sorted.{IsNonDecreasingBy-from_sort_by_key}
use Rattle.std.proofs.lemmas.List.{get_or_read}
use Rattle.dependences.specs.declared.access.Access.{Access}
use Rattle.dependences.specs.declared.graph.Node.{Node}
use Rattle.dependences.specs.Listed.{ops_at}
use Rattle.dependences.specs.Graph.{node_at}
use Rattle.dependences.specs.Accesses.{all_accesses, accesses_of}
use Rattle.dependences.specs.Turns.{turn_of}
use Rattle.dependences.proofs.AccessLists.{none_accessed, next_accessed, AreAccesses-from_sort}
use Rattle.dependences.proofs.access.accesses.Goals as goal

pub loop-number-init : goal.loop-number-init
loop-number-init c = c.in_ok-list.ensures.items ∙ sym (none_accessed (ops_at c.args.nodes.now))

pub loop-number-preserved : goal.loop-number-preserved
loop-number-preserved c =
    let nodes = c.args.nodes.now in
    let ops = ops_at nodes in
    let i = c.loop-number.number in
    let inside : i < length nodes = omega arith in
    let node : c.index-nodes-number.result ≡ node_at nodes i = get_or_read nodes i _ inside c.index-nodes-number.is _ in
    c.in_ok-add_accesses.ensures
    ∙ ap (λ (n : Node). c.loop-number.list.items ++ accesses_of i n.timed) node
    ∙ ap (λ (l : List Access). l ++ accesses_of i (ops i)) c.loop-number.invariant
    ∙ sym (next_accessed ops i)

pub returns : goal.returns
returns c =
    let nodes = c.args.nodes.now in
    let ops = ops_at nodes in
    let list = c.sort_unstable_by_key.new.self.items in
    let sorted : IsNonDecreasingBy turn_of list =
    IsNonDecreasingBy-from_sort_by_key turn_of _ c.sort_unstable_by_key.ensures.sorted (λ a r q k. search rules) in
    let end : c.loop-number.number ≡ length nodes = omega arith in
    let all : c.loop-number.list.items ≡ all_accesses ops (length nodes) = c.loop-number.invariant ∙ ap (all_accesses ops) end in
    let moved : IsPermutation (all_accesses ops (length nodes)) list =
    subst (λ (l : List Access). IsPermutation l list) all c.sort_unstable_by_key.ensures.permutation in
    AreAccesses-from_sort ops (length nodes) list c.requires moved sorted
