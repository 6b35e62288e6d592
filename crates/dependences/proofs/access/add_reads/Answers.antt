use Rattle.std.proofs.Common.{◌≡◌, ◌∙◌, ap, rules, [], ◌∷◌, ◌++◌}
use Rattle.std.specs.Prelude.{option_map}
use Rattle.std.specs.Bool.{then_some}
use Rattle.std.proofs.lemmas.Result.{IfOk-weaker}
use Rattle.operation.specs.declared.Place.TheVariants.{General, Predicate, Target, Memory}
use Rattle.operation.specs.declared.Sources.{Sources}
use Rattle.operation.specs.Places.{if_any}
use Rattle.dependences.specs.Footprint.{operands}
use Rattle.dependences.proofs.AccessLists.{added_reads, IsAdded, added_then}
use Rattle.dependences.proofs.access.add_reads.Goals as goal

pub returns : goal.returns
returns c =
    let from = c.sources-from.result in
    let i = c.args.number in
    let o = c.args.timed.now in
    let l = c.args.list.now.items in
    let guard = Predicate o.guarded.guard ∷ [] in
    let first : c.map.result ≡ option_map General from.first = search rules in
    let second : c.map-2.result ≡ option_map General from.second = search rules in
    let target : c.map-3.result ≡ option_map Target from.target = search rules in
    let test : c.map-4.result ≡ option_map Predicate from.test = search rules in
    let a = if_any (option_map General from.first) in
    let b = if_any (option_map General from.second) in
    let d = if_any (option_map Target from.target) in
    let e = if_any (option_map Predicate from.test) in
    let f = if_any (then_some from.memory Memory) in
    let l1 = c.add_read.new.list.items in
    let l2 = c.add_read-2.new.list.items in
    let l3 = c.add_read-3.new.list.items in
    let l4 = c.add_read-4.new.list.items in
    let l5 = c.add_read-5.new.list.items in
    let r = c.add_read-6.new.list.items in
    let by_one : IsAdded i o l guard l1 = c.in_ok-add_read.ensures in
    let by_two : IsAdded i o l1 a l2 = rw (← first) c.in_ok-add_read-2.ensures in
    let by_three : IsAdded i o l2 b l3 = rw (← second) c.in_ok-add_read-3.ensures in
    let by_four : IsAdded i o l3 d l4 = rw (← target) c.in_ok-add_read-4.ensures in
    let by_five : IsAdded i o l4 e l5 = rw (← test) c.in_ok-add_read-5.ensures in
    let memory : c.then_some.result ≡ then_some from.memory Memory = c.then_some.ensures in
    let six = λ (by_six : IsAdded i o l5 (if_any c.then_some.result) r).
    let last : IsAdded i o l5 f r = rw (← memory) by_six in
    let all = added_then i o l l1 r guard (a ++ (b ++ (d ++ (e ++ f)))) by_one
    (added_then i o l1 l2 r a (b ++ (d ++ (e ++ f))) by_two
    (added_then i o l2 l3 r b (d ++ (e ++ f)) by_three
    (added_then i o l3 l4 r d (e ++ f) by_four
    (added_then i o l4 l5 r e f by_five last)))) in
    all ∙ ap (λ (s : Sources). l ++ added_reads i o (Predicate o.guarded.guard ∷ operands s)) c.sources-from.ensures in
    IfOk-weaker _ _ _ (λ _ by_six. six by_six) c.add_read-6.ensures
