-- Pair by pair.
use Rattle.std.proofs.Common.{◌≡◌, ◌++◌, ◌∷◌, [], List, length, sym, ap, ◌∙◌, arith, append-nil, append_assoc, rules, Some, None}
use mir.Val.{SFits, to_z, of_z}
use mir.Syntax.{w8}
use Rattle.std.proofs.lemmas.Int.{to_z-of_z}
use Rattle.std.specs.Prelude.{vec_capacity, ℤ}
use Rattle.std.proofs.lemmas.List.{length_push}
use Rattle.serial_order.specs.Table.{delay_of}
use Rattle.block_links.specs.declared.links.Dependence.TheVariants.{Given}
use Rattle.block_links.specs.declared.links.Link.{Link}
use Rattle.list_sched.specs.Links.{links_below, link_if}
use Rattle.list_sched.proofs.Rows.{below_none, below_more}
use Rattle.list_sched.proofs.links.add_row.Goals as goal
use Rattle.list_sched.proofs.links.add_row.Goals.{in-Some, in_default}

pub loop-j-init : goal.loop-j-init
loop-j-init c = record {
  items = sym (append-nil c.args.links.now.items) ∙ ap (λ r. c.args.links.now.items ++ r) (sym (below_none c.args.d.now c.args.i));
  few = omega arith;
  room = omega arith;
}

pub loop-j-preserved : goal.loop-j-preserved
loop-j-preserved c = elim c.match-get.branch [
  | in-Some w ↦
      (let d = w.in-Some.delay in
      let j = c.loop-j.j in
      let fits : SFits w8 d = search rules in
      let plain : to_z w8 (of_z w8 d) ≡ d = to_z-of_z w8 d fits in
      let there : delay_of c.args.d.now c.args.i j ≡ Some d = sym c.get.ensures ∙ w.in-Some.is in
      let row = below_more c.args.d.now c.args.i j in
      record {
        items =
            ap (λ (l : _). l.items) w.links-is ∙ w.add.ensures.items
            ∙ ap (λ (z : ℤ). c.loop-j.links.items ++ record { to = j; dependence = Given z } ∷ []) plain
            ∙ ap (λ (l : List Link). l ++ link_if j (Some d)) c.loop-j.invariant.items
            ∙ append_assoc c.args.links.now.items (links_below c.args.d.now c.args.i j) (link_if j (Some d))
            ∙ ap (λ (l : List Link). c.args.links.now.items ++ l) (ap (λ o. links_below c.args.d.now c.args.i j ++ link_if j o) (sym there) ∙ sym row);
        few = let a = ap length (ap (λ (l : _). l.items) w.links-is ∙ w.add.ensures.items) ∙ length_push c.loop-j.links.items _ in let f = c.loop-j.invariant.few in omega arith;
        room = let r = c.loop-j.invariant.room in let m = w.add.ensures.room in let e = ap vec_capacity w.links-is in omega arith;
      })
  | in_default w ↦
      (let j = c.loop-j.j in
      let there : delay_of c.args.d.now c.args.i j ≡ None = sym c.get.ensures ∙ w.in_default.is in
      let row = below_more c.args.d.now c.args.i j in
      record {
        items =
            ap (λ (l : _). l.items) w.links-is ∙ c.loop-j.invariant.items
            ∙ ap (λ (l : List Link). c.args.links.now.items ++ l) (sym (append-nil (links_below c.args.d.now c.args.i j)) ∙ ap (λ o. links_below c.args.d.now c.args.i j ++ link_if j o) (sym there) ∙ sym row);
        few = let e = ap (λ (l : _). length l.items) w.links-is in let f = c.loop-j.invariant.few in omega arith;
        room = let r = c.loop-j.invariant.room in let e = ap vec_capacity w.links-is in omega arith;
      })
]
