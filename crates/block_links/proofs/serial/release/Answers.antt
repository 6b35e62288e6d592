-- Link by link.
use Rattle.std.proofs.Common.{◌≡◌, ◌≢◌, ◌<◌, ◌-◌, ◌++◌, ◌∷◌, [], ℕ, List, length, get_or, sym, ap, subst, ◌∙◌, arith, append_assoc}
use Rattle.std.specs.Prelude.{slice_index, slice_set, vec_capacity}
use Rattle.std.proofs.lemmas.List.{take_more, length-set}
use Rattle.block_links.specs.declared.links.Dependence.TheVariants.{Flow}
use Rattle.block_links.specs.declared.links.Link.{Link}
use Rattle.block_links.specs.Idle.{AreIdle}
use Rattle.block_links.proofs.Counted.{waits_still, off_more, off_other}
use Rattle.block_links.proofs.Idle.{idle_joined, idle_still, idle_room, waiting_out}
use Rattle.block_links.proofs.serial.release.Goals as goal
use Rattle.block_links.proofs.serial.release.Goals.{then-waits-to-eq0, else-waits-to-eq0}

abbrev none : Link
none = record { to = 0; dependence = Flow }

pub overflow_sub-waits : goal.overflow_sub-waits
overflow_sub-waits c =
    let k = c.loop-link.link-index in
    let x : Link = get_or c.args.links.now k none in
    waits_still c.args.links.now k c.loop-link-test.true x (take_more c.args.links.now k none c.loop-link-test.true) c.args.waits.now c.loop-link.waits c.loop-link.invariant.size
    (c.requires.inside k none c.loop-link-test.true) c.requires.counted c.loop-link.invariant.off

pub add-requires : goal.add-requires
add-requires c =
    let k = c.loop-link.link-index in
    let links = c.args.links.now in
    let x : Link = get_or links k none in
    let waits = c.loop-link.waits in
    let size = c.loop-link.invariant.size in
    let inside = c.requires.inside k none c.loop-link-test.true in
    let still = waits_still links k c.loop-link-test.true x (take_more links k none c.loop-link-test.true) c.args.waits.now waits size inside c.requires.counted c.loop-link.invariant.off in
    let idle = c.loop-link.invariant.idle in
    let room = idle_room (length waits) waits c.loop-link.order.items idle x.to (omega arith) (waiting_out (length waits) waits c.loop-link.order.items idle x.to still) in
    let r = c.requires.room in
    let m = c.loop-link.invariant.room in
    omega arith

pub loop-link-preserved : goal.loop-link-preserved
loop-link-preserved c =
    let k = c.loop-link.link-index in
    let links = c.args.links.now in
    let x : Link = get_or links k none in
    let next = take_more links k none c.loop-link-test.true in
    let initial = c.args.waits.now in
    let waits = c.loop-link.waits in
    let waits' : List ℕ = slice_set waits x.to (slice_index waits x.to - 1) in
    let order = c.loop-link.order.items in
    let size = c.loop-link.invariant.size in
    let inside : x.to < length initial = c.requires.inside k none c.loop-link-test.true in
    let long : length waits' ≡ length waits = length-set waits x.to (slice_index waits x.to - 1) in
    let still = waits_still links k c.loop-link-test.true x next initial waits size inside c.requires.counted c.loop-link.invariant.off in
    let off = off_more links k c.loop-link-test.true x next initial waits size inside c.requires.counted c.loop-link.invariant.off in
    let others : (j : ℕ) → j ≢ x.to → slice_index waits' j ≡ slice_index waits j = off_other links k c.loop-link-test.true x next initial waits size inside c.requires.counted c.loop-link.invariant.off in
    let behind = c.loop-link.invariant.behind in
    elim c.if-waits-to-eq0.branch [
      | then-waits-to-eq0 w ↦ record {
        size = long ∙ size;
        off = off;
        idle =
            subst (λ o. AreIdle (length waits') waits' o.items) (sym w.order-is) (subst (λ (o : List ℕ). AreIdle (length waits') waits' o) (sym w.add.ensures.items) (subst (λ m. AreIdle m waits' (order ++ x.to ∷ [])) (sym long)
            (idle_joined (length waits) waits order c.loop-link.invariant.idle waits' x.to (omega arith) still others w.if-waits-to-eq0.true)));
        behind = (
          behind.0 ++ x.to ∷ [],
          ap (λ o. o.items) w.order-is ∙ w.add.ensures.items ∙ ap (λ (o : List ℕ). o ++ x.to ∷ []) behind.1 ∙ append_assoc c.args.order.now.items behind.0 (x.to ∷ []),
        );
        room = let a = c.loop-link.invariant.room in let b = w.add.ensures.room in let e = ap vec_capacity w.order-is in omega arith;
      }
      | else-waits-to-eq0 w ↦ record {
        size = long ∙ size;
        off = off;
        idle =
            subst (λ o. AreIdle (length waits') waits' o.items) (sym w.order-is) (subst (λ m. AreIdle m waits' order) (sym long)
            (idle_still (length waits) waits order c.loop-link.invariant.idle waits' x.to (omega arith) still others w.if-waits-to-eq0.false));
        behind = (behind.0, ap (λ o. o.items) w.order-is ∙ behind.1);
        room = let a = c.loop-link.invariant.room in let e = ap vec_capacity w.order-is in omega arith;
      }
    ]
