-- Row by row.
use Rattle.std.proofs.Common.{◌≡◌, ◌≤◌, ◌+◌, ◌*◌, ◌++◌, ◌∷◌, [], ℕ, List, length, refl, sym, ap, subst, ◌∙◌, arith, rules, mul-le-mul, le_refl}
use Rattle.std.specs.Prelude.{vec_capacity}
use Rattle.block_links.specs.declared.links.Link.{Link}
use Rattle.list_sched.specs.Links.{links_below}
use Rattle.list_sched.proofs.Filled.{IsFilled, none_filled, more_filled, filled_links, filled_delays}
use Rattle.list_sched.proofs.links.fill.Goals as goal

pub loop-i-init : goal.loop-i-init
loop-i-init c = record {
  filled =
      subst (λ (s : List ℕ). IsFilled c.args.d.now s c.clear-2.new.self.items 0) (sym (c.add.ensures.items ∙ ap (λ (s : List ℕ). s ++ 0 ∷ []) c.clear.ensures.items))
      (subst (λ (l : List Link). IsFilled c.args.d.now (0 ∷ []) l 0) (sym c.clear-2.ensures.items) (none_filled c.args.d.now));
  starts = let a = c.add.ensures.room in let b = c.clear.ensures.capacity in omega arith;
  links = let b = c.clear-2.ensures.capacity in omega arith;
}

pub add_row-requires-clause-room : goal.add_row-requires-clause-room
add_row-requires-clause-room c =
    let n = c.args.d.now.count in
    let i = c.loop-i.i in
    let below : i + 1 ≤ n = (let t = c.loop-i-test.true in let e = c.count-i-end.ensures.value in omega arith) in
    let square : (i + 1) * n ≤ n * n = mul-le-mul below (le_refl n) in
    let spread : (i + 1) * n ≡ i * n + n = omega arith in
    let room : length c.loop-i.links.links.items + n ≤ vec_capacity c.loop-i.links.links =
    (let f = c.loop-i.invariant.filled.few in let l = c.loop-i.invariant.links in let q = c.requires.links in omega arith) in
    room

pub loop-i-preserved : goal.loop-i-preserved
loop-i-preserved c =
    let items = c.add_row.ensures.items in
    let many : c.len.result ≡ length c.add_row.new.links.items = search rules in
    let long = many ∙ ap length items in
    record {
      filled =
          subst (λ (s : List ℕ). IsFilled c.args.d.now s c.add_row.new.links.items (c.loop-i.i + 1)) (sym (c.add-in-loop-i.ensures.items ∙ ap (λ (n : ℕ). c.loop-i.links.starts.items ++ n ∷ []) long))
          (subst (λ (l : List Link). IsFilled c.args.d.now (c.loop-i.links.starts.items ++ length (c.loop-i.links.links.items ++ links_below c.args.d.now c.loop-i.i c.args.d.now.count) ∷ []) l (c.loop-i.i + 1)) (sym items)
          (more_filled c.args.d.now c.loop-i.links.starts.items c.loop-i.links.links.items (links_below c.args.d.now c.loop-i.i c.args.d.now.count) c.loop-i.i c.loop-i.invariant.filled refl));
      starts = let a = c.loop-i.invariant.starts in let b = c.add-in-loop-i.ensures.room in omega arith;
      links = let a = c.loop-i.invariant.links in let b = c.add_row.ensures.room in omega arith;
    }

pub returns-clause-links : goal.returns-clause-links
returns-clause-links c =
    let all : c.loop-i.i ≡ c.args.d.now.count = (let t = c.loop-i-test.false in let a = c.loop-i.auto in let e = c.count-i-end.ensures.value in omega arith) in
    filled_links c.args.d.now c.loop-i.links (subst (IsFilled c.args.d.now c.loop-i.links.starts.items c.loop-i.links.links.items) all c.loop-i.invariant.filled) c.count-i-end.ensures.few

pub returns-clause-same : goal.returns-clause-same
returns-clause-same c =
    let all : c.loop-i.i ≡ c.args.d.now.count = (let t = c.loop-i-test.false in let a = c.loop-i.auto in let e = c.count-i-end.ensures.value in omega arith) in
    filled_delays c.args.d.now c.loop-i.links (subst (IsFilled c.args.d.now c.loop-i.links.starts.items c.loop-i.links.links.items) all c.loop-i.invariant.filled) c.count-i-end.ensures.few
