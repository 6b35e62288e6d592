-- One more operation.
use Rattle.std.proofs.Common.{◌≡◌, List, [], ◌∷◌, ◌++◌, length, map, sym, ap, ◌∙◌, arith}
use Rattle.std.specs.List.{range_with_len}
use Rattle.std.proofs.lemmas.List.FromFn.{map-range_with_len_more, length-map-range_with_len}
use Rattle.operation.specs.declared.Guarded.{Guarded}
use Rattle.operation.specs.declared.UnitKind.{UnitKind}
use Rattle.operation.specs.declared.LatKind.{LatKind}
use Rattle.operation.specs.Places.{unit_kind, latency_kind}
use Rattle.page_resched.specs.Writing.{kinds_at}
use Rattle.page_resched.proofs.rescheduling.kinds_into.Goals as goal

pair : (u v : UnitKind) (k l : LatKind) → u ≡ v → k ≡ l → ◌≡◌ {A = UnitKind × LatKind} (u, k) (v, l)
pair u v k l e f = cc

pub add-requires : goal.add-requires
add-requires c =
    let l = ap length c.loop-i.invariant.kinds ∙ length-map-range_with_len (kinds_at c.args.b.now) 0 c.loop-i.i in
    let t = c.loop-i-test.true in
    let e = c.count-i-end.ensures.count in
    let few = c.count-i-end.ensures.good.few in
    let r = c.loop-i.invariant.room in
    omega arith

pub loop-i-preserved : goal.loop-i-preserved
loop-i-preserved c =
    let b = c.args.b.now in
    let i = c.loop-i.i in
    let unit_is = c.unit.ensures ∙ ap (λ (o : Guarded). unit_kind o.op) c.op.ensures in
    let kind_is = c.lat_kind.ensures ∙ ap (λ (o : Guarded). latency_kind o.op) c.op.ensures in
    record {
      kinds =
          c.add.ensures.items
          ∙ ap (λ (l : List (UnitKind × LatKind)). l ++ (c.unit.result, c.lat_kind.result) ∷ []) c.loop-i.invariant.kinds
          ∙ ap (λ (x : UnitKind × LatKind). map (kinds_at b) (range_with_len 0 i) ++ x ∷ []) (pair _ _ _ _ unit_is kind_is)
          ∙ sym (map-range_with_len_more (kinds_at b) 0 i i (omega arith));
      room = let r = c.loop-i.invariant.room in let m = c.add.ensures.room in omega arith;
      more = let r = c.loop-i.invariant.more in let m = c.add.ensures.room in omega arith;
    }
