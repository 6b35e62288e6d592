use Rattle.std.proofs.Common.{◌∙◌, ap, length, arith}
use Rattle.workload.specs.Layout.{placed}
use Rattle.workload.proofs.Gaps.{placed_behind, resized}
use Rattle.workload.proofs.layout.push_gap.Goals as goal

pub returns : goal.returns
returns c =
    let old = c.args.words.now.items in
    resized c.resize.result old c.resize.new.self.items _ c.place.result
    (placed (length old) c.args.count) c.resize.ensures.items (omega arith)
    (c.place.ensures ∙ ap (λ n. placed n c.args.count) (omega arith)) (placed_behind (length old) c.args.count)
