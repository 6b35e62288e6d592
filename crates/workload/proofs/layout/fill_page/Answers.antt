use Rattle.std.proofs.Common.{◌≡◌, ◌+◌, ◌*◌, ◌/◌, length, arith}
use Rattle.workload.specs.Layout.{page_end}
use Rattle.workload.proofs.Gaps.{page_end_behind, resized}
use Rattle.workload.proofs.layout.fill_page.Goals as goal

pub returns : goal.returns
unfolding page_end
returns c =
    let old = c.args.words.now.items in
    let end : (c.len.result + 511) / 512 * 512 ≡ page_end (length old) = omega arith in
    resized c.resize.result old c.resize.new.self.items _ ((c.len.result + 511) / 512 * 512)
    (page_end (length old)) c.resize.ensures.items (omega arith)
    end (page_end_behind (length old))
