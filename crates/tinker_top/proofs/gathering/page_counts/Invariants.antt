use Rattle.std.proofs.Common.{◌≡◌, take}
use Rattle.run_report.specs.Setups.{page_counts as counts_of}
use Rattle.tinker_top.proofs.gathering.page_counts.Given as goal

abbrev pub invariant-loop-setup : goal.invariant-loop-setup
invariant-loop-setup l = l.pages.items ≡ counts_of (take l.setup-index l.setups)
