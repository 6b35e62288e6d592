use Rattle.block_links.proofs.Chains.{chains_keep_the_stuck}
use Rattle.block_links.proofs.laws.chains_keep_the_stuck.Goals as goal

pub returns : goal.returns
returns c = chains_keep_the_stuck
