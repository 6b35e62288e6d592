use Rattle.block_links.proofs.Chains.{covers_span}
use Rattle.block_links.proofs.laws.covers_span.Goals as goal

pub returns : goal.returns
returns c = covers_span
