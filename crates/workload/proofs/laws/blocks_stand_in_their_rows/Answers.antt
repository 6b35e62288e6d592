use Rattle.workload.proofs.Accepted.{blocks_stand_in_their_rows}
use Rattle.workload.proofs.laws.blocks_stand_in_their_rows.Goals as goal

pub returns : goal.returns
returns c = blocks_stand_in_their_rows
