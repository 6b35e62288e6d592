use Rattle.std.proofs.Common.{rules}
use Rattle.std.proofs.lemmas.List.Sorted.{answers_always}
use Rattle.timed_meaning.specs.declared.TimedBlock.{TimedBlock}
use Rattle.timed_meaning.proofs.Finding.{search_finds}
use Rattle.timed_meaning.proofs.evaluate.find_block.Goals as goal

-- the closure gives a block's entry
pub returns-clause-found : goal.returns-clause-found
returns-clause-found c =
    let facts = c.binary_search_by_key.ensures in
    let by_entry = facts.position (λ (b : TimedBlock). b.entry) (answers_always _ _ _ (λ f a r g called. search rules)) in
    rw c.ok.ensures.value
    (search_finds c.args.program.now.blocks.items c.args.entry c.binary_search_by_key.result c.requires.entries (rw c.deref.ensures.value at facts.bound) (rw c.deref.ensures.value at by_entry))
