use Rattle.std.proofs.Common.{rules, inl}
use Rattle.tnk_base.proofs.memory.MemoryHostHost.fetch.Goals as goal

-- the number is among those that fail
pub returns-then-branch-clause-answers : goal.returns-then-branch-clause-answers
returns-then-branch-clause-answers c = inl (search rules)
