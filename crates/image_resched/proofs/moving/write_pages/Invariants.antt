use Rattle.image_resched.specs.Forms.{AreFormsBelow}
use Rattle.image_resched.proofs.moving.write_pages.Given as goal

-- the pages so far are there
abbrev pub invariant-loop-n : goal.invariant-loop-n
invariant-loop-n g l = AreFormsBelow l.n l.a (g.G.Generation.description l.g) l.words
