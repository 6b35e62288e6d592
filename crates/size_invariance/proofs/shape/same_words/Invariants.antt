use Rattle.size_invariance.specs.Walk.{AreEqualWithin}
use Rattle.size_invariance.proofs.shape.same_words.Given as goal

abbrev pub invariant-loop-i : goal.invariant-loop-i
invariant-loop-i l = AreEqualWithin l.a l.b l.begin l.i
