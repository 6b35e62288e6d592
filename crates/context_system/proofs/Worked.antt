-- The worked runs, computed from the definitions.
use Rattle.std.proofs.Common.{refl}
use Rattle.list_encoding.specs.Reading.{guarded_in, mnemonic_at}
use Rattle.paging.specs.Example.{HasCounts}
use Rattle.context_system.specs.Example.{HasHalted, AreWorked, beside, alone}

first : HasHalted (beside 1) 0 3
unfolding guarded_in mnemonic_at
first = record { ended = refl; output = refl; took = refl }

second : HasHalted (beside 1) 1 2
unfolding guarded_in mnemonic_at
second = record { ended = refl; output = refl; took = refl }

one_saved : HasCounts (beside 1).paging 5 2 0 4
unfolding guarded_in mnemonic_at
one_saved = record { loads = refl; forms = refl; restores = refl; evictions = refl }

two_saved : HasCounts (beside 2).paging 5 1 3 4
unfolding guarded_in mnemonic_at
two_saved = record { loads = refl; forms = refl; restores = refl; evictions = refl }

third : HasHalted alone 0 3
unfolding guarded_in mnemonic_at
third = record { ended = refl; output = refl; took = refl }

evicted : HasCounts alone.paging 2 0 1 1
unfolding guarded_in mnemonic_at
evicted = record { loads = refl; forms = refl; restores = refl; evictions = refl }

pub are_worked : AreWorked
are_worked = record { first = first; second = second; one_saved = one_saved; two_saved = two_saved; third = third; evicted = evicted }
