use Rattle.std.proofs.Common.{◌≡◌, ◌+◌, ◌-◌, inl, inr, arith}
use Rattle.std.proofs.lemmas.Bool.{cases_lt}
use Rattle.dependences.proofs.access.some_clash.Goals as goal

-- two neighbours are those before the place, or they are the two that were compared
pub loop-p-preserved : goal.loop-p-preserved
loop-p-preserved c k k_lt =
    let list = c.args.accesses.now in
    let p = c.loop-p.p in
    elim (cases_lt (k + 1) p) [
      | inl lt ↦ c.loop-p.invariant k lt
      | inr le ↦
          let at : p ≡ k + 1 = omega arith in
          let before : p - 1 ≡ k = omega arith in
          cc
    ]
