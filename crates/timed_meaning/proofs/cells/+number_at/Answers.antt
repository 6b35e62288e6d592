use Rattle.std.proofs.Common.{ℕ, ◌+◌, ◌*◌, ◌%◌, ◌^◌, ◌<◌, arith}
use Rattle.timed_meaning.proofs.Numbers.{number_fits}
use Rattle.timed_meaning.proofs.cells.+number_at.Goals as goal

fit : (t : ℕ) (c : goal.After-number_at t) → (c.value_at.result % 256 + 256 * c.number_at.result < 256 ^ c.args.n) × (c.value_at.result % 256 + 256 * c.number_at.result < 2 ^ 32)
fit t c =
    let byte : c.value_at.result % 256 < 256 = omega arith in
    number_fits c.args.n (c.value_at.result % 256) c.number_at.result c.requires.few c.if-n-eq0.false byte c.number_at.ensures.bound

pub overflow_mul-result : goal.overflow_mul-result
overflow_mul-result t c = omega (arith, (fit t c).1)

pub overflow_add-result : goal.overflow_add-result
overflow_add-result t c = omega (arith, (fit t c).1)

pub returns-else-n-eq0-clause-bound : goal.returns-else-n-eq0-clause-bound
returns-else-n-eq0-clause-bound t c = (fit t c).0
