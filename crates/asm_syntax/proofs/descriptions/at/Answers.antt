use Rattle.std.proofs.Common.{◌≡◌, length, refl, sym, ap, rules, Some}
use Rattle.std.specs.Prelude.{nat_abs, slice_get}
use Rattle.std.proofs.lemmas.Option.{slice_get_read}
use Rattle.asm_syntax.proofs.Described.{at_place, past_place, byte_at}
use Rattle.asm_syntax.proofs.descriptions.at.Goals as goal

-- the lexeme stands at the place
there : (c : goal.After-unsigned_abs) → slice_get c.args.numbers.now c.args.place ≡ Some c.in-Some.lexeme.now
there c =
    let h = c.in-Some.ensures.lookup in
    slice_get_read c.args.numbers.now (length c.args.numbers.now) c.args.place c.in-Some.lexeme.now refl h.3.0 h.1

pub overflow_cast-result : goal.overflow_cast-result
overflow_cast-result c =
    let small = byte_at c.args.numbers.now c.args.place c.in-Some.lexeme.now c.requires (there c) in
    let e = ap nat_abs c.number.ensures in
    search rules

pub returns-in-Some : goal.returns-in-Some
returns-in-Some c =
    let e = ap nat_abs c.number.ensures in
    let p = at_place c.args.numbers.now c.args.place c.in-Some.lexeme.now (there c) in
    search rules

pub returns-in-None : goal.returns-in-None
returns-in-None c = sym (past_place c.args.numbers.now c.args.place c.in-None.ensures.lookup.3)
