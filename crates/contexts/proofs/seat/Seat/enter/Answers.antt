use Rattle.std.proofs.Common.{◌+◌, Bool, cond, refl, sym, ap, ◌∙◌, Some, None}
use Rattle.std.proofs.lemmas.Bool.{lt-ltb, le-ltb}
use Rattle.operation.specs.declared.End.TheVariants as end
use Rattle.contexts.proofs.seat.Seat.enter.Goals as goal

-- the bound is come to
pub returns-then-self : goal.returns-then-self
returns-then-self c to at = record {
  kept = record { program = refl; machine = refl; bound = refl };
  place = c.of-self.ensures.place;
  entry = c.of-self.ensures.entry ∙ sym at;
  first = refl;
  blocks = refl;
  end = ap (λ (b : Bool). cond b None (Some end.Bound)) (sym (le-ltb (c.args.self.now.blocks + 1) c.args.self.now.bound c.if-self.true));
}

-- it isn't yet
pub returns-else-self : goal.returns-else-self
returns-else-self c to at = record {
  kept = record { program = refl; machine = refl; bound = refl };
  place = c.of-self.ensures.place;
  entry = c.of-self.ensures.entry ∙ sym at;
  first = refl;
  blocks = refl;
  end = c.requires.going ∙ ap (λ (b : Bool). cond b None (Some end.Bound)) (sym (lt-ltb (c.args.self.now.blocks + 1) c.args.self.now.bound c.if-self.false));
}
