-- The three words of the context are there.
use Rattle.std.proofs.Common.{◌<◌, List, length, map, sym, subst, arith}
use Rattle.std.specs.Prelude.{string_bytes}
use Rattle.std.proofs.lemmas.List.{length-map}
use Rattle.tinker_words.specs.Words.{NamedContext}
use Rattle.tinker_words.proofs.Named.{inside_words}
use Rattle.tinker_words.proofs.words.Contexts.context.Goals as goal

pub context_in-requires : goal.context_in-requires
context_in-requires c =
    let many = length-map c.self.inside.words.now string_bytes in
    let there : c.args.i < length c.args.self.now = c.requires in
    let lt =
    inside_words (map string_bytes c.self.inside.words.now) c.args.i c.self.invariant
    (subst (λ (l : List NamedContext). c.args.i < length l) (sym c.self.view_is) there) in
    omega arith
