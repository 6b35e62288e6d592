use Rattle.std.proofs.Common.{◌≡◌, refl, sym, ap, subst, ◌∙◌, arith}
use Rattle.std.specs.Prelude.{slice_get, Some}
use Rattle.std.proofs.lemmas.Option.{slice_get-get_or, slice_get_within}
use Rattle.page_fault.specs.declared.Loaded.{Loaded}
use Rattle.contexts.specs.Standing.{AreSame}
use Rattle.contexts.proofs.Lists.{one_more_so}
use Rattle.contexts.proofs.opening.number_of.Goals as goal

pub returns-then-are_same : goal.returns-then-are_same
returns-then-are_same c =
    let q : Loaded = c.index-programs-n.result in
    let at : slice_get c.args.programs.now c.loop-n.n ≡ Some q =
    slice_get-get_or c.args.programs.now c.loop-n.n q c.loop-n-test.true ∙ ap (λ (q : Loaded). Some q) (sym c.index-programs-n.is) in
    record {
      within = let t = c.loop-n-test.true in omega arith;
      same = λ r e. let one : q ≡ r = cc in subst (λ (r : Loaded). AreSame r c.args.program.now) one (c.if-are_same.ensures.0 refl);
      first = c.loop-n.invariant;
    }

pub loop-n-preserved : goal.loop-n-preserved
loop-n-preserved c =
    let q : Loaded = c.index-programs-n.result in
    let at : slice_get c.args.programs.now c.loop-n.n ≡ Some q =
    slice_get-get_or c.args.programs.now c.loop-n.n q c.loop-n-test.true ∙ ap (λ (q : Loaded). Some q) (sym c.index-programs-n.is) in
    one_more_so (λ (r : Loaded). AreSame r c.args.program.now → ⊥) c.args.programs.now c.loop-n.n q at (λ same. let h = c.if-are_same.ensures.1 same in let no : ⊥ = cc in no) c.loop-n.invariant

pub returns : goal.returns
returns c = record {
  within = omega arith;
  same = λ r e. absurd (let w = slice_get_within c.args.programs.now _ r e in omega arith);
  first = λ m q lt at same. c.loop-n.invariant m q (let t = c.loop-n-test.false in omega arith) at same;
}
