use Rattle.std.proofs.Common.{◌≡◌, Bool, true, false, not, ◌++◌, [], ◌∷◌, List, Option, Some, None, map, ap, sym, subst, ◌∙◌, if◌then◌else◌, Result, Ok, Err, refl}
use Rattle.std.specs.Prelude.{bytes_eq, MatchResult}
use Rattle.std.specs.List.{list_any}
use Rattle.vliw_asm.specs.declared.stop.Cause.{Cause}
use Rattle.vliw_asm.specs.declared.stop.Cause.TheVariants as cause
use Rattle.vliw_asm.specs.declared.stop.Stop.{Stop}
use Rattle.vliw_asm.specs.declared.names.Names.{Names}
use Rattle.vliw_asm.specs.Gathered.{AreNames, IsStop, HasJoined, refused_name, refused_definition}
use Rattle.vliw_asm.proofs.Joined.{among, bytes_behind}
use Rattle.vliw_asm.proofs.names.Names.define.Goals as goal

not_false : (b : Bool) → false ≡ not b → b ≡ true
not_false true e = refl
not_false false e = absurd (let no : ⊥ = cc in no)

not_true : (b : Bool) → true ≡ not b → b ≡ false
not_true false e = refl
not_true true e = absurd (let no : ⊥ = cc in no)

pub returns-then-not-branch : goal.returns-then-not-branch
returns-then-not-branch c = λ known defined are.
    let name = c.args.name.now in
    let there : list_any (bytes_eq name) defined ≡ true =
    ap (list_any (bytes_eq name)) (sym are.marked) ∙ sym (among c.args.name c.args.self.now.defined.keys)
    ∙ not_false _ (sym c.if-not-branch.true ∙ c.in_ok-insert.ensures.added) in
    ap (λ (b : Bool). if b then Some cause.Duplicate else refused_name name known) there

pub returns : goal.returns
returns c = λ known defined are.
    let name = c.args.name.now in
    let keys = c.args.self.now.defined.keys in
    let absent = not_true _ (sym c.if-not-branch.false ∙ c.in_ok-insert.ensures.added) in
    let new : list_any (bytes_eq name) defined ≡ false =
    ap (list_any (bytes_eq name)) (sym are.marked) ∙ sym (among c.args.name keys) ∙ absent in
    let last = c.in_ok-insert.ensures.keys ∙ ap (λ (b : Bool). if b then keys else keys ++ c.args.name ∷ []) absent in
    let marked = ap (map (λ name. name.now)) last ∙ bytes_behind keys c.args.name ∙ ap (λ l. l ++ name ∷ []) are.marked in
    let refused : refused_name name known ≡ refused_definition name known defined = ap (λ (b : Bool). if b then Some cause.Duplicate else refused_name name known) (sym new) in
    subst (λ (o : Option Cause). MatchResult c.refer.result (λ number. (o ≡ None) × HasJoined name known (defined ++ name ∷ []) c.refer.new.self number) (IsStop o)) refused
    (c.refer.ensures known (defined ++ name ∷ []) (record { listed = are.listed; marked = marked; few = are.few; short = are.short }))
