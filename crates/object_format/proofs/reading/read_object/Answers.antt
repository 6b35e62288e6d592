use Rattle.std.proofs.Common.{◌≡◌, None, rules, sym, ap, subst, ◌∙◌, arith}
use Rattle.std.proofs.lemmas.List.{get_or_default}
use Rattle.object_format.specs.Rules.{first_broken}
use Rattle.object_format.specs.Bytes.{bytes_of}
use Rattle.object_format.specs.Module.{IsModule}
use Rattle.object_format.proofs.Unbroken.{unbroken}
use Rattle.object_format.proofs.KeepsRules.{keeps_rules}
use Rattle.object_format.proofs.ReadWritten.{all_written}
use Rattle.object_format.proofs.reading.read_object.Goals as goal

pub object-requires : goal.object-requires
object-requires c =
    let none : first_broken c.args.bytes.now ≡ None = search rules in
    (unbroken c.args.bytes.now none).readable

pub returns-in_ok-object-in-None-clause-read : goal.returns-in_ok-object-in-None-clause-read
returns-in_ok-object-in-None-clause-read c =
    let none : first_broken c.args.bytes.now ≡ None = search rules in
    (none, c.in_ok-object-in-None.ensures)

pub returns-in_ok-object-in-None-clause-rules : goal.returns-in_ok-object-in-None-clause-rules
returns-in_ok-object-in-None-clause-rules c =
    let none : first_broken c.args.bytes.now ≡ None = search rules in
    subst IsModule (sym c.in_ok-object-in-None.ensures) (keeps_rules c.args.bytes.now (unbroken c.args.bytes.now none) (λ k d below.
    let same = get_or_default c.args.bytes.now k d 0 below in
    let fits = c.type_inv.bytes k in
    omega (arith, same, fits)))

pub returns-in_ok-object-in-None-clause-written_again : goal.returns-in_ok-object-in-None-clause-written_again
returns-in_ok-object-in-None-clause-written_again c =
    let none : first_broken c.args.bytes.now ≡ None = search rules in
    ap bytes_of c.in_ok-object-in-None.ensures
    ∙ all_written c.args.bytes.now (unbroken c.args.bytes.now none) (λ k d below.
    let same = get_or_default c.args.bytes.now k d 0 below in
    let fits = c.type_inv.bytes k in
    omega (arith, same, fits))
