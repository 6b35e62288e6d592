use Rattle.std.proofs.Common.{◌≡◌, ℕ, List, ◌+◌, ◌++◌, ◌∷◌, [], sym, ap, ◌∙◌, subst, length, drop, arith}
use Rattle.object_format.specs.Layout.{names, names_offset}
use Rattle.object_format.proofs.NamesSeen.{Walking, walking_begun, name_whole, name_read, walking_on, name_there}
use Rattle.object_format.proofs.reading.names.Goals as goal

pub loop-k-init : goal.loop-k-init
loop-k-init c = record { walking = subst (Walking c.args.bytes.now c.args.count 0) (sym c.names_offset-end.ensures.offset) (walking_begun c.args.bytes.now c.args.count); read = c.in_ok-names.ensures.items }

pub name_at-name-requires : goal.name_at-name-requires
name_at-name-requires c = name_whole c.args.bytes.now c.args.count c.loop-k._k c.loop-k.end c.loop-k-test.true c.requires.there c.loop-k.invariant.walking

pub loop-k-preserved : goal.loop-k-preserved
loop-k-preserved c =
    let bytes = c.args.bytes.now in
    let same : c.name_at-name.result.now ≡ name_there bytes c.loop-k.end = c.name_at-name.ensures in
    let inside = name_whole bytes c.args.count c.loop-k._k c.loop-k.end c.loop-k-test.true c.requires.there c.loop-k.invariant.walking in
    let fits = c.type_inv.bytes c.loop-k.end in
    record {
      walking =
          subst (λ (n : List ℕ). Walking bytes c.args.count (c.loop-k._k + 1) (c.loop-k.end + (1 + length n))) (sym same)
          (walking_on bytes c.args.count c.loop-k._k c.loop-k.end c.loop-k-test.true (omega (arith, fits)) inside c.loop-k.invariant.walking);
      read =
          c.in_ok-push.ensures.items
          ∙ ap (λ ns. ns ++ c.in_ok-of.field-0 ∷ []) c.loop-k.invariant.read
          ∙ ap (λ n. names c.loop-k._k (drop (names_offset bytes) bytes) ++ n ∷ []) (c.in_ok-of.ensures ∙ same)
          ∙ sym (name_read bytes c.args.count c.loop-k._k c.loop-k.end c.loop-k.invariant.walking);
    }

pub returns : goal.returns
returns c =
    let e : c.loop-k._k ≡ c.args.count = omega arith in
    c.loop-k.invariant.read ∙ ap (λ n. names n (drop (names_offset c.args.bytes.now) c.args.bytes.now)) e
