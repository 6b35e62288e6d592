use Rattle.std.proofs.Common.{◌≡◌, ◌+◌, ◌-◌, ◌%◌, ℕ, List, take, drop, refl, sym, ap, subst, ◌∙◌, arith}
use Rattle.block_table.specs.Rows.{Rows, entry_of, count_of}
use Rattle.size_invariance.specs.Shape.{HaveSameOperations, block_words}
use Rattle.size_invariance.specs.Walk.{AreEqualWithin}
use Rattle.size_invariance.proofs.shape.same_row.Goals as goal

-- the words of a block as a part of the page's
part_is : (rows : Rows) (k entry count : ℕ) (words : List ℕ) → entry ≡ entry_of rows k → count ≡ count_of rows k →
    take (entry % 512 + count - entry % 512) (drop (entry % 512) words) ≡ block_words rows k words
part_is rows k entry count words e f =
    let n : entry % 512 + count - entry % 512 ≡ count = omega arith in
    ap (λ i. take i (drop (entry % 512) words)) (n ∙ f) ∙ ap (λ i. take (count_of rows k) (drop (i % 512) words)) e

pub returns-clause-same : goal.returns-clause-same
returns-clause-same c =
    let rows : Rows = c.args.table.now in
    let a = part_is rows c.args.row c.entry.result c.count.result c.args.a.now c.entry.ensures.value c.count.ensures.value in
    let b = part_is rows c.args.row c.entry.result c.count.result c.args.b.now c.entry.ensures.value c.count.ensures.value in
    let o = c.same_operations.ensures.same in
    let w = c.if-not-same_words.ensures in
    let part = λ (words : List ℕ). take (c.entry.result % 512 + c.count.result - c.entry.result % 512) (drop (c.entry.result % 512) words) in (
      λ t. record {
        before = subst (λ (e : ℕ). AreEqualWithin c.args.a.now c.args.b.now c.args.begin (e % 512)) c.entry.ensures.value (w.0 refl);
        operations =
            subst (λ (l : List ℕ). HaveSameOperations l (block_words rows c.args.row c.args.b.now)) a
            (subst (HaveSameOperations (part c.args.a.now)) b (o.0 t));
      },
      λ s. o.1
          (subst (λ (l : List ℕ). HaveSameOperations l (part c.args.b.now)) (sym a)
          (subst (HaveSameOperations (block_words rows c.args.row c.args.a.now)) (sym b) s.operations)),
    )
