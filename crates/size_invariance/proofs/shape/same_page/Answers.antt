use Rattle.std.proofs.Common.{◌≡◌, ℕ, ◌+◌, refl, subst, sym, arith}
use Rattle.std.proofs.lemmas.Bool.{iff_false}
use Rattle.size_invariance.proofs.Walking.{HaveWalked, rows_on, begun, further, same_row, same_rest, whole}
use Rattle.size_invariance.proofs.shape.same_page.Goals as goal

pub loop-row-init : goal.loop-row-init
loop-row-init c =
    record {
      walked = begun c.args.table.now c.first_on-first.ensures.table c.args.page c.args.a.now c.args.b.now c.first_on-first.result c.first_on-end.result (rows_on c.args.table.now c.args.page c.first_on-first.result c.first_on-end.result c.first_on-first.ensures.within c.first_on-end.ensures.within
          c.first_on-first.ensures.before c.first_on-first.ensures.behind c.first_on-end.ensures.before c.first_on-end.ensures.behind);
      left = refl;
      right = refl;
    }

pub returns-then-not-same_row : goal.returns-then-not-same_row
returns-then-not-same_row c =
    let no = c.if-not-same_row.true in (
      λ t. absurd (let k : ⊥ = cc in k),
      λ s. absurd (iff_false c.same_row.ensures.same no
          (same_row c.args.table.now c.first_on-first.ensures.table c.args.page c.args.a.now c.args.b.now c.first_on-first.result c.first_on-end.result (rows_on c.args.table.now c.args.page c.first_on-first.result c.first_on-end.result c.first_on-first.ensures.within c.first_on-end.ensures.within
          c.first_on-first.ensures.before c.first_on-first.ensures.behind c.first_on-end.ensures.before c.first_on-end.ensures.behind)
          c.loop-row.row c.loop-row.place (let l = c.loop-row.auto.row in omega arith) (omega arith) c.loop-row.invariant.walked s)),
    )

pub loop-row-preserved : goal.loop-row-preserved
loop-row-preserved c =
    let yes = c.if-not-same_row.false in
    record {
      walked = subst (λ (place : ℕ). HaveWalked c.args.table.now c.args.page c.first_on-first.result (c.loop-row.row + 1) place c.args.a.now c.args.b.now)
          (sym c.place_behind-place.ensures.value)
          (further c.args.table.now c.first_on-first.ensures.table c.args.page c.args.a.now c.args.b.now c.first_on-first.result c.first_on-end.result (rows_on c.args.table.now c.args.page c.first_on-first.result c.first_on-end.result c.first_on-first.ensures.within c.first_on-end.ensures.within
          c.first_on-first.ensures.before c.first_on-first.ensures.behind c.first_on-end.ensures.before c.first_on-end.ensures.behind)
          c.loop-row.row c.loop-row.place (let l = c.loop-row.auto.row in omega arith) (omega arith) c.loop-row.invariant.walked (c.same_row.ensures.same.0 yes));
      left = c.same_row.ensures.left;
      right = c.same_row.ensures.right;
    }

pub returns : goal.returns
returns c =
    let r = rows_on c.args.table.now c.args.page c.first_on-first.result c.first_on-end.result c.first_on-first.ensures.within c.first_on-end.ensures.within
    c.first_on-first.ensures.before c.first_on-first.ensures.behind c.first_on-end.ensures.before c.first_on-end.ensures.behind in
    let within = r.within in
    let auto = c.loop-row.auto in
    let done = c.loop-row-test.false in
    let all : c.loop-row.row ≡ c.first_on-end.result = omega arith in
    let walked =
    subst (λ (row : ℕ). HaveWalked c.args.table.now c.args.page c.first_on-first.result row c.loop-row.place c.args.a.now c.args.b.now) all
    c.loop-row.invariant.walked in (
      λ t. whole c.args.table.now c.first_on-first.ensures.table c.args.page c.args.a.now c.args.b.now c.first_on-first.result c.first_on-end.result r
          c.loop-row.place walked (c.same_words.ensures.0 t) c.requires.a c.requires.b,
      λ s. c.same_words.ensures.1
          (same_rest c.args.table.now c.first_on-first.ensures.table c.args.page c.args.a.now c.args.b.now c.first_on-first.result c.first_on-end.result r
          c.loop-row.place walked s),
    )
