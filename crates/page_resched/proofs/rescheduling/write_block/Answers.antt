-- From the order of placing to the listing, and to the words.
use Rattle.std.proofs.Common.{length, List, [], ℕ, ap, subst, sym, ◌∙◌, arith}
use Rattle.list_sched.specs.Planned.{schedule_with}
use Rattle.page_resched.specs.Form.{AreForms}
use Rattle.page_resched.specs.Writing.{IsListed}
use Rattle.page_resched.proofs.Listings.{as_many_as}
use Rattle.page_resched.proofs.Pieces.{listed_is, forms_placed}
use Rattle.page_resched.proofs.rescheduling.write_block.Goals as goal

pub list_into-requires-clause-inside : goal.list_into-requires-clause-inside
list_into-requires-clause-inside c = λ k a. let q = c.requires.plan.below k a in let e = c.requires.plan.cycles in omega arith

pub write_words-requires-clause-listed : goal.write_words-requires-clause-listed
write_words-requires-clause-listed c =
    subst (IsListed c.args.cycle.now c.args.end) (sym c.deref.ensures.value)
    (listed_is (length c.args.b.now.words) c.args.order.now c.args.cycle.now c.list_into.new.listed.items c.args.end c.requires.plan (c.list_into.ensures.listing c.args.end))

pub write_words-requires-clause-size : goal.write_words-requires-clause-size
write_words-requires-clause-size c =
    let l = c.list_into.ensures.listing c.args.end in
    let p = c.requires.plan in
    let full =
    as_many_as c.list_into.new.listed.items (length c.args.b.now.words) l.complete.each_once
    (λ k a. p.below k ((l.complete.same k).0 a)) (λ k lt. (l.complete.same k).1 (p.all k lt)) in
    c.requires.size ∙ sym (ap length c.deref.ensures.value ∙ full)

pub returns-clause-listing : goal.returns-clause-listing
returns-clause-listing c = c.list_into.ensures.listing c.args.end

pub returns-clause-forms : goal.returns-clause-forms
returns-clause-forms c =
    let listed = c.list_into.new.listed.items in
    forms_placed c.args.order.now c.args.cycle.now listed c.args.end c.args.b.now.words c.write_words.new.words (c.list_into.ensures.listing c.args.end)
    (subst (λ (l : List ℕ). AreForms c.args.b.now.words (schedule_with l c.args.cycle.now c.args.end) [] l c.write_words.new.words) c.deref.ensures.value c.write_words.ensures)
