-- The page's own words, or its form.
use Rattle.std.proofs.Common.{length, ap, sym, ◌∙◌}
use Rattle.page_resched.proofs.rescheduling.Resched.page.Goals as goal

pub copy_from_slice-requires : goal.copy_from_slice-requires
copy_from_slice-requires g c = c.requires.size ∙ sym (ap length c.words.ensures.words ∙ c.words.ensures.page.whole)

pub returns-then-same : goal.returns-then-same
returns-then-same g c = record {
  same = λ e. c.copy_from_slice.ensures.after ∙ c.words.ensures.words;
  other = λ ne. absurd (ne (c.same.ensures.0 c.if-same.true));
}
