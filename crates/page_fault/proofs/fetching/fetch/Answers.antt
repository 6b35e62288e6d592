use Rattle.std.proofs.Common.{length, refl}
use Rattle.std.proofs.lemmas.Option.{slice_get_read}
use Rattle.page_fault.proofs.Fetched.{own_fetched, other_fetched, saved_fetched}
use Rattle.page_fault.proofs.fetching.fetch.Goals as goal

pub returns-in-Some : goal.returns-in-Some
returns-in-Some c = saved_fetched c.args.programs.now.items c.args.cache.now c.args.key c.in-Some.words.now c.copy_from_slice.new.self c.requires.saved c.in-Some.ensures.some c.copy_from_slice.ensures.after

pub returns-then-form : goal.returns-then-form
returns-then-form c =
    other_fetched c.args.programs.now.items c.args.cache.now c.args.key c.form.new.out c.index-program.result.now
    (slice_get_read c.args.programs.now.items (length c.args.programs.now.items) c.args.key.program c.index-program.result.now refl c.requires.there.0 c.index-program.ensures)
    c.in_default.ensures.none c.form.ensures.form c.form.result c.form.ensures.moved c.if-form.true

pub returns-else-form : goal.returns-else-form
returns-else-form c =
    own_fetched c.args.programs.now.items c.args.cache.now c.args.key c.form.new.out c.index-program.result.now
    (slice_get_read c.args.programs.now.items (length c.args.programs.now.items) c.args.key.program c.index-program.result.now refl c.requires.there.0 c.index-program.ensures)
    c.in_default.ensures.none c.form.ensures.form c.form.result c.form.ensures.moved c.if-form.false
