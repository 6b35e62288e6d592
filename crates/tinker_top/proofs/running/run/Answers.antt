-- The contexts are fetched, then their script, and they run.
use Rattle.std.proofs.Common.{◌≡◌, ℕ, List, Vec, Global, Option, None, Result, Ok, Err, refl, subst, sym, ap, ◌∙◌}
use Rattle.context_system.specs.Context.{Setup}
use Rattle.contexts.specs.declared.Setup.{Setup as Given}
use Rattle.event_script.specs.declared.reading.Line.{Line}
use Rattle.tnk_base.specs.Host.{Files, Shown}
use Rattle.tinker_top.specs.declared.steps.Stop.{Stop}
use Rattle.tinker_top.specs.declared.steps.Stop.TheVariants.{Memory}
use Rattle.tinker_top.specs.Outcome.{says}
use Rattle.tinker_top.specs.Command.{with_contexts, with_script, pages_of, run_of, run_with, run_command}
use Rattle.run_report.specs.Setups.{all_given, page_counts}
use Rattle.tinker_top.specs.Steps.{ComesTo, GivesTo, IsRun}
use Rattle.tinker_top.proofs.Onward.{passed_on, stops, comes_on, run_stops, leads_to_same, begins_with_none}
use Rattle.tinker_top.proofs.Gathered.{pages_are}
use Rattle.tinker_top.proofs.running.run.Goals as goal

pub returns-in_err-setups-clause-come : goal.returns-in_err-setups-clause-come
returns-in_err-setups-clause-come g c = λ forms are files told.
    let n = c.args.named.now in
    let s = c.args.settings.now in
    let old = g.H.Host.shows c.args.host.now in
    let new = g.H.Host.shows c.gathered.new.host in
    let why = c.in_err-setups.field-0.0 in
    subst (λ r. ComesTo (run_command forms s n files) r old new) (sym (passed_on c.from_residual.result why c.from_residual.ensures))
    (stops {V = Vec Given Global} {X = List Setup} (all_given forms) (with_contexts forms s n files) (run_with s files) why old new (c.in_err-setups.ensures.given forms files told))

pub returns-in_err-pages-clause-come : goal.returns-in_err-pages-clause-come
returns-in_err-pages-clause-come g c = λ forms are files told.
    let n = c.args.named.now in
    let s = c.args.settings.now in
    let old = g.H.Host.shows c.args.host.now in
    let new = g.H.Host.shows c.gathered.new.host in
    let setups = c.in_ok-setups.setups in
    subst (λ r. ComesTo (run_command forms s n files) r old new) (sym (passed_on c.from_residual-in_err-pages.result Memory c.from_residual-in_err-pages.ensures))
    (comes_on {V = Vec Given Global} {X = List Setup} (all_given forms) (with_contexts forms s n files) (run_with s files) setups old new new (Err Memory)
    (c.in_ok-setups.ensures.given forms files told) (begins_with_none (run_with s files (all_given forms setups)) new new refl))

-- a script that was given is that of the contexts' pages
script_is : (files : Files) (name other : Option (List ℕ)) (counts these : List ℕ) (r : Result (Vec Line Global) Stop) (old new : Shown) → name ≡ other → counts ≡ these →
    GivesTo {V = Vec Line Global} {X = List Line} (λ lines. lines.items) (with_script name counts files) r old new →
    GivesTo {V = Vec Line Global} {X = List Line} (λ lines. lines.items) (with_script other these files) r old new
script_is files name other counts these r old new e f h =
    subst (λ n. GivesTo {V = Vec Line Global} {X = List Line} (λ lines. lines.items) (with_script n these files) r old new) e
    (subst (λ p. GivesTo {V = Vec Line Global} {X = List Line} (λ lines. lines.items) (with_script name p files) r old new) f h)

pub returns-in_err-lines-clause-come : goal.returns-in_err-lines-clause-come
returns-in_err-lines-clause-come g c = λ forms are files told.
    let n = c.args.named.now in
    let s = c.args.settings.now in
    let old = g.H.Host.shows c.args.host.now in
    let mid = g.H.Host.shows c.gathered.new.host in
    let new = g.H.Host.shows c.script-2.new.host in
    let why = c.in_err-lines.field-0.0 in
    let setups = c.in_ok-setups.setups in
    let all = all_given forms setups in
    subst (λ r. ComesTo (run_command forms s n files) r old new) (sym (passed_on c.from_residual-in_err-lines.result why c.from_residual-in_err-lines.ensures))
    (comes_on {V = Vec Given Global} {X = List Setup} (all_given forms) (with_contexts forms s n files) (run_with s files) setups old mid new (Err why)
    (c.in_ok-setups.ensures.given forms files told)
    (stops {V = Vec Line Global} {X = List Line} (λ lines. lines.items) (with_script s.script (pages_of all) files) (run_of s all) why mid new
    (script_is files _ s.script _ (pages_of all) (Err why) mid new c.script.ensures (c.deref-2.ensures.value ∙ c.in_ok-pages.ensures ∙ ap page_counts c.deref.ensures.value ∙ sym (pages_are forms setups.items))
    (c.in_err-lines.ensures.given files (c.in_ok-setups.ensures.reads.stands.files ∙ told)))))

pub returns-in_err-ran-clause-come : goal.returns-in_err-ran-clause-come
returns-in_err-ran-clause-come g c = λ forms are files told.
    let n = c.args.named.now in
    let s = c.args.settings.now in
    let old = g.H.Host.shows c.args.host.now in
    let mid = g.H.Host.shows c.gathered.new.host in
    let new = g.H.Host.shows c.script-2.new.host in
    let why = c.in_err-ran.field-0.0 in
    let setups = c.in_ok-setups.setups in
    let lines = c.in_ok-lines.lines in
    let all = all_given forms setups in
    subst (λ r. ComesTo (run_command forms s n files) r old new) (sym (passed_on c.from_residual-in_err-ran.result why c.from_residual-in_err-ran.ensures))
    (comes_on {V = Vec Given Global} {X = List Setup} (all_given forms) (with_contexts forms s n files) (run_with s files) setups old mid new (Err why)
    (c.in_ok-setups.ensures.given forms files told)
    (comes_on {V = Vec Line Global} {X = List Line} (λ lines. lines.items) (with_script s.script (pages_of all) files) (run_of s all) lines mid new new (Err why)
    (script_is files _ s.script _ (pages_of all) (Ok lines) mid new c.script.ensures (c.deref-2.ensures.value ∙ c.in_ok-pages.ensures ∙ ap page_counts c.deref.ensures.value ∙ sym (pages_are forms setups.items))
    (c.in_ok-lines.ensures.given files (c.in_ok-setups.ensures.reads.stands.files ∙ told)))
    (run_stops s all lines.items why new
    (subst (λ (l : List Line). IsRun s all l (Err why)) c.deref-3.ensures.value (c.in_err-ran.ensures.run forms are)))))

pub returns-clause-come : goal.returns-clause-come
returns-clause-come g c = λ forms are files told.
    let n = c.args.named.now in
    let s = c.args.settings.now in
    let old = g.H.Host.shows c.args.host.now in
    let mid = g.H.Host.shows c.gathered.new.host in
    let new = g.H.Host.shows c.script-2.new.host in
    let setups = c.in_ok-setups.setups in
    let lines = c.in_ok-lines.lines in
    let all = all_given forms setups in
    let text = c.in_ok-ran.field-0 in
    let so : run_of s all lines.items ≡ says 0 text.items = subst (λ (l : List Line). run_of s all l ≡ says 0 text.items) c.deref-3.ensures.value (c.in_ok-ran.ensures.run forms are) in
    comes_on {V = Vec Given Global} {X = List Setup} (all_given forms) (with_contexts forms s n files) (run_with s files) setups old mid new (Ok (record { kept = None; text = text }))
    (c.in_ok-setups.ensures.given forms files told)
    (comes_on {V = Vec Line Global} {X = List Line} (λ lines. lines.items) (with_script s.script (pages_of all) files) (run_of s all) lines mid new new (Ok (record { kept = None; text = text }))
    (script_is files _ s.script _ (pages_of all) (Ok lines) mid new c.script.ensures (c.deref-2.ensures.value ∙ c.in_ok-pages.ensures ∙ ap page_counts c.deref.ensures.value ∙ sym (pages_are forms setups.items))
    (c.in_ok-lines.ensures.given files (c.in_ok-setups.ensures.reads.stands.files ∙ told)))
    (says 0 text.items, record { kept = None; keeps = tt; same = refl }, leads_to_same (run_of s all lines.items) (says 0 text.items) new new so refl))
