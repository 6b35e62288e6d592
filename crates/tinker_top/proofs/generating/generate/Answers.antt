-- The file is kept, and the report of its contexts stands behind its line.
use Rattle.std.proofs.Common.{◌≡◌, List, [], ◌++◌, length, Some, Ok, refl, sym, ap, subst, ◌∙◌}
use Rattle.image_format.specs.Bytes.{bytes_of}
use Rattle.context_system.specs.Context.{Setup as Context}
use Rattle.tinker_words.specs.Settings.{Settings}
use Rattle.tinker_texts.specs.Report.{wrote_line}
use Rattle.tinker_top.specs.Outcome.{Generated, ends}
use Rattle.run_report.specs.Run.{report}
use Rattle.tinker_top.specs.Command.{image_of, generated_settings, generated_contexts, generated_text}
use Rattle.tinker_top.specs.Steps.{IsRun}
use Rattle.tinker_top.proofs.Made.{text_is}
use Rattle.tinker_top.proofs.generating.generate.Goals as goal

pub returns-clause-made : goal.returns-clause-made
returns-clause-made c = λ forms are.
    let image = image_of c.args.workload.now in
    let out = c.args.out.now in
    let s : Settings = c.of_pages-settings.result in
    let run : IsRun s (generated_contexts forms s image) [] (Ok c.in_ok-report.report) =
    subst (λ (xs : List Context). IsRun s xs [] (Ok c.in_ok-report.report)) (c.in_ok-setups.ensures.given forms) (c.in_ok-report.ensures.run forms are) in
    let told : report s [] (generated_contexts forms s image) ≡ c.in_ok-report.report.items = text_is forms s image c.in_ok-report.report run in
    let same : report generated_settings [] (generated_contexts forms generated_settings image) ≡ report s [] (generated_contexts forms s image) =
    ap (λ (s : Settings). report s [] (generated_contexts forms s image)) (sym c.of_pages-settings.ensures) in
    let size : length (bytes_of image) ≡ c.len.result = ap length (sym c.in_ok-setups.ensures.file) ∙ sym c.in_ok-setups.bytes.ok.0 ∙ sym c.len.ensures in
    let text : generated_text forms image out ≡ c.in_ok-text.text.items =
    ap (λ n. wrote_line out n ++ report generated_settings [] (generated_contexts forms generated_settings image)) size
    ∙ ap (λ t. wrote_line out c.len.result ++ t) (same ∙ told ∙ sym c.deref.ensures.value)
    ∙ sym c.in_ok-text.ensures in
    record {
      kept = Some (record { name = out; content = Generated image });
      keeps = record { name = refl; content = c.in_ok-setups.ensures.file };
      same = ap (ends (Some (record { name = out; content = Generated image })) 0) text;
    }
