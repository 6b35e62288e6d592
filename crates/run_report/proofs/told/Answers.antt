-- The report of contexts that have run to their ends, behind the looks of their script.
use Rattle.std.proofs.Common.{◌≡◌, ℕ, ◌*◌, ◌++◌, length, string_bytes, Vec, Global, sym, ap, subst, ◌∙◌}
use Rattle.page_fault.specs.Loading.{paging_of}
use Rattle.context_system.specs.System.{System, play, rounds}
use Rattle.contexts.specs.Core.{Contexts, Holds}
use Rattle.tinker_words.specs.declared.settings.Number.TheVariants.{Bound}
use Rattle.tinker_words.specs.Settings.{number}
use Rattle.run_report.specs.Script.{behind_script, looks}
use Rattle.run_report.specs.Run.{texts_from, context_part, context_cycles, counts_line, begun, played}
use Rattle.run_report.specs.Seats.{seat_part, seat_cycles}
use Rattle.run_report.proofs.Reports.{end, is_behind, is_played, many_behind, parts_are, cycles_are}
use Rattle.run_report.proofs.Cores.{shows_parts, shows_cycles}
use Rattle.run_report.proofs.told.Goals as goal

pub returns : goal.returns
returns c = λ setups ready bounds holds.
    let s = c.args.settings.now in
    let lines = c.args.lines.now in
    let start : System = begun s setups in
    let core : Contexts = c.rounds.new.self in
    let script = c.in_ok-play_script.ensures start holds in
    let many : length (behind_script start lines).contexts ≡ length setups = many_behind s lines setups ready bounds in
    let times : 512 * c.number.result ≡ 512 * number s Bound = ap (λ n. 512 * n) c.number.ensures.value in
    let held : Holds core (end s lines setups ready bounds) =
    subst (Holds core) (is_behind s lines setups ready bounds)
    (subst (λ (t : ℕ). Holds core (play (behind_script start lines) (rounds (length setups) t))) times
    (subst (λ (n : ℕ). Holds core (play (behind_script start lines) (rounds n (512 * c.number.result)))) many (c.rounds.ensures (behind_script start lines) script.0))) in
    let dump = c.dump-dump.result in
    let parts : texts_from (seat_part dump) 0 core.seats ≡ texts_from (λ i x. context_part i s.dump x) 0 setups =
    shows_parts core (end s lines setups ready bounds) held dump
    ∙ parts_are s lines setups ready bounds c.all_end.ensures c.contexts_are_as_meant.ensures dump
    ∙ ap (λ d. texts_from (λ i x. context_part i d x) 0 setups) c.dump-dump.ensures in
    let cycles : texts_from seat_cycles 0 core.seats ≡ texts_from context_cycles 0 setups =
    shows_cycles core (end s lines setups ready bounds) held
    ∙ cycles_are s lines setups ready bounds c.all_end.ensures c.cycles_are_counted.ensures in
    let counts : counts_line (paging_of core.loading) ≡ counts_line (played s lines setups).paging =
    ap counts_line (sym held.paging) ∙ ap (λ (t : System). counts_line t.paging) (is_played s lines setups ready bounds) in
    let told : texts_from (seat_part dump) 0 core.seats ++ (texts_from seat_cycles 0 core.seats ++ counts_line (paging_of core.loading))
    ≡ texts_from (λ i x. context_part i s.dump x) 0 setups ++ (texts_from context_cycles 0 setups ++ counts_line (played s lines setups).paging) =
    ap (λ t. t ++ (texts_from seat_cycles 0 core.seats ++ counts_line (paging_of core.loading))) parts
    ∙ ap (λ t. texts_from (λ i x. context_part i s.dump x) 0 setups ++ (t ++ counts_line (paging_of core.loading))) cycles
    ∙ ap (λ t. texts_from (λ i x. context_part i s.dump x) 0 setups ++ (texts_from context_cycles 0 setups ++ t)) counts in
    let shown : string_bytes c.play_script.new.text ≡ looks start lines = script.1 ∙ ap (λ b. b ++ looks start lines) c.new-text.ensures.bytes in
    ap (λ (v : Vec ℕ Global). v.items) c.into_bytes.ensures.value
    ∙ c.in_ok-push_report.ensures
    ∙ ap (λ t. t ++ (texts_from (seat_part dump) 0 core.seats ++ (texts_from seat_cycles 0 core.seats ++ counts_line (paging_of core.loading)))) c.reserve.ensures.bytes
    ∙ ap (λ t. t ++ (texts_from (seat_part dump) 0 core.seats ++ (texts_from seat_cycles 0 core.seats ++ counts_line (paging_of core.loading)))) shown
    ∙ ap (λ t. looks start lines ++ t) told
