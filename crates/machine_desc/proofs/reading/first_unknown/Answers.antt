use Rattle.std.proofs.Common.{not, map, String, rules, tests, sym, ap, ◌∙◌}
use Rattle.std.specs.Prelude.{string_bytes, option_map, find}
use Rattle.std.specs.declared.alloc.Global.{Global}
use Rattle.std.proofs.lemmas.Iterator.Search.{find_from_yields_List}
use Rattle.std.proofs.lemmas.Iterator.Consumers.{YieldsList-from_rest}
use Rattle.machine_desc.specs.File.{is_known}
use Rattle.machine_desc.proofs.Documents.{find_along, bytes_of_found, names_of}
use Rattle.machine_desc.proofs.reading.first_unknown.Goals as goal

pub returns : goal.returns
returns c =
    let test = λ (name : String Global). not (is_known (string_bytes name)) in
    let keys = map (λ e. e.0) c.args.table.now.entries in
    let found = find_from_yields_List test _ _ c.find.result c.find.ensures.ran (YieldsList-from_rest keys c.keys.ensures.rest) (λ x b q h. search (rules, tests)) in
    bytes_of_found c.find.result
    ∙ (ap (option_map string_bytes) found
    ∙ (find_along string_bytes (λ name. not (is_known name)) keys
    ∙ ap (find (λ name. not (is_known name))) (sym (names_of c.args.table.now.entries))))
