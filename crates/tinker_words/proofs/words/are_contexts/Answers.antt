use Rattle.std.proofs.Common.{Bool, ◌&&◌, length, map, sym, ap, ◌∙◌}
use Rattle.std.specs.Prelude.{string_bytes}
use Rattle.std.proofs.lemmas.List.{length-map}
use Rattle.tinker_words.specs.Settings.{is_name}
use Rattle.tinker_words.specs.Words.{is_count}
use Rattle.tinker_words.proofs.Named.{all_mapped}
use Rattle.tinker_words.proofs.words.are_contexts.Goals as goal

pub returns-then-are_names : goal.returns-then-are_names
returns-then-are_names c =
    c.is_count.ensures
    ∙ ap is_count (sym (length-map c.args.words.now string_bytes))
    ∙ ap (λ (b : Bool). b && is_count (length (map string_bytes c.args.words.now))) (c.if-are_names.ensures ∙ all_mapped string_bytes is_name c.args.words.now)

pub returns-else-are_names : goal.returns-else-are_names
returns-else-are_names c =
    c.if-are_names.false
    ∙ ap (λ (b : Bool). b && is_count (length (map string_bytes c.args.words.now))) (c.if-are_names.ensures ∙ all_mapped string_bytes is_name c.args.words.now)
