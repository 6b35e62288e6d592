-- The context of its three words.
use Rattle.std.proofs.Common.{◌≡◌, ◌+◌, ◌*◌, ◌<◌, [], length, map, Some, sym, ap, ◌∙◌, arith}
use Rattle.std.specs.Prelude.{string_bytes, slice_index_or}
use Rattle.std.proofs.lemmas.List.{length-map}
use Rattle.tinker_words.specs.Words.{NamedContext, target_named, input_named, context_named}
use Rattle.tinker_words.specs.Forms.{named}
use Rattle.tinker_words.proofs.Named.{named_at, bytes_at, same_context}
use Rattle.tinker_words.proofs.words.context_in.Goals as goal

pub returns : goal.returns
returns c =
    let words = map string_bytes c.args.words.now in
    let many = length-map c.args.words.now string_bytes in
    let inside : 3 * c.args.i + 2 < length c.args.words.now = c.requires in
    let image : slice_index_or words (3 * c.args.i) [] ≡ c.as_str.result.now =
    bytes_at string_bytes c.args.words.now (3 * c.args.i) c.index-words-at.result (omega arith) c.index-words-at.is ∙ sym c.as_str.ensures.value in
    let generation : slice_index_or words (3 * c.args.i + 1) [] ≡ c.as_str-2.result.now =
    bytes_at string_bytes c.args.words.now (3 * c.args.i + 1) c.index-words-at-2.result (omega arith) c.index-words-at-2.is ∙ sym c.as_str-2.ensures.value in
    let file : slice_index_or words (3 * c.args.i + 2) [] ≡ c.as_str-3.result.now =
    bytes_at string_bytes c.args.words.now (3 * c.args.i + 2) c.index-words-at-3.result (omega arith) c.index-words-at-3.is ∙ sym c.as_str-3.ensures.value in
    let context : context_named (slice_index_or words (3 * c.args.i) []) (slice_index_or words (3 * c.args.i + 1) []) (slice_index_or words (3 * c.args.i + 2) [])
    ≡ named (record { image = c.as_str.result; target = c.named_target.result; input = c.input.result }) =
    same_context _ _ _ _ _ _ image (ap target_named generation ∙ sym c.named_target.ensures) (ap input_named file ∙ sym c.input.ensures) in
    named_at words c.args.i (omega arith) ∙ ap (λ (n : NamedContext). Some n) context
