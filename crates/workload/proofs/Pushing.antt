-- The words of a block, one after another.
use Rattle.std.proofs.Common.{◌≡◌, ℕ, ◌+◌, ◌*◌, List, [], ◌∷◌, ◌++◌, append_assoc, sym, ap, ◌∙◌, arith}
use Rattle.std.proofs.lemmas.List.FromFn.{map-range_with_len_more}
use Rattle.operation.specs.declared.Op.{Op}
use Rattle.workload.specs.Draws.{after}
use Rattle.workload.specs.Operations.{drawn_operation, drawn_guard}
use Rattle.workload.specs.Words.{serial_word, drawn_word, drawn_words}

-- one more word is that of the operation that is drawn then
pub word_pushed : (n start x w guard : ℕ) (o : Op) (first words new : List ℕ) → words ≡ first ++ drawn_words n start →
    x ≡ after (5 * n) start →
    w ≡ serial_word guard o → guard ≡ drawn_guard x → o ≡ drawn_operation x →
    new ≡ words ++ w ∷ [] → new ≡ first ++ drawn_words (n + 1) start
word_pushed n start x w guard o first words new a b c d e f =
    let w_is : w ≡ drawn_word (after (5 * n) start) =
    c ∙ ap (λ g. serial_word g o) d ∙ ap (serial_word (drawn_guard x)) e ∙ ap drawn_word b in
    let more : drawn_words (n + 1) start ≡ drawn_words n start ++ drawn_word (after (5 * n) start) ∷ [] =
    map-range_with_len_more (λ k. drawn_word (after (5 * k) start)) 0 n n (omega arith) in
    f ∙ ap (λ ws. ws ++ w ∷ []) a ∙ ap (λ v. (first ++ drawn_words n start) ++ v ∷ []) w_is
    ∙ append_assoc first (drawn_words n start) (drawn_word (after (5 * n) start) ∷ []) ∙ ap (λ ws. first ++ ws) (sym more)
