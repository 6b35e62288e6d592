use Rattle.std.proofs.Common.{◌≡◌, ◌∙◌, ℕ, List, length, drop, sym, subst}
use Rattle.std.proofs.lemmas.List.{take_at}
use Rattle.image_resched.specs.Forms.{AreFormsOfPages}
use Rattle.image_resched.proofs.moving.words_in_form.Goals as goal

pub returns : goal.returns
returns g c =
    let new : List ℕ = c.write_pages.new.words in
    let long : length new ≡ c.in_ok-words.words.len = c.write_pages.auto.words ∙ c.deref_mut.ensures.len in
    subst (AreFormsOfPages c.args.a.now (g.G.Generation.description c.args.g.now))
    (sym (take_at new (drop (length new) c.in_ok-words.words.items) c.in_ok-words.words.len long)) c.write_pages.ensures
