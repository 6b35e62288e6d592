use Rattle.std.proofs.Common.{inl, inr, subst, ap, ◌∙◌, List, ℕ}
use Rattle.tnk_base.specs.declared.host.Asked.TheVariants.{Keep}
use Rattle.tnk_base.specs.Host.{Holds, IsLeftBut, noted}
use Rattle.tinker_top.proofs.Ends.{keep_then_done, keep_then_part, keep_part}
use Rattle.tinker_top.proofs.steps.keep_and_put.Goals as goal

pub returns-in-Ok-clause-done : goal.returns-in-Ok-clause-done
returns-in-Ok-clause-done g c = λ k keeping below.
    let old = g.H.Host.shows c.args.host.now in
    let mid = g.H.Host.shows c.keep.new.self in
    let bytes = c.args.kept.now.bytes.items in
    elim c.in-Ok.ensures.asked [
      | inl e ↦ keep_then_done k 0 c.args.text.now old mid (g.H.Host.shows c.put.new.host) bytes keeping.content
          (subst (λ n. Holds mid.files n bytes) keeping.name (subst (λ (b : List ℕ). Holds mid.files c.args.kept.now.name.now b) c.deref.ensures.value c.in-Ok.ensures.file))
          (subst (λ n. IsLeftBut n old.files mid.files) keeping.name c.in-Ok.ensures.others) c.in-Ok.ensures.out
          (e ∙ ap (λ n. noted (Keep n) old.asked) keeping.name) c.put.result (c.put.ensures.done below)
      | inr x ↦ absurd (let h = x.0.0 in let k : ⊥ = cc in k)
    ]

pub returns-in-Ok-clause-part : goal.returns-in-Ok-clause-part
returns-in-Ok-clause-part g c = λ k keeping.
    let old = g.H.Host.shows c.args.host.now in
    let mid = g.H.Host.shows c.keep.new.self in
    let bytes = c.args.kept.now.bytes.items in
    elim c.in-Ok.ensures.asked [
      | inl e ↦ keep_then_part k 0 c.args.text.now old mid (g.H.Host.shows c.put.new.host) bytes keeping.content
          (subst (λ n. Holds mid.files n bytes) keeping.name (subst (λ (b : List ℕ). Holds mid.files c.args.kept.now.name.now b) c.deref.ensures.value c.in-Ok.ensures.file))
          (subst (λ n. IsLeftBut n old.files mid.files) keeping.name c.in-Ok.ensures.others) c.in-Ok.ensures.out
          (e ∙ ap (λ n. noted (Keep n) old.asked) keeping.name) c.put.ensures.part
      | inr x ↦ absurd (let h = x.0.0 in let k : ⊥ = cc in k)
    ]

pub returns-in-Err-Failed-clause-part : goal.returns-in-Err-Failed-clause-part
returns-in-Err-Failed-clause-part g c = λ k keeping.
    keep_part _ c.args.kept.now.name.now k keeping.name 0 c.args.text.now (g.H.Host.shows c.args.host.now) (g.H.Host.shows c.keep.new.self)
    c.in-Err-Failed.ensures.others c.in-Err-Failed.ensures.out c.in-Err-Failed.ensures.asked

pub returns-in-Err-NoMemory-clause-part : goal.returns-in-Err-NoMemory-clause-part
returns-in-Err-NoMemory-clause-part g c = λ k keeping.
    keep_part _ c.args.kept.now.name.now k keeping.name 0 c.args.text.now (g.H.Host.shows c.args.host.now) (g.H.Host.shows c.keep.new.self)
    c.in-Err-NoMemory.ensures.others c.in-Err-NoMemory.ensures.out c.in-Err-NoMemory.ensures.asked
