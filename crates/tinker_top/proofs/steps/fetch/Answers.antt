use Rattle.std.proofs.Common.{subst, sym, ap, ◌∙◌, ◌≡◌, Some, option_map, length, inl, inr, ◌∷◌, []}
use Rattle.tnk_base.specs.Host.{Holds, IsTooLong}
use Rattle.tnk_base.specs.declared.host.Asked.TheVariants.{Fetch}
use Rattle.tinker_top.specs.Outcome.{after, says, fetching}
use Rattle.std.specs.Prelude.{IfSome}
use Rattle.tinker_top.proofs.Onward.{leads_by, fetched_whole, fetched_long}
use Rattle.tinker_top.proofs.steps.fetch.Goals as goal

pub returns-in-Ok-clause-given : goal.returns-in-Ok-clause-given
returns-in-Ok-clause-given g c = λ files told next.
    let name = c.args.name.now in
    let bytes = c.in-Ok.bytes.items in
    leads_by _ _ _ _ _
    (fetched_whole files name c.args.limit bytes next (subst (λ t. Holds t name bytes) told c.in-Ok.ensures.file) c.in-Ok.ensures.within)
    (elim c.in-Ok.ensures.asked [ inl e ↦ e | inr x ↦ absurd (let h = x.0 in let k : ⊥ = cc in k) ])

pub returns-in_ok-too_long-in-Err-TooLong-clause-given : goal.returns-in_ok-too_long-in-Err-TooLong-clause-given
returns-in_ok-too_long-in-Err-TooLong-clause-given g c = λ files told next.
    let name = c.args.name.now in
    let limit = c.args.limit in
    let n = c.in-Err-TooLong.field-0-0 in
    let old = g.H.Host.shows c.args.host.now in
    let why = subst (λ e. IsTooLong old.files name limit e) c.in-Err-TooLong.field-0-is c.in-Err-TooLong.ensures.too_long in
    leads_by (Fetch name limit) (fetching files name limit next) (says 1 c.in_ok-too_long-in-Err-TooLong.field-0.items) old (g.H.Host.shows c.fetch.new.self)
    (fetched_long files name limit n next why.0 (subst (λ t. IfSome t (λ f. option_map length (f name) ≡ Some n)) told why.1)
    ∙ ap (λ line. after (Fetch name limit ∷ []) (says 1 line)) (sym c.in_ok-too_long-in-Err-TooLong.ensures))
    (elim c.in-Err-TooLong.ensures.asked [ inl e ↦ e | inr x ↦ absurd (let h = x.0 in let k : ⊥ = cc in k) ])
