use Rattle.std.proofs.Common.{◌≡◌, refl, sym, ◌∙◌, Option, Some, None}
use Rattle.tnk_base.specs.declared.Key.{Key}
use Rattle.contexts.specs.declared.pages.Operations.{Operations}
use Rattle.contexts.specs.contracts.pages.OperationsClone.TheImpl.{is_clone-value}
use Rattle.contexts.proofs.Frames.{all_unread}
use Rattle.contexts.proofs.pages.Pages.new.Goals as goal

none_clones : (x y : Operations) → x.key ≡ None → is_clone-value.it x y → y.key ≡ None
none_clones x y = go x.key y.key
  where
    go : (a b : Option Key) → a ≡ None → is_clone-value.it (record { key = a; ops = x.ops; ends = x.ends }) (record { key = b; ops = y.ops; ends = y.ends }) → b ≡ None
    go None None e h = refl
    go None (Some k) e h = absurd (let none : ⊥ = h.0 in none)
    go (Some k) b e h = absurd (let clash : ⊥ = cc in clash)

-- the clones of a frame that wasn't read weren't
pub returns-clause-unread : goal.returns-clause-unread
returns-clause-unread c =
    all_unread is_clone-value.it c.unread.result c.unread.ensures (λ y h. none_clones c.unread.result y c.unread.ensures h ∙ sym c.unread.ensures)
    c.in_ok-vec.field-0.items c.in_ok-vec.ensures.items
