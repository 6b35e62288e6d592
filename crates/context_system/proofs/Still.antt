-- A turn of a context that has ended changes nothing.
use Rattle.std.proofs.Common.{◌≡◌, ℕ, zero, suc, List, [], ◌∷◌, refl, ap, ◌∙◌, Option, Some, None}
use Rattle.std.specs.Prelude.{slice_get, slice_set, IsSome}
use Rattle.operation.specs.declared.End.{End}
use Rattle.context_system.specs.declared.Event.TheVariants.{Turn}
use Rattle.context_system.specs.Context.{Context, played_on}
use Rattle.context_system.specs.System.{System, step, needed, present_key}
use Rattle.context_system.specs.Turns.{EndedStandStill}
use Rattle.context_system.proofs.Turns.{turned}

set_same : (xs : List Context) (c : ℕ) (x : Context) → slice_get xs c ≡ Some x → slice_set xs c x ≡ xs
set_same [] c x h = refl
set_same (z ∷ xs) zero x h = let same : x ≡ z = cc in ap (λ y. y ∷ xs) same
set_same (z ∷ xs) (suc c) x h = ap (λ l. z ∷ l) (set_same xs c x h)

-- the system behind a turn of a context, by its end
abbrev behind : System → ℕ → Context → Option End → System
behind s c x o = record {
  contexts = slice_set s.contexts c (elim o [ None ↦ played_on x | Some e ↦ x ]);
  paging = elim o [ None ↦ needed s.contexts (present_key s.contexts x) s.paging | Some e ↦ s.paging ];
}

pub ended_stand_still : EndedStandStill
ended_stand_still s c x h ended = go x.end refl ended
  where
    go : (o : Option End) → x.end ≡ o → IsSome o → step s (Turn c) ≡ s
    go None e some = absurd (let none : ⊥ = cc in none)
    go (Some k) e some =
        ap (turned s c) h ∙ ap (behind s c x) e ∙ ap (λ (xs : List Context). let y : System = record s { contexts = xs } in y) (set_same s.contexts c x h)
