-- As turns go round the contexts each has its turns.
use Rattle.std.proofs.Common.{◌≡◌, ℕ, zero, suc, ◌+◌, ◌*◌, ◌<◌, ◌≤◌, Bool, true, false, cond, List, [], ◌∷◌, ◌++◌, map, length, refl, sym, ap, ◌∙◌, Some, arith}
use Rattle.std.specs.Prelude.{nat_eq, slice_get, slice_index_or, option_map}
use Rattle.std.specs.List.{range_with_len}
use Rattle.std.proofs.lemmas.Bool.{eqb-false}
use Rattle.std.proofs.lemmas.Option.{slice_get_within, slice_get-get_or}
use Rattle.context_system.specs.declared.Event.{Event}
use Rattle.context_system.specs.declared.Event.TheVariants.{Turn}
use Rattle.context_system.specs.Context.{Context}
use Rattle.context_system.specs.System.{System, first, play, rounds}
use Rattle.context_system.specs.Turns.{turns_among}
use Rattle.context_system.specs.Meant.{ContextsEnd, AllEnd}
use Rattle.context_system.proofs.Setups.{HasSetups, play_has, opened_have, at_place}

turns_append : (c : ℕ) (es fs : List Event) → turns_among c (es ++ fs) ≡ turns_among c es + turns_among c fs
turns_append c [] fs = omega arith
turns_append c (e ∷ es) fs = let rest : turns_among c (es ++ fs) ≡ turns_among c es + turns_among c fs = turns_append c es fs in omega arith

turn_in_range : (c low n : ℕ) → low ≤ c → c < low + n → 1 ≤ turns_among c (map Turn (range_with_len low n))
turn_in_range c low zero le lt = absurd (omega arith)
turn_in_range c low (suc n) le lt = go (nat_eq low c) refl (turn_in_range c (low + 1) n)
  where
    go : (b : Bool) → nat_eq low c ≡ b → (low + 1 ≤ c → c < low + 1 + n → 1 ≤ turns_among c (map Turn (range_with_len (low + 1) n))) →
        1 ≤ cond b 1 0 + turns_among c (map Turn (range_with_len (low + 1) n))
    go true e ih = omega arith
    go false e ih =
        let apart : low ≡ c → ⊥ = eqb-false low c e in
        let more : low + 1 ≤ c = omega (arith, apart) in
        let rest : 1 ≤ turns_among c (map Turn (range_with_len (low + 1) n)) = ih more (omega arith) in
        omega arith

turns_in_rounds : (c contexts n : ℕ) → c < contexts → n ≤ turns_among c (rounds contexts n)
turns_in_rounds c contexts zero lt = omega arith
turns_in_rounds c contexts (suc n) lt =
    let one : 1 ≤ turns_among c (map Turn (range_with_len 0 contexts)) = turn_in_range c 0 contexts (omega arith) (omega arith) in
    let rest : n ≤ turns_among c (rounds contexts n) = turns_in_rounds c contexts n lt in
    let both = turns_append c (map Turn (range_with_len 0 contexts)) (rounds contexts n) in
    omega arith

pub all_end : ContextsEnd → AllEnd
all_end ends setups ready frames saved events bound within c d lt =
    let all : List Event = events ++ rounds (length setups) (512 * bound) in
    let s : System = play (first setups frames saved) all in
    let x : Context = slice_index_or s.contexts c d in
    let here : slice_get s.contexts c ≡ Some x = slice_get-get_or s.contexts c d lt in
    let own : HasSetups setups s = play_has setups (first setups frames saved) all (record { each = opened_have setups }) in
    let given : slice_get setups c ≡ Some x.setup = sym (own.each c) ∙ ap (option_map (λ (y : Context). y.setup)) here in
    let inside : c < length setups = slice_get_within setups c x.setup given in
    let few : x.setup.bound ≤ bound = at_place (λ s. s.bound ≤ bound) setups c x.setup within given in
    let had : 512 * bound ≤ turns_among c (rounds (length setups) (512 * bound)) = turns_in_rounds c (length setups) (512 * bound) inside in
    let both : turns_among c all ≡ turns_among c events + turns_among c (rounds (length setups) (512 * bound)) = turns_append c events (rounds (length setups) (512 * bound)) in
    ends setups ready frames saved all c x.setup x given here (omega arith)
