-- How registers and actions are written, and which words are names.
use Rattle.std.specs.Prelude.{ℕ, Bool, false, not, nat_eq, List, [], ◌∷◌, ◌++◌, codes}
use Rattle.std.specs.Fmt.{decimal}
use Rattle.operation.specs.declared.Action.{Action}
use Rattle.operation.specs.declared.Action.TheVariants.{Un, Uc, On, Oc, An, Ac}

-- a register: its letter, and its number without leading zeros
abbrev pub general : ℕ → List ℕ
general n = codes "r" ++ decimal n

abbrev pub predicate : ℕ → List ℕ
predicate n = codes "p" ++ decimal n

abbrev pub target : ℕ → List ℕ
target n = codes "b" ++ decimal n

-- an action on a compare's destination
abbrev pub action_name : Action → List ℕ
action_name Un = codes "un"
action_name Uc = codes "uc"
action_name On = codes "on"
action_name Oc = codes "oc"
action_name An = codes "an"
action_name Ac = codes "ac"

-- a name of the text: a word that doesn't begin with a dot
abbrev pub is_name : List ℕ → Bool
is_name [] = false
is_name (b ∷ rest) = not (nat_eq b 46)
