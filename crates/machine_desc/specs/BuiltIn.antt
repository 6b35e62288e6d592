-- The generations that are built in. In each of them a unit is free again in the cycle after an issue.
use Rattle.std.specs.Prelude.{[], ◌∷◌}
use Rattle.machine_desc.specs.declared.built_in.Chosen.{Chosen}
use Rattle.machine_desc.specs.declared.built_in.Chosen.TheVariants.{T1, T2, T3, Given}
use Rattle.machine_desc.specs.Description.{Description}
use Rattle.machine_desc.specs.Numbers.{description, ones}
use Rattle.machine_desc.specs.Value.{description_of}

abbrev pub t1 : Description
t1 = description 2 (1 ∷ (1 ∷ (1 ∷ (1 ∷ (1 ∷ []))))) (1 ∷ (3 ∷ (8 ∷ (2 ∷ (1 ∷ (1 ∷ (1 ∷ (1 ∷ (1 ∷ []))))))))) ones

abbrev pub t2 : Description
t2 = description 4 (2 ∷ (1 ∷ (1 ∷ (1 ∷ (1 ∷ []))))) (1 ∷ (2 ∷ (12 ∷ (3 ∷ (1 ∷ (1 ∷ (1 ∷ (1 ∷ (2 ∷ []))))))))) ones

abbrev pub t3 : Description
t3 = description 8 (4 ∷ (2 ∷ (2 ∷ (2 ∷ (1 ∷ []))))) (2 ∷ (4 ∷ (16 ∷ (5 ∷ (2 ∷ (2 ∷ (2 ∷ (1 ∷ (3 ∷ []))))))))) ones

-- the description that was chosen
abbrev pub chosen : Chosen → Description
chosen (T1 g) = t1
chosen (T2 g) = t2
chosen (T3 g) = t3
chosen (Given m) = description_of m
