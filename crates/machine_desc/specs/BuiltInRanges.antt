-- The numbers of the built-in generations are in their ranges. It stands here since they, as `Generation`s, cite it.
use Rattle.std.specs.Prelude.{refl}
use Rattle.machine_desc.specs.declared.built_in.Chosen.{Chosen}
use Rattle.machine_desc.specs.declared.built_in.Chosen.TheVariants.{T1, T2, T3, Given}
use Rattle.machine_desc.specs.Description.{IsDescription}
use Rattle.machine_desc.specs.Numbers.{ones, is_in_range}
use Rattle.machine_desc.specs.Ranges.{in_description}
use Rattle.machine_desc.specs.BuiltIn.{t1, t2, t3, chosen}

pub t1_in_range : IsDescription t1
unfolding is_in_range
t1_in_range = in_description 2 t1.units t1.latencies ones refl

pub t2_in_range : IsDescription t2
unfolding is_in_range
t2_in_range = in_description 4 t2.units t2.latencies ones refl

pub t3_in_range : IsDescription t3
unfolding is_in_range
t3_in_range = in_description 8 t3.units t3.latencies ones refl

-- those of a chosen one are too
pub chosen_in_range : (g : Chosen) → IsDescription (chosen g)
chosen_in_range (T1 g) = t1_in_range
chosen_in_range (T2 g) = t2_in_range
chosen_in_range (T3 g) = t3_in_range
chosen_in_range (Given m) = in_description m.width m.units m.latencies m.busy_times m.in_range
