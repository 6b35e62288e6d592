use Rattle.std.proofs.Common.{◌≡◌, ℕ, List, ◌∙◌, IsTrue}
use Rattle.toml.specs.View.{table_view}
use Rattle.machine_desc.specs.Description.{IsDescription}
use Rattle.machine_desc.specs.Numbers.{description, is_in_range}
use Rattle.machine_desc.specs.Ranges.{in_range}
use Rattle.machine_desc.proofs.Documents.{gives_description}
use Rattle.machine_desc.proofs.reading.described.Goals as goal

-- numbers that are those of a description are in their ranges
those : (w v : ℕ) (us vs ls ms bs cs : List ℕ) → w ≡ v → us ≡ vs → ls ≡ ms → bs ≡ cs → IsDescription (description v vs ms cs) →
    IsTrue (is_in_range w us ls bs)
those w v us vs ls ms bs cs e f g h d =
    let same : is_in_range w us ls bs ≡ is_in_range v vs ms cs = cc in
    same ∙ in_range v vs ms cs d

pub invariant_of-result : goal.invariant_of-result
invariant_of-result c =
    record { in_range = those _ _ _ _ _ _ _ _ c.byte.ensures c.units.ensures c.times.ensures c.times-2.ensures (gives_description (table_view c.args.table.now) c.requires) }
