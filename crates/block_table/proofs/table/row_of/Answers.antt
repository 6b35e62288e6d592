use Rattle.std.proofs.Common.{rules, ℕ, ◌≡◌, sym, ap, ◌∙◌}
use Rattle.block_table.specs.Rows.{entry_of}
use Rattle.std.proofs.lemmas.List.Sorted.{answers_always}
use Rattle.block_table.specs.Rules.{has_entry}
use Rattle.block_table.proofs.Finding.{found, lacking, has_entry-entry_of}
use Rattle.block_table.proofs.table.row_of.Goals as goal

is_found : (c : goal.In-Ok) → entry_of c.args.rows.now c.in-Ok.k ≡ c.args.entry
is_found c =
    found c.args.rows.now c.args.entry c.in-Ok.k
    (c.in-Ok.ensures.position (λ (row : ℕ × ℕ). row.0) (answers_always _ _ _ (λ f a r g called. search rules)))

pub returns-in-Ok-clause-some : goal.returns-in-Ok-clause-some
returns-in-Ok-clause-some c =
    ap (has_entry c.args.rows.now) (sym (is_found c)) ∙ has_entry-entry_of c.args.rows.now c.in-Ok.k c.in-Ok.ensures.bound

pub returns-in-Ok-clause-row : goal.returns-in-Ok-clause-row
returns-in-Ok-clause-row c = (c.in-Ok.ensures.bound, is_found c)

pub returns-in-Err-clause-none : goal.returns-in-Err-clause-none
returns-in-Err-clause-none c =
    lacking c.args.rows.now c.args.entry c.in-Err.field-0 c.requires.entries
    (c.in-Err.ensures.position (λ (row : ℕ × ℕ). row.0) (answers_always _ _ _ (λ f a r g called. search rules))) c.in-Err.ensures.bound
