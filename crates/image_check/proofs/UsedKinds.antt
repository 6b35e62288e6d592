-- The unit kinds of an image's operations, by its rows and by its pages.
use Rattle.std.proofs.Common.{◌≡◌, ℕ, zero, suc, ◌+◌, ◌-◌, ◌/◌, ◌<◌, ◌≤◌, length, get_or, refl, sym, ap, subst, ◌∙◌, arith, inl, inr}
use Rattle.std.proofs.lemmas.Bool.{cases_lt}
use Rattle.operation.specs.declared.UnitKind.{UnitKind}
use Rattle.operation.specs.declared.UnitKind.TheVariants as unit
use Rattle.operation.specs.Places.{unit_kind, unit_number}
use Rattle.machine_desc.specs.Description.{Description, units_of}
use Rattle.machine_desc.specs.Same.{unit_kinds}
use Rattle.timed_meaning.specs.declared.TimedOp.{TimedOp}
use Rattle.block_table.specs.Rows.{Rows, entry_of}
use Rattle.latency_deps.specs.Block.{Block, IsGood, timed_at}
use Rattle.latency_deps.specs.Page.{block_at}
use Rattle.latency_deps.proofs.GoodOrders.{timed_is}
use Rattle.image_format.specs.Image.{Image, page_count}
use Rattle.image_format.specs.Rules.{first_of}
use Rattle.image_check.specs.Blocks.{rows_of, words_of, block_of, page_of}
use Rattle.image_check.specs.Rules.{broken_table, broken_padding, broken_blocks}
use Rattle.image_check.specs.Accepted.{IsAccepted}
use Rattle.image_check.specs.Paging.{IsFirstOn}
use Rattle.image_check.specs.Units.{kind_of, IsUsedIn, IsUsed, IsLacking, HasUnits}
use Rattle.image_check.specs.UnitSearch.{IsUsedOn}
use Rattle.image_check.proofs.Firsts.{none_left}
use Rattle.image_check.proofs.Tables.{as_many, Tabled, tabled, placed_at}
use Rattle.image_check.proofs.Paging.{Rise, rise, next_first}
use Rattle.image_check.proofs.PageRows.{PageRows, page_rows}

-- the unit kind of a good block's operation
pub kind_at : (b : Block) → IsGood b → (i : ℕ) → i < length b.words → unit_kind (timed_at b i).guarded.op ≡ kind_of b.words i
kind_at b good i inside = ap (λ (o : TimedOp). unit_kind o.guarded.op) (timed_is b good i inside)

-- the row of a block of a page
pub record BlockRow (image : Image) (n j : ℕ) : Type 0 where
  pub row : ℕ
  pub there : row < length image.rows
  pub same : block_at (page_of image n) j ≡ block_of image row

module _ (image : Image) (h : IsAccepted image) where
  abbrev rows : Rows
  rows = rows_of image

  table : Tabled image
  table = tabled image (none_left (broken_table image) (first_of (broken_padding image) (broken_blocks image)) h.kept)

  up : Rise rows
  up = rise rows (λ k there. (table.row k there).behind)

  first : (n : ℕ) → (end : ℕ) × IsFirstOn rows n end
  first n = next_first rows up n

  page : (n : ℕ) → PageRows image n (first n).0
  page n = page_rows image h n (first n).0 (first n).1

  pub row_of : (n j : ℕ) → j < length (page_of image n).blocks → BlockRow image n j
  row_of n j inside =
      let p = page n in
      let within = p.next.within in
      let count = as_many image in
      record { row = (first n).0 + j; there = omega arith; same = p.block j inside }

  module _ (kind : UnitKind) where
    -- what a page uses the image uses
    pub used_on : (n : ℕ) → IsUsedOn (page_of image n) kind → IsUsed image kind
    used_on n u =
        let r = row_of n u.block u.there in
        record { row = r.row; there = r.there; used = subst (λ (b : Block). IsUsedIn b.words kind) r.same u.used }

    -- and what the image uses one of its pages does
    pub on_page : IsUsed image kind → (n : ℕ) × (n < page_count image) × IsUsedOn (page_of image n) kind
    on_page u =
        let count = as_many image in
        let lt = u.there in
        let there : u.row < length rows = omega arith in
        let n = entry_of rows u.row / 512 in
        let f = (first n).0 in
        let p = page n in
        let low : f ≤ u.row = elim (cases_lt u.row f) [
          | inl less ↦ absurd (let before = (first n).1.before u.row less in omega arith)
          | inr more ↦ more
        ] in
        let high : u.row < f + length (page_of image n).blocks = elim (cases_lt u.row (f + length (page_of image n).blocks)) [
          | inl less ↦ less
          | inr more ↦ absurd (let behind = p.next.behind u.row more there in omega arith)
        ] in
        let j = u.row - f in
        let inside : j < length (page_of image n).blocks = omega arith in
        let back : f + j ≡ u.row = omega arith in
        let same : block_at (page_of image n) j ≡ block_of image u.row = p.block j inside ∙ ap (block_of image) back in (
          n,
          (placed_at image h.written.limits table u.row there).page,
          record {
            block = j;
            there = inside;
            used = subst (λ (b : Block). IsUsedIn b.words kind) (sym same) u.used;
          },
        )

-- ---- the first kind that a generation lacks

-- a kind stands in the list of kinds at its number
at_number : (k : UnitKind) (d : UnitKind) → get_or unit_kinds (unit_number k) d ≡ k
at_number unit.I d = refl
at_number unit.M d = refl
at_number unit.L d = refl
at_number unit.P d = refl
at_number unit.B d = refl

below_five : (k : UnitKind) → unit_number k < 5
below_five unit.I = omega arith
below_five unit.M = omega arith
below_five unit.L = omega arith
below_five unit.P = omega arith
below_five unit.B = omega arith

-- the kind at a number has that number
pub number_at : (n : ℕ) (d : UnitKind) → n < 5 → unit_number (get_or unit_kinds n d) ≡ n
number_at zero d lt = refl
number_at (suc zero) d lt = refl
number_at (suc (suc zero)) d lt = refl
number_at (suc (suc (suc zero))) d lt = refl
number_at (suc (suc (suc (suc zero)))) d lt = refl
number_at (suc (suc (suc (suc (suc n))))) d lt = absurd (omega arith)

module _ (image : Image) (g : Description) where
  -- no kind of a number below n is lacking
  abbrev pub NoneBelow : ℕ → Type 0
  NoneBelow n = (k : UnitKind) → unit_number k < n → IsLacking image g k → ⊥

  pub one_more : (n : ℕ) (d : UnitKind) → NoneBelow n → (IsLacking image g (get_or unit_kinds n d) → ⊥) → NoneBelow (n + 1)
  one_more n d none here k lt l = elim (cases_lt (unit_number k) n) [
    | inl less ↦ none k less l
    | inr more ↦
        let e : unit_number k ≡ n = omega arith in
        here (subst (IsLacking image g) (sym (at_number k d) ∙ ap (λ (m : ℕ). get_or unit_kinds m d) e) l)
  ]

  pub all_there : NoneBelow 5 → HasUnits image g
  all_there none k there i inside =
      let kind = kind_of (words_of image k) i in
      elim (cases_lt 0 (units_of g kind)) [
        | inl some ↦ some
        | inr zero_units ↦ absurd (none kind (below_five kind) (record {
          used = record { row = k; there = there; used = record { operation = i; inside = inside; same = refl } };
          none = omega arith;
        }))
      ]

  pub one_lacks : (kind : UnitKind) → IsLacking image g kind → HasUnits image g → ⊥
  one_lacks kind l h =
      let u = l.used.used in
      let some = h l.used.row l.used.there u.operation u.inside in
      let none : units_of g (kind_of (words_of image l.used.row) u.operation) ≡ 0 = ap (units_of g) u.same ∙ l.none in
      omega arith
