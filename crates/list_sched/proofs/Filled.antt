-- The links of a table, one operation after another.
use Rattle.std.proofs.Common.{◌≡◌, ℕ, ◌+◌, ◌-◌, ◌*◌, ◌<◌, ◌≤◌, List, [], ◌∷◌, ◌++◌, length, take, drop, inl, inr, refl, sym, ap, subst, ◌∙◌, arith, length-append, length-drop, mul-le-mul, Option, Some, None}
use Rattle.std.specs.Prelude.{slice_index, ℤ}
use Rattle.std.proofs.lemmas.Bool.{cases_lt}
use Rattle.std.proofs.lemmas.List.{length_push, get_or_push, get_or_past}
use Rattle.std.proofs.Math.ListN.{get_or-append}
use Rattle.std.proofs.Math.Seq.{drop-append-le, take-append-le, drop-append_seam, take_all}
use Rattle.std.proofs.Math.Path.{fun_ext}
use Rattle.operation.specs.declared.UnitKind.{UnitKind}
use Rattle.operation.specs.declared.LatKind.{LatKind}
use Rattle.machine_desc.specs.Description.{Description}
use Rattle.serial_order.specs.Table.{Table, delay_of}
use Rattle.block_links.specs.declared.links.Link.{Link}
use Rattle.block_links.specs.declared.links.Links.{Links}
use Rattle.block_links.specs.Links.{row, delay_to, delay_along, LeadInside, AreLinks, is_linked}
use Rattle.block_links.proofs.Rows.{along_linked}
use Rattle.list_sched.specs.Links.{links_below, linked}
use Rattle.list_sched.specs.Given.{problem_of, unit_in, kind_in, latency_in}
use Rattle.list_sched.specs.Schedule.{Problem, is_before}
use Rattle.list_sched.proofs.Rows.{below_all, below_lead, below_few}
use Rattle.list_sched.proofs.Climbs.{delay_inside}

-- the rows below i are those of the table
pub record IsFilled (d : Table) (starts : List ℕ) (links : List Link) (i : ℕ) : Type 0 where
  pub size : length starts ≡ i + 1
  pub last : slice_index starts i ≡ length links
  pub ends : (k : ℕ) → k < i → slice_index starts k ≤ slice_index starts (k + 1)
  pub inside : (k : ℕ) → k < i → slice_index starts (k + 1) ≤ length links
  pub rows : (k : ℕ) → k < i → take (slice_index starts (k + 1) - slice_index starts k) (drop (slice_index starts k) links) ≡ links_below d k d.count
  pub few : length links ≤ i * d.count

pub none_filled : (d : Table) → IsFilled d (0 ∷ []) [] 0
none_filled d = record { size = refl; last = refl; ends = λ k lt. absurd (omega arith); inside = λ k lt. absurd (omega arith); rows = λ k lt. absurd (omega arith); few = omega arith }

-- a part of a list is the same where more follows
part_left : (a b : ℕ) (xs ys : List Link) → b + a ≤ length xs → take a (drop b (xs ++ ys)) ≡ take a (drop b xs)
part_left a b xs ys le = ap (take a) (drop-append-le b xs ys (omega arith)) ∙ take-append-le a (drop b xs) ys (omega (arith, length-drop b xs))

part_right : (xs ys : List Link) (a : ℕ) → a ≡ length ys → take a (drop (length xs) (xs ++ ys)) ≡ ys
part_right xs ys a e = ap (take a) (drop-append_seam xs ys) ∙ take_all a ys (omega arith)

module _ (d : Table) (starts : List ℕ) (links more : List Link) (i : ℕ) (f : IsFilled d starts links i) (same : more ≡ links_below d i d.count) where
  abbrev links' : List Link
  links' = links ++ more

  abbrev starts' : List ℕ
  starts' = starts ++ length links' ∷ []

  long : length links' ≡ length links + length more
  long = length-append links more

  old : (k : ℕ) → k ≤ i → slice_index starts' k ≡ slice_index starts k
  old k le = get_or-append starts (length links' ∷ []) 0 k (let z = f.size in omega arith)

  new : slice_index starts' (i + 1) ≡ length links'
  new = get_or_push starts (length links') 0 (i + 1) f.size

  pub more_filled : IsFilled d starts' links' (i + 1)
  more_filled = record {
    size = length_push starts (length links') ∙ ap (λ n. n + 1) f.size;
    last = new;
    ends = λ k lt. elim (cases_lt k i) [
      | inl l ↦ (let a = old k (omega arith) in let b = old (k + 1) (omega arith) in let e = f.ends k l in omega arith)
      | inr g ↦ (let same : k ≡ i = omega arith in subst (λ m. slice_index starts' m ≤ slice_index starts' (m + 1)) (sym same) (let a = old i (omega arith) in let b = new in let c = f.last in let l = long in omega arith))
    ];
    inside = λ k lt. elim (cases_lt k i) [
      | inl l ↦ (let b = old (k + 1) (omega arith) in let e = f.inside k l in let z = long in omega arith)
      | inr g ↦ (let same : k ≡ i = omega arith in subst (λ m. slice_index starts' (m + 1) ≤ length links') (sym same) (let b = new in omega arith))
    ];
    rows = λ k lt. elim (cases_lt k i) [
      | inl l ↦ earlier k l
      | inr g ↦ (let s : i ≡ k = omega arith in subst (λ m. take (slice_index starts' (m + 1) - slice_index starts' m) (drop (slice_index starts' m) links') ≡ links_below d m d.count) s here)
    ];
    few = let e = f.few in let l = long in let m = below_few d i d.count in let s = ap length same in omega arith;
  }
    where
      earlier : (k : ℕ) → k < i → take (slice_index starts' (k + 1) - slice_index starts' k) (drop (slice_index starts' k) links') ≡ links_below d k d.count
      earlier k l =
          rw (old k (omega arith), old (k + 1) (omega arith))
          (part_left (slice_index starts (k + 1) - slice_index starts k) (slice_index starts k) links more (let a = f.ends k l in let b = f.inside k l in omega arith) ∙ f.rows k l)

      here : take (slice_index starts' (i + 1) - slice_index starts' i) (drop (slice_index starts' i) links') ≡ links_below d i d.count
      here = rw (new, old i (omega arith), f.last) (part_right links more (length links' - length links) (let l = long in omega arith) ∙ same)

-- all rows
module _ (d : Table) (l : Links) (f : IsFilled d l.starts.items l.links.items d.count) (few : d.count ≤ 512) where
  pub filled_links : AreLinks l d.count
  filled_links = record {
    size = f.size;
    few = few;
    ends = f.ends;
    inside = f.inside;
    lead = λ i lt. subst (LeadInside d.count) (sym (f.rows i lt)) (below_lead d i d.count (omega arith));
    small = let m = f.few in let s : d.count * d.count ≤ 512 * 512 = square d.count few in omega arith;
  }
    where
      square : (n : ℕ) → n ≤ 512 → n * n ≤ 512 * 512
      square n le = mul-le-mul le le

  pub filled_delays : (latency : ℕ → ℕ) (i j : ℕ) → delay_along latency l i j ≡ delay_of d i j
  unfolding delay_to
  filled_delays latency i j = elim (cases_lt i d.count) [
    | inl lt ↦ ap (λ r. delay_to latency i r j) (f.rows i lt) ∙ below_all d i latency j
    | inr ge ↦ ap (λ r. delay_to latency i r j) (nothing ge) ∙ none (delay_of d i j) refl ge
  ]
    where
      nothing : d.count ≤ i → row l i ≡ []
      nothing ge =
          let past : slice_index l.starts.items (i + 1) ≡ 0 = get_or_past l.starts.items (i + 1) 0 (let z = f.size in omega arith) in
          let width : slice_index l.starts.items (i + 1) - slice_index l.starts.items i ≡ 0 = omega arith in
          ap (λ n. take n (drop (slice_index l.starts.items i) l.links.items)) width

      none : (o : Option ℤ) → delay_of d i j ≡ o → d.count ≤ i → delay_to latency i [] j ≡ delay_of d i j
      none None e ge = sym e
      none (Some x) e ge = absurd (let q = (delay_inside d i j x e).0 in omega arith)

-- so what they make a problem is the table's
pub same_problem : (l : Links) (d : Table) (kinds : List (UnitKind × LatKind)) (g : Description) → length kinds ≡ d.count → ((latency : ℕ → ℕ) (i j : ℕ) → delay_along latency l i j ≡ delay_of d i j) →
    problem_of d kinds g ≡ linked l kinds g
same_problem l d kinds g count same =
    ap (λ (n : ℕ). with_delays n (delay_of d)) (sym count) ∙ ap (with_delays (length kinds)) (fun_ext (λ i. fun_ext (λ j. sym (same (latency_in kinds g) i j))))
  where
    with_delays : ℕ → (ℕ → ℕ → Option ℤ) → Problem
    with_delays n delay = record { count = n; delay = delay; unit = unit_in kinds; kind = kind_in kinds; machine = g }

-- one operation is before another exactly where a link leads to it
pub before_linked : (l : Links) (kinds : List (UnitKind × LatKind)) (g : Description) → is_before (linked l kinds g) ≡ is_linked l
before_linked l kinds g = fun_ext (λ i. fun_ext (λ j. along_linked (latency_in kinds g) l i j))
