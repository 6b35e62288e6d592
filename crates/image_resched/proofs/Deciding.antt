-- An image can be moved to a generation or it can't.
use Rattle.std.proofs.Common.{◌≡◌, ℕ, zero, suc, ◌*◌, ◌^◌, ◌<◌, ◌≤◌, Bool, true, false, List, length, ◌⊎◌, inl, inr, refl, Option, Some, None}
use Rattle.std.specs.Prelude.{◌&&◌, ◌==◌, nat_lt, nat_le, All}
use Rattle.std.specs.Bool.{Decides}
use Rattle.std.specs.List.{list_all}
use Rattle.std.proofs.lemmas.Bool.{cases_Bool, leb-true, le-leb}
use Rattle.std.proofs.lemmas.Bool.Decides.{Decides-eqb, Decides-ltb, Decides-and, Decides-like, Decides-by_and, Decides-below_and, not_from_Decides}
use Rattle.machine_desc.specs.Description.{Description, IsDescription, units_of}
use Rattle.machine_desc.specs.Numbers.{is_in_range}
use Rattle.machine_desc.specs.Ranges.{in_description, in_range}
use Rattle.image_format.specs.Image.{Image, IsWithinLimits, page_count}
use Rattle.image_format.specs.Laws.{IsRow, HasRanges, IsImage}
use Rattle.image_check.specs.Blocks.{words_of}
use Rattle.image_check.specs.Rules.{broken_part}
use Rattle.image_check.specs.Accepted.{IsAccepted}
use Rattle.image_check.specs.Units.{HasUnits, kind_of}
use Rattle.image_resched.specs.Laws.{IsMovable}

-- a test that tells a fact
abbrev Test : Type 0 → Type 0
Test P = (r : Bool) × Decides r P

equal : (a b : ℕ) → Test (a ≡ b)
equal a b = (a == b, Decides-eqb a b)

less : (a b : ℕ) → Test (a < b)
less a b = (nat_lt a b, Decides-ltb a b)

most : (a b : ℕ) → Test (a ≤ b)
most a b = (nat_le a b, (leb-true a b, le-leb a b))

none : {X : Type 0} (o : Option X) → Test (o ≡ None)
none None = (true, (λ t. refl, λ e. refl))
none (Some x) = (false, (λ t. cc, λ e. cc))

both : {P Q : Type 0} → Test P → Test Q → Test (P × Q)
both t u = (t.0 && u.0, Decides-and t.0 u.0 t.1 u.1)

like : {P Q : Type 0} → (P → Q) → (Q → P) → Test P → Test Q
like f back t = (t.0, Decides-like t.0 f back t.1)

-- of each element of a list
each : {X : Type 0} (P : X → Type 0) → ((x : X) → Test (P x)) → (xs : List X) → Test (All P xs)
each P test xs = (list_all (λ x. (test x).0) xs, Decides-by_and (λ x. (test x).0) P (list_all (λ x. (test x).0)) (λ x. (test x).1) refl (λ x xs. refl) xs)

-- of each number below n
abbrev all_below : (ℕ → Bool) → ℕ → Bool
all_below p zero = true
all_below p (suc n) = p n && all_below p n

below : (P : ℕ → Type 0) → ((k : ℕ) → Test (P k)) → (n : ℕ) → Test ((k : ℕ) → k < n → P k)
below P test n = (all_below (λ k. (test k).0) n, Decides-below_and (λ k. (test k).0) P (all_below (λ k. (test k).0)) (λ k. (test k).1) refl (λ n. refl) n)

description : (g : Description) → Test (IsDescription g)
description g = (
  is_in_range g.width g.units g.latencies g.busy_times,
  (in_description g.width g.units g.latencies g.busy_times, in_range g.width g.units g.latencies g.busy_times),
)

within_limits : (image : Image) → Test (IsWithinLimits image)
within_limits image =
    like (λ h. record { words = h.0; pages = h.1.0; blocks = h.1.1.0; memory = h.1.1.1.0; init = h.1.1.1.1 })
    (λ l. (l.words, (l.pages, (l.blocks, (l.memory, l.init)))))
    (both (equal (length image.words) (512 * page_count image))
    (both (both (most 1 (page_count image)) (most (page_count image) 256))
    (both (both (most 1 (length image.rows)) (most (length image.rows) (512 * page_count image)))
    (both (most image.memory 1048576) (most (length image.init) image.memory)))))

ranges : (image : Image) → Test (HasRanges image)
ranges image =
    like (λ h. record { rows = h.0; words = h.1 }) (λ r. (r.rows, r.words))
    (both (each IsRow (λ r. both (less r.entry (2 ^ 32)) (less r.count (2 ^ 16))) image.rows)
    (each (λ w. w < 2 ^ 64) (λ w. less w (2 ^ 64)) image.words))

written : (image : Image) → Test (IsImage image)
written image =
    like (λ h. record { limits = h.0; description = h.1.0; entry = h.1.1.0; ranges = h.1.1.1 })
    (λ i. (i.limits, (i.description, (i.entry, i.ranges))))
    (both (within_limits image) (both (description image.description) (both (less image.entry (2 ^ 32)) (ranges image))))

accepted : (image : Image) → Test (IsAccepted image)
accepted image =
    like (λ h. record { written = h.0; kept = h.1 }) (λ a. (a.written, a.kept))
    (both (written image) (none (broken_part image)))

has_units : (image : Image) (g : Description) → Test (HasUnits image g)
has_units image g =
    below (λ k. (i : ℕ) → i < length (words_of image k) → 0 < units_of g (kind_of (words_of image k) i))
    (λ k. below (λ i. 0 < units_of g (kind_of (words_of image k) i)) (λ i. less 0 (units_of g (kind_of (words_of image k) i))) (length (words_of image k)))
    (length image.rows)

movable : (image : Image) (g : Description) → Test (IsMovable image g)
movable image g =
    like (λ h. record { accepted = h.0; machine = h.1.0; units = h.1.1 }) (λ m. (m.accepted, (m.machine, m.units)))
    (both (accepted image) (both (description g) (has_units image g)))

pub cases_movable : (image : Image) (g : Description) → (IsMovable image g) ⊎ (IsMovable image g → ⊥)
cases_movable image g = elim (cases_Bool (movable image g).0) [
  | inl t ↦ inl ((movable image g).1.0 t)
  | inr f ↦ inr (not_from_Decides (movable image g).0 (movable image g).1 f)
]
