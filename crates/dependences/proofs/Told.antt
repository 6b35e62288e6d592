-- What an access in the list tells of its operation, and what stands in the list.
use Rattle.std.proofs.Common.{◌≡◌, ℕ, zero, suc, ◌+◌, ◌*◌, ◌<◌, true, List, length, inl, inr, refl, sym, subst, ◌∙◌, arith, false}
use Rattle.std.specs.List.{Contains}
use Rattle.std.proofs.lemmas.Bool.{cases_lt}
use Rattle.std.proofs.lemmas.List.{get_or_default}
use Rattle.std.proofs.lemmas.List.Elements.{Contains-append_left, Contains-append_right, Contains-append_cases, Contains-get_or}
use Rattle.operation.specs.declared.Guarded.{Guarded}
use Rattle.operation.specs.declared.Place.{Place}
use Rattle.operation.specs.Places.{reads, writes, destinations, is_among, is_constant}
use Rattle.operation.proofs.PlaceLaws.{writes_at, written_among, write_varies, read_varies}
use Rattle.timed_meaning.specs.declared.TimedOp.{TimedOp}
use Rattle.dependences.specs.declared.footprint.Role.{Role}
use Rattle.dependences.specs.declared.access.Usage.{Usage}
use Rattle.dependences.specs.declared.access.Usage.TheVariants.{Read, Write}
use Rattle.dependences.specs.declared.access.Access.{Access}
use Rattle.dependences.specs.Before.{lands_at}
use Rattle.dependences.specs.Footprint.{place_number, read_places, role_at}
use Rattle.dependences.specs.Accesses.{read_of, write_of, accesses_of, all_accesses, access_at, AreAccesses}
use Rattle.dependences.proofs.PlaceRanges.{InRange, read_in_range, written_in_range}
use Rattle.dependences.proofs.Places.{range_among, made_of, made}
use Rattle.dependences.proofs.Footprints.{reads_law}

-- an access that reads
pub record IsRead (ops : ℕ → TimedOp) (n : ℕ) (a : Access) : Type 0 where
  pub inside : a.number < n
  pub of : Place
  pub in_range : InRange of
  pub numbered : a.place ≡ place_number of
  pub reads_it : reads (ops a.number).guarded of ≡ true
  pub timed : a.time ≡ (ops a.number).at * 2 + 1

-- an access that writes
pub record IsWrite (ops : ℕ → TimedOp) (n : ℕ) (a : Access) (r : Role) : Type 0 where
  pub inside : a.number < n
  pub of : Place
  pub in_range : InRange of
  pub numbered : a.place ≡ place_number of
  pub writes_it : writes (ops a.number).guarded.op of ≡ true
  pub role : role_at (ops a.number).guarded.op of ≡ r
  pub timed : a.time ≡ lands_at (ops a.number) * 2

-- by what it does
abbrev pub Tells : (ℕ → TimedOp) → ℕ → Access → Usage → Type 0
Tells ops n a Read = IsRead ops n a
Tells ops n a (Write r) = IsWrite ops n a r

-- ---- places that are read

among_read : (g : Guarded) (x : Place) → is_constant x ≡ false → is_among x (read_places g) ≡ true → reads g x ≡ true
among_read g x v a = sym (reads_law g x) ∙ rw v a

read_among : (g : Guarded) (x : Place) → reads g x ≡ true → is_among x (read_places g) ≡ true
read_among g x h = rw (read_varies g x h) at (reads_law g x ∙ h)

-- ---- all accesses

module _ (ops : ℕ → TimedOp) where
  -- one of an operation
  own : (n : ℕ) (a : Access) → Contains (all_accesses ops n) a → (i : ℕ) × (i < n) × Contains (accesses_of i (ops i)) a
  unfolding all_accesses
  own zero a c = absurd (let lt = c.1 in omega arith)
  own (suc m) a c = elim (Contains-append_cases (all_accesses ops m) (accesses_of m (ops m)) a c) [
    | inl h ↦ (let r = own m a h in (r.0, (let lt = r.1 in omega arith), r.2))
    | inr h ↦ (m, omega arith, h)
  ]

  listed : (n i : ℕ) (a : Access) → i < n → Contains (accesses_of i (ops i)) a → Contains (all_accesses ops n) a
  unfolding all_accesses
  listed zero i a lt c = absurd (omega arith)
  listed (suc m) i a lt c = elim (cases_lt i m) [
    | inl low ↦ Contains-append_left (all_accesses ops m) (accesses_of m (ops m)) a (listed m i a low c)
    | inr high ↦ Contains-append_right (all_accesses ops m) (accesses_of m (ops m)) a (let same : i ≡ m = omega arith in subst (λ k. Contains (accesses_of k (ops k)) a) same c)
  ]

  tells_of : (n i : ℕ) (a : Access) → i < n → Contains (accesses_of i (ops i)) a → Tells ops n a a.usage
  tells_of n i a lt c = elim (Contains-append_cases _ _ a c) [
    | inl h ↦
        (let r = made_of (read_of i (ops i)) (read_places (ops i).guarded) a h in
        subst (λ (b : Access). Tells ops n b b.usage) r.3
        (record {
          inside = lt;
          of = r.0;
          in_range = range_among (read_places (ops i).guarded) (read_in_range (ops i).guarded) r.0 r.2;
          numbered = refl;
          reads_it = among_read (ops i).guarded r.0 r.1 r.2;
          timed = refl;
        }))
    | inr h ↦
        (let r = made_of (write_of i (ops i)) (destinations (ops i).guarded.op) a h in
        subst (λ (b : Access). Tells ops n b b.usage) r.3
        (record {
          inside = lt;
          of = r.0;
          in_range = range_among (destinations (ops i).guarded.op) (written_in_range (ops i).guarded) r.0 r.2;
          numbered = refl;
          writes_it = writes_at (ops i).guarded.op r.0 r.1 r.2;
          role = refl;
          timed = refl;
        }))
  ]

-- ---- the list

-- an access stands in the list
pub record Stands (list : List Access) (a : Access) : Type 0 where
  pub place : ℕ
  pub inside : place < length list
  pub here : access_at list place ≡ a

module _ (ops : ℕ → TimedOp) (n : ℕ) (list : List Access) (are : AreAccesses ops n list) where
  -- what the access at a place of it tells
  pub told : (p : ℕ) → p < length list → Tells ops n (access_at list p) (access_at list p).usage
  told p lt =
      let a = access_at list p in
      let r = own ops n a ((are.all a).0 (Contains-get_or list p _ lt)) in
      tells_of ops n r.0 a r.1 r.2

  stands : (a : Access) → Contains (all_accesses ops n) a → Stands list a
  stands a c =
      let h = (are.all a).1 c in
      record { place = h.0; inside = h.1; here = get_or_default list h.0 _ a h.1 ∙ h.2 }

  -- what is read and what is written
  pub read_stands : (i : ℕ) (x : Place) → i < n → reads (ops i).guarded x ≡ true → Stands list (read_of i (ops i) x)
  read_stands i x lt h =
      let g = (ops i).guarded in
      stands (read_of i (ops i) x) (listed ops n i _ lt
      (Contains-append_left _ _ (read_of i (ops i) x) (made (read_of i (ops i)) (read_places g) x (read_varies g x h) (read_among g x h))))

  pub write_stands : (i : ℕ) (x : Place) → i < n → writes (ops i).guarded.op x ≡ true → Stands list (write_of i (ops i) x)
  write_stands i x lt h =
      let o = (ops i).guarded.op in
      stands (write_of i (ops i) x) (listed ops n i _ lt
      (Contains-append_right _ _ (write_of i (ops i) x) (made (write_of i (ops i)) (destinations o) x (write_varies o x h) (written_among o x h))))
