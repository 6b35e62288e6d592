-- What is known of cycles without room stays right.
use Rattle.std.proofs.Common.{◌≡◌, ◌<◌, ◌≤◌, ◌+◌, ◌*◌, ℕ, List, length, get_or, inl, inr, sym, ap, subst, ◌∙◌, arith, false, get_or-set_other, get_or-set_same}
use Rattle.std.specs.Prelude.{◌↔◌, IsTrue, Bool, slice_index, slice_set}
use Rattle.std.proofs.lemmas.Bool.{cases_eq, cases_lt, false≢true}
use Rattle.std.proofs.lemmas.List.{length-set, get_or_past, get_or_read}
use Rattle.operation.specs.declared.UnitKind.{UnitKind}
use Rattle.operation.specs.Places.{unit_number}
use Rattle.machine_desc.specs.Description.{Description}
use Rattle.machine_desc.specs.Ranges.{unit_below}
use Rattle.list_sched.specs.declared.rooms.Rooms.{Rooms}
use Rattle.list_sched.specs.Slots.{Slots, cycles, busy_in, HasRoomFor, IsTaken}
use Rattle.list_sched.specs.Rooms.{IsOpen, IsClosed, full_up_to, IsKnown}

-- no room for one busy cycle is none for more
one_busy : (g : Description) (s : Slots) (u : UnitKind) (busy c : ℕ) → 1 ≤ busy → HasRoomFor g s u busy c → IsOpen g s u c
one_busy g s u busy c some room = record { width = room.width; units = λ t low high. room.units t low (omega arith) }

module _ (g : Description) (s : Slots) (u : UnitKind) where
  pub joined : (from c before : ℕ) → IsClosed g s u from c → IsClosed g s u c before → IsClosed g s u from before
  joined from c before first second t low high free = elim (cases_lt t c) [ inl l ↦ first t low l free | inr l ↦ second t l high free ]

  -- a test that one cycle isn't open
  pub one_closed : (c : ℕ) (b : Bool) → (IsTrue b ↔ IsOpen g s u c) → b ≡ false → IsClosed g s u c (c + 1)
  one_closed c b e f t low high free =
      let same : t ≡ c = omega arith in
      false≢true (sym f ∙ e.1 (subst (IsOpen g s u) same free))

  -- a cycle that has no room, and those behind it that aren't open
  pub no_room : (busy from c before : ℕ) → 1 ≤ busy → ((t : ℕ) → from ≤ t → t < c → HasRoomFor g s u busy t → ⊥) → (HasRoomFor g s u busy c → ⊥) →
      IsClosed g s u (c + 1) before → (t : ℕ) → from ≤ t → t < before → HasRoomFor g s u busy t → ⊥
  no_room busy from c before some first here later t low high room = elim (cases_lt t c) [
    | inl l ↦ first t low l room
    | inr l ↦ elim (cases_eq t c) [
      | inl same ↦ here (subst (HasRoomFor g s u busy) same room)
      | inr other ↦ later t (omega arith) high (one_busy g s u busy t some room)
    ]
  ]

-- what is read at a cycle's place
pub read_there : (g : Description) (r : Rooms) (u : UnitKind) (c i n : ℕ) → IsKnown g r → c < r.count → i ≡ c * 5 + unit_number u → n ≡ get_or r.full.items i n → n ≡ full_up_to r u c
read_there g r u c i n known in_use place is =
    let there : i < length r.full.items = (let b = unit_below u in let s = known.rooms.size in let n = known.rooms.used in omega arith) in
    get_or_read r.full.items i n there is 0 ∙ ap (slice_index r.full.items) place

-- a leap, and the next one
pub halved : (g : Description) (r : Rooms) (u : UnitKind) (c ahead further : ℕ) → IsKnown g r → c < r.count → ahead < r.count → ahead ≡ full_up_to r u c → further ≡ full_up_to r u ahead →
    (further ≤ r.count) × IsClosed g r.slots u c further
halved g r u c ahead further known in_use ahead_in_use leap next = (
  let i = known.inside u ahead ahead_in_use in omega arith,
  joined g r.slots u c ahead further
      (λ t low high. known.closed u c in_use t low (omega arith))
      (λ t low high. known.closed u ahead ahead_in_use t low (omega arith)),
)

-- what is taken only takes room away
no_less : (xs : List ℕ) (i j : ℕ) → i < length xs → slice_index xs j ≤ slice_index (slice_set xs i (slice_index xs i + 1)) j
no_less xs i j there = elim (cases_eq j i) [
  | inl e ↦
      (let w : slice_index (slice_set xs i (slice_index xs i + 1)) i ≡ slice_index xs i + 1 = rw get_or-set_same in
      subst (λ k. slice_index xs k ≤ slice_index (slice_set xs i (slice_index xs i + 1)) k) (sym e) (omega arith))
  | inr ne ↦ (let w : slice_index (slice_set xs i (slice_index xs i + 1)) j ≡ slice_index xs j = rw get_or-set_other in omega arith)
]

module _ (g : Description) (old new : Slots) (u : UnitKind) (busy c : ℕ) (there : c < cycles old) (taken : IsTaken old new u busy c) where
  no_freer : (w : UnitKind) (t : ℕ) → busy_in old t w ≤ busy_in new t w
  no_freer w t = elim (cases_lt (t * 5 + unit_number w) (length old.busy)) [
    | inl l ↦ (let m = taken.busier t w l in omega arith)
    | inr l ↦ (let p : busy_in old t w ≡ 0 = get_or_past old.busy (t * 5 + unit_number w) 0 l in omega arith)
  ]

  was_open : (w : UnitKind) (t : ℕ) → IsOpen g new w t → IsOpen g old w t
  was_open w t free = record {
    width =
        let n = no_less old.issued c t there in
        let e : slice_index new.issued t ≡ slice_index (slice_set old.issued c (slice_index old.issued c + 1)) t = ap (λ l. slice_index l t) taken.issued in
        let o = free.width in
        omega arith;
    units = λ x low high. let o = free.units x low high in let m = no_freer w x in omega arith;
  }

pub still_known : (g : Description) (old new : Rooms) (u : UnitKind) (busy c : ℕ) → c < cycles old.slots → IsTaken old.slots new.slots u busy c → new.full.items ≡ old.full.items → new.count ≡ old.count → IsKnown g old → IsKnown g new
still_known g old new u busy c there taken full count known =
    let many : cycles new.slots ≡ cycles old.slots = ap length taken.issued ∙ length-set old.slots.issued c (slice_index old.slots.issued c + 1) in
    let same : (w : UnitKind) (t : ℕ) → full_up_to new w t ≡ full_up_to old w t = (λ w t. ap (λ (l : List ℕ). slice_index l (t * 5 + unit_number w)) full) in
    let size : length new.full.items ≡ length old.full.items = ap length full in
    record {
      rooms = record {
        slots = record { each = (let e = known.rooms.slots.each in let s = taken.size in omega arith); few = (let f = known.rooms.slots.few in omega arith) };
        size = (let s = known.rooms.size in omega arith);
        few = (let f = known.rooms.few in omega arith);
        used = (let f = known.rooms.used in omega arith);
      };
      inside = λ w t below. let i = known.inside w t (omega arith) in let e = same w t in omega arith;
      closed = λ w t below x low high free.
          let e = same w t in
          known.closed w t (omega arith) x low (omega arith) (was_open g old.slots new.slots u busy c there taken w x free);
    }
