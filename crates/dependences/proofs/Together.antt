-- Where no accesses clash, no two operations write a place, not as one wired family, and land together.
use Rattle.std.proofs.Common.{◌≡◌, ℕ, zero, suc, ◌+◌, ◌<◌, ◌≤◌, true, false, not, ◌&&◌, List, length, ◌⊎◌, inl, inr, refl, sym, ap, subst, ◌∙◌, arith}
use Rattle.std.specs.Prelude.{nat_eq}
use Rattle.std.proofs.lemmas.Bool.{cases_lt, cases_order, and_cases, eq-eqb, eqb-true, not-false, both_ways}
use Rattle.operation.specs.declared.Place.{Place}
use Rattle.operation.specs.declared.Place.TheVariants.{Memory}
use Rattle.timed_meaning.specs.declared.TimedOp.{TimedOp}
use Rattle.dependences.specs.declared.footprint.Role.{Role}
use Rattle.dependences.specs.declared.footprint.Role.TheVariants as role
use Rattle.dependences.specs.declared.access.Usage.{Usage}
use Rattle.dependences.specs.declared.access.Usage.TheVariants.{Read, Write}
use Rattle.dependences.specs.declared.access.Access.{Access}
use Rattle.dependences.specs.Footprint.{role_at}
use Rattle.dependences.specs.Accesses.{AreAccesses, NoneClash, access_at, is_clash, write_apart, are_alike, are_stores, write_of}
use Rattle.dependences.specs.Laws.{NoneLandTogether}
use Rattle.dependences.proofs.Usages.{alike_same, unlike_turned, stores_are, store_place, apart_parts, not_apart}
use Rattle.dependences.proofs.Places.{one_place}
use Rattle.dependences.proofs.Told.{IsWrite, Tells, Stands, told, write_stands}
use Rattle.dependences.proofs.InTurn.{not_later, between}
use Rattle.dependences.proofs.Clashes.{WrittenApart, both_apart}

-- one operation writes a place in one role
pub one_role :
    (ops : ℕ → TimedOp) (n : ℕ) (a b : Access) (r t : Role) → IsWrite ops n a r → IsWrite ops n b t → a.place ≡ b.place →
    a.number ≡ b.number → r ≡ t
one_role ops n a b r t f g e same =
    sym f.role
    ∙ ap (λ k. role_at (ops k).guarded.op f.of) same
    ∙ ap (role_at (ops b.number).guarded.op) (one_place f.of g.of f.in_range g.in_range (sym f.numbered ∙ e ∙ g.numbered))
    ∙ g.role

-- where one write to a place is a store, so is each
all_stores : (ops : ℕ → TimedOp) (n : ℕ) (a b : Access) (r : Role) → IsWrite ops n a r → IsWrite ops n b role.Store → a.place ≡ b.place → r ≡ role.Store
all_stores ops n a b r f g e =
    let same : f.of ≡ g.of = one_place f.of g.of f.in_range g.in_range (sym f.numbered ∙ e ∙ g.numbered) in
    sym f.role ∙ ap (role_at (ops a.number).guarded.op) (same ∙ store_place (ops b.number).guarded.op g.of g.role)

-- two that stand next to each other and don't clash
no_clash : (a b : Access) → a.place ≡ b.place → a.time ≡ b.time → is_clash a b ≡ false → (a.number ≡ b.number) ⊎ (write_apart a.usage b.usage ≡ false)
no_clash a b e f h = elim (and_cases (not (nat_eq a.number b.number)) (write_apart a.usage b.usage) rest) [
  | inl s ↦ inl (eqb-true a.number b.number (not-false (nat_eq a.number b.number) s))
  | inr w ↦ inr w
]
  where
    rest : (not (nat_eq a.number b.number) && write_apart a.usage b.usage) ≡ false
    rest = rw (eq-eqb a.place b.place e, eq-eqb a.time b.time f) at h

module _ (ops : ℕ → TimedOp) (n : ℕ) (list : List Access) (are : AreAccesses ops n list) (none : NoneClash list) where
  abbrev at : ℕ → Access
  at = access_at list

  module _ (p q : ℕ) (first : Role) (lt : p < q) (inside : q < length list) (usage : (at p).usage ≡ Write first) (here : IsWrite ops n (at p) first) (place : (at p).place ≡ (at q).place) (time : (at p).time ≡ (at q).time) (no_store : first ≡ role.Store → ⊥) where
    -- an access that is alike with the first of them, or the same
    abbrev Kept : ℕ → Type 0
    Kept k = (are_alike (Write first) (at k).usage ≡ true) ⊎ (((at p).number ≡ (at k).number) × ((at k).usage ≡ Write first))

    -- all between write to the place in that cycle
    record IsThere (k : ℕ) : Type 0 where
      in_role : Role
      used : (at k).usage ≡ Write in_role
      writes_it : IsWrite ops n (at k) in_role
      in_place : (at p).place ≡ (at k).place
      in_time : (at p).time ≡ (at k).time

    behind : (k : ℕ) → p < k → k ≤ q → IsThere k
    behind k after upto = go (at k).usage refl (told ops n list are k (omega arith))
      where
        to_it : (at p).place ≡ (at k).place
        to_it = elim (cases_lt k q) [
          | inl low ↦ between ops n list are p k q after low inside place
          | inr high ↦ (let same : q ≡ k = omega arith in place ∙ ap (λ i. (at i).place) same)
        ]

        upper : (at k).time ≤ (at q).time
        upper = elim (cases_lt k q) [
          | inl low ↦ not_later ops n list are k q low inside (sym to_it ∙ place)
          | inr high ↦ (let same : q ≡ k = omega arith in let e = ap (λ i. (at i).time) same in omega arith)
        ]

        then : (at p).time ≡ (at k).time
        then = let a = not_later ops n list are p k after (omega arith) to_it in let b = upper in omega arith

        go : (u : Usage) → (at k).usage ≡ u → Tells ops n (at k) u → IsThere k
        go Read e f = absurd (let a = f.timed in let b = here.timed in let c = then in omega arith)
        go (Write r) e f = record { in_role = r; used = e; writes_it = f; in_place = to_it; in_time = then }

    there : (k : ℕ) → p ≤ k → k ≤ q → IsThere k
    there k from upto = elim (cases_lt p k) [
      | inl after ↦ behind k after upto
      | inr same ↦
          (let e : p ≡ k = omega arith in
          subst IsThere e (record { in_role = first; used = usage; writes_it = here; in_place = refl; in_time = refl }))
    ]

    next : (k : ℕ) → p ≤ k → k < q → Kept k → Kept (k + 1)
    next k from below kept = go (no_clash (at k) (at (k + 1)) in_place in_time (none k (omega arith))) kept
      where
        a : IsThere k
        a = there k from (omega arith)

        b : IsThere (k + 1)
        b = there (k + 1) (omega arith) (omega arith)

        in_place : (at k).place ≡ (at (k + 1)).place
        in_place = sym a.in_place ∙ b.in_place

        in_time : (at k).time ≡ (at (k + 1)).time
        in_time = sym a.in_time ∙ b.in_time

        alike : (at k).usage ≡ (at (k + 1)).usage → are_alike (Write first) (at k).usage ≡ true → Kept (k + 1)
        alike e h = inl (ap (are_alike (Write first)) (sym e) ∙ h)

        go : ((at k).number ≡ (at (k + 1)).number) ⊎ (write_apart (at k).usage (at (k + 1)).usage ≡ false) → Kept k → Kept (k + 1)
        go (inl same) kept =
            let role_same = one_role ops n (at k) (at (k + 1)) a.in_role b.in_role a.writes_it b.writes_it in_place same in
            let e : (at k).usage ≡ (at (k + 1)).usage = a.used ∙ ap Write role_same ∙ sym b.used in
            elim kept [ inl h ↦ alike e h | inr h ↦ inr (h.0 ∙ same, sym e ∙ h.1) ]
        go (inr apart) kept = elim (not_apart a.in_role b.in_role (ap (λ u. write_apart u (Write b.in_role)) (sym a.used) ∙ ap (write_apart (at k).usage) (sym b.used) ∙ apart)) [
          | inl s ↦
              absurd (
              let e : b.in_role ≡ role.Store = (let x = (stores_are (Write a.in_role) (Write b.in_role) s).1 in cc) in
              no_store (all_stores ops n (at p) (at (k + 1)) first here (subst (IsWrite ops n (at (k + 1))) e b.writes_it) b.in_place))
          | inr h ↦
              (let e : (at k).usage ≡ (at (k + 1)).usage = a.used ∙ alike_same (Write a.in_role) (Write b.in_role) h ∙ sym b.used in
              elim kept [
                | inl g ↦ alike e g
                | inr g ↦ inl (ap (λ u. are_alike u (at (k + 1)).usage) (sym g.1 ∙ a.used) ∙ ap (are_alike (Write a.in_role)) b.used ∙ h)
              ])
        ]

    each : (k : ℕ) → p ≤ k → k ≤ q → Kept k
    each zero from upto = inr (ap (λ i. (at i).number) (let e : p ≡ 0 = omega arith in e), ap (λ i. (at i).usage) (let e : 0 ≡ p = omega arith in e) ∙ usage)
    each (suc m) from upto = go (cases_lt m p) (each m)
      where
        go : (m < p) ⊎ (p ≤ m) → (p ≤ m → m ≤ q → Kept m) → Kept (suc m)
        go (inl low) earlier = let e : p ≡ suc m = omega arith in subst Kept e (inr (refl, usage))
        go (inr high) earlier = subst Kept (let e : m + 1 ≡ suc m = omega arith in e) (next m high (omega arith) (earlier high (omega arith)))

  -- two writes to a place in one cycle, not alike and not stores, are one operation's
  one_writer : (p q : ℕ) (first : Role) → p < q → q < length list → (at p).usage ≡ Write first → (at p).place ≡ (at q).place → (at p).time ≡ (at q).time →
      (first ≡ role.Store → ⊥) → are_alike (Write first) (at q).usage ≡ false → (at p).number ≡ (at q).number
  one_writer p q first lt inside usage place time no_store unlike =
      elim (each p q first lt inside usage (subst (λ u. Tells ops n (at p) u) usage (told ops n list are p (omega arith))) place time no_store q (omega arith) (omega arith)) [
        | inl h ↦ absurd (both_ways (are_alike (Write first) (at q).usage) unlike h)
        | inr h ↦ h.0
      ]

pub none_land_together : NoneLandTogether
none_land_together ops n list are none i j l =
    elim (cases_order e.place f.place) [
      | inl same ↦ l.differ (sym (ap (λ a. a.number) e.here) ∙ ap (λ k. (access_at list k).number) same ∙ ap (λ a. a.number) f.here)
      | inr (inl before) ↦
          l.differ
          (sym (ap (λ a. a.number) e.here)
          ∙ one_writer ops n list are none e.place f.place r before f.inside (ap (λ a. a.usage) e.here)
          (ap (λ a. a.place) e.here ∙ sym (ap (λ a. a.place) f.here))
          (let s = ap (λ a. a.time) e.here in let t = ap (λ a. a.time) f.here in let u = l.land in omega arith)
          (λ s. both_ways _ parts.0 (stores (store_place (ops i).guarded.op x s)))
          (ap (are_alike (Write r)) (ap (λ a. a.usage) f.here) ∙ parts.1)
          ∙ ap (λ a. a.number) f.here)
      | inr (inr behind) ↦
          l.differ
          (sym (sym (ap (λ a. a.number) f.here)
          ∙ one_writer ops n list are none f.place e.place t behind e.inside (ap (λ a. a.usage) f.here)
          (ap (λ a. a.place) f.here ∙ sym (ap (λ a. a.place) e.here))
          (let s = ap (λ a. a.time) e.here in let t = ap (λ a. a.time) f.here in let u = l.land in omega arith)
          (λ s. both_ways _ parts.0 (stores (store_place (ops j).guarded.op x s)))
          (ap (are_alike (Write t)) (ap (λ a. a.usage) e.here) ∙ unlike_turned (Write r) (Write t) parts.1)
          ∙ ap (λ a. a.number) e.here))
    ]
  where
    w : WrittenApart (ops i).guarded.op (ops j).guarded.op
    w = both_apart (ops i).guarded.op (ops j).guarded.op l.write

    x : Place
    x = w.of

    r : Role
    r = role_at (ops i).guarded.op x

    t : Role
    t = role_at (ops j).guarded.op x

    e : Stands list (write_of i (ops i) x)
    e = write_stands ops n list are i x l.first w.first

    f : Stands list (write_of j (ops j) x)
    f = write_stands ops n list are j x l.second w.second

    stores : x ≡ Memory → are_stores (Write r) (Write t) ≡ true
    stores same = rw same refl

    parts : (are_stores (Write r) (Write t) ≡ false) × (are_alike (Write r) (Write t) ≡ false)
    parts = apart_parts (Write r) (Write t) w.apart
