-- Of two operations with accesses to one place that aren't alike, one is reached from the other.
use Rattle.std.proofs.Common.{◌≡◌, ◌≢◌, ℕ, ◌<◌, ◌≤◌, true, false, ◌&&◌, List, length, ◌⊎◌, inl, inr, refl, sym, ap, subst, ◌∙◌, arith}
use Rattle.std.specs.Prelude.{pos, ◌+ℤ◌, ◌-ℤ◌}
use Rattle.std.proofs.lemmas.Bool.{cases_order, or_cases, and_parts}
use Rattle.operation.specs.declared.Guarded.{Guarded}
use Rattle.operation.specs.declared.LatKind.{LatKind}
use Rattle.operation.specs.declared.Place.{Place}
use Rattle.operation.specs.Places.{reads, writes, destinations, can_trap, is_inb}
use Rattle.operation.proofs.PlaceLaws.{writes_at, read_varies}
use Rattle.timed_meaning.specs.declared.TimedOp.{TimedOp}
use Rattle.block_links.specs.declared.links.Links.{Links}
use Rattle.dependences.specs.declared.access.Usage.TheVariants.{Write}
use Rattle.dependences.specs.declared.access.Access.{Access}
use Rattle.dependences.specs.Before.{feeds, both_write, keep_list_order}
use Rattle.dependences.specs.Footprint.{role_at}
use Rattle.dependences.specs.Accesses.{access_at, are_alike, read_of, write_of}
use Rattle.dependences.specs.Linked.{latency_among}
use Rattle.dependences.specs.Laws.{AreSound}
use Rattle.dependences.proofs.Usages.{write_unlike_read, unlike_turned, apart_parts}
use Rattle.dependences.proofs.Places.{some_of}
use Rattle.dependences.proofs.Footprints.{keep_law}
use Rattle.dependences.proofs.Told.{Stands, read_stands, write_stands}
use Rattle.dependences.proofs.InTurn.{earlier_first}
use Rattle.dependences.proofs.Clashes.{both_apart}
use Rattle.dependences.proofs.Reach.{Reach, along, trap_order, input_order}
use Rattle.dependences.proofs.Follows.{Follows, Same, Later, gap}
use Rattle.dependences.proofs.Runs.{follows}

-- a place that the first writes and the second reads
record FedAt (a b : Guarded) : Type 0 where
  of : Place
  written : writes a.op of ≡ true
  read : reads b of ≡ true

fed_at : (a b : Guarded) → feeds a b ≡ true → FedAt a b
fed_at a b h =
    let r = some_of (reads b) (destinations a.op) h in
    record { of = r.place; written = writes_at a.op r.place (read_varies b r.place r.passes) r.among; read = r.passes }

module _ (ops : ℕ → TimedOp) (n : ℕ) (list : List Access) (l : Links) (s : AreSound ops n list l) (latency : LatKind → ℕ) (some : (k : LatKind) → 1 ≤ latency k) where
  abbrev lats : ℕ → ℕ
  lats = latency_among latency ops

  abbrev To : (a b : Access) → Type 0
  To a b = Reach (along ops n list l s.linked latency) a.number b.number (gap (lats a.number) (lats b.number) a.usage b.usage)

  -- ---- by two accesses

  in_turn : (p q : ℕ) → p < q → q < length list → (access_at list p).place ≡ (access_at list q).place → are_alike (access_at list p).usage (access_at list q).usage ≡ false →
      (access_at list p).number ≢ (access_at list q).number → To (access_at list p) (access_at list q)
  in_turn p q lt inside e unlike ne = go (follows ops n list l s.listed s.accesses s.linked latency some q p q (omega arith) lt inside e unlike)
    where
      go : Follows (along ops n list l s.linked latency) lats (access_at list p).number (access_at list p).usage (access_at list q).number (access_at list q).usage → To (access_at list p) (access_at list q)
      go (Same f u) = absurd (ne f)
      go (Later r) = r

  -- two accesses to one place of different operations, not alike
  pub record Meet (a b : Access) : Type 0 where
    pub first : Stands list a
    pub second : Stands list b
    pub place : a.place ≡ b.place
    pub unlike : are_alike a.usage b.usage ≡ false
    pub differ : a.number ≢ b.number

  -- the second is reached from the first where that stands first
  forth : (a b : Access) (m : Meet a b) → m.first.place < m.second.place → To a b
  forth a b m lt =
      let p = m.first.place in
      let q = m.second.place in
      let e = m.first.here in
      let f = m.second.here in
      subst (λ (x : Access). To x b) e
      (subst (λ (y : Access). To (access_at list p) y) f
      (in_turn p q lt m.second.inside
      (ap (λ x. x.place) e ∙ m.place ∙ sym (ap (λ x. x.place) f))
      (ap (λ (x : Access). are_alike x.usage (access_at list q).usage) e ∙ ap (λ (x : Access). are_alike a.usage x.usage) f ∙ m.unlike)
      (λ same. m.differ (sym (ap (λ x. x.number) e) ∙ same ∙ ap (λ x. x.number) f))))

  pub turned : (a b : Access) → Meet a b → Meet b a
  turned a b m = record { first = m.second; second = m.first; place = sym m.place; unlike = unlike_turned a.usage b.usage m.unlike; differ = λ same. m.differ (sym same) }

  pub one_way : (a b : Access) → Meet a b → To a b ⊎ To b a
  unfolding turned
  one_way a b m = elim (cases_order m.first.place m.second.place) [
    | inl same ↦ absurd (m.differ (sym (ap (λ x. x.number) m.first.here) ∙ ap (λ k. (access_at list k).number) same ∙ ap (λ x. x.number) m.second.here))
    | inr (inl lt) ↦ inl (forth a b m lt)
    | inr (inr lt) ↦ inr (forth b a (turned a b m) lt)
  ]

  pub by_time : (a b : Access) → Meet a b → a.time < b.time → To a b
  by_time a b m lt =
      let e = m.first.here in
      let f = m.second.here in
      forth a b m (earlier_first ops n list s.accesses m.first.place m.second.place m.first.inside m.second.inside
      (ap (λ x. x.place) e ∙ m.place ∙ sym (ap (λ x. x.place) f))
      (let x = ap (λ x. x.time) e in let y = ap (λ x. x.time) f in omega arith))

  -- ---- by two operations

  module _ (i j : ℕ) (low : i < n) (high : j < n) (ne : i ≢ j) where
    -- the one writes what the other reads
    pub record Fed : Type 0 where
      pub of : Place
      pub meet : Meet (write_of i (ops i) of) (read_of j (ops j) of)

    pub fed : feeds (ops i).guarded (ops j).guarded ≡ true → Fed
    fed h =
        let r = fed_at (ops i).guarded (ops j).guarded h in
        record {
          of = r.of;
          meet = record {
            first = write_stands ops n list s.accesses i r.of low r.written;
            second = read_stands ops n list s.accesses j r.of high r.read;
            place = refl;
            unlike = write_unlike_read (role_at (ops i).guarded.op r.of);
            differ = ne;
          };
        }

    -- both write it
    pub record BothWrite : Type 0 where
      pub of : Place
      pub meet : Meet (write_of i (ops i) of) (write_of j (ops j) of)
      pub no_stores : gap (lats i) (lats j) (Write (role_at (ops i).guarded.op of)) (Write (role_at (ops j).guarded.op of)) ≡ (pos (lats i) -ℤ pos (lats j)) +ℤ pos 1

    pub both : both_write (ops i).guarded.op (ops j).guarded.op ≡ true → BothWrite
    both h =
        let w = both_apart (ops i).guarded.op (ops j).guarded.op h in
        let parts = apart_parts (Write (role_at (ops i).guarded.op w.of)) (Write (role_at (ops j).guarded.op w.of)) w.apart in
        record {
          of = w.of;
          meet = record {
            first = write_stands ops n list s.accesses i w.of low w.first;
            second = write_stands ops n list s.accesses j w.of high w.second;
            place = refl;
            unlike = parts.1;
            differ = ne;
          };
          no_stores = rw parts.0 refl;
        }

    -- the one stands before the other in the list, and they keep its order
    pub in_order : keep_list_order (ops i).guarded.op (ops j).guarded.op ≡ true → i < j → Reach (along ops n list l s.linked latency) i j (pos 0)
    in_order h lt =
        let a = (ops i).guarded.op in
        let b = (ops j).guarded.op in
        elim (or_cases (can_trap a && can_trap b) (is_inb a && is_inb b) (sym (keep_law a b) ∙ h)) [
          | inl t ↦ (let p = and_parts (can_trap a) (can_trap b) t in trap_order ops n list l s.linked latency i j lt high p.0 p.1)
          | inr t ↦ (let p = and_parts (is_inb a) (is_inb b) t in input_order ops n list l s.linked latency i j lt high p.0 p.1)
        ]
