-- The blocks of a program in other timings can be played.
use Rattle.std.proofs.Common.{◌≡◌, ℕ, zero, suc, ◌<◌, ◌≤◌, Bool, true, false, cond, List, [], ◌∷◌, map, length, get_or, refl, sym, ap, subst, inl, inr, Option, Some, arith}
use Rattle.std.specs.Prelude.{find, nat_eq, All}
use Rattle.std.specs.List.{AllZip}
use Rattle.std.proofs.lemmas.List.{length-map}
use Rattle.std.proofs.lemmas.List.Elements.{All-head, All-tail}
use Rattle.operation.specs.declared.Guarded.{Guarded}
use Rattle.operation.specs.Places.{latency_kind}
use Rattle.serial_order.specs.Lists.{Among, Earlier}
use Rattle.timed_meaning.specs.declared.TimedOp.{TimedOp}
use Rattle.timed_meaning.specs.Program.{Block, Program, block_at}
use Rattle.two_timings.specs.Timing.{Timing, IsTiming, timed, timed_ops}
use Rattle.image_format.specs.Image.{Image}
use Rattle.image_check.specs.Laws.{IsInAnotherTiming, IsInOtherTimings}
use Rattle.timed_meaning.specs.Sound.{IsSound, IsSoundBlock}
use Rattle.block_steps.specs.Laws.{IsInOrder, SoundIsInOrder}

module _ (ops : ℕ → Guarded) (t : Timing) where
  -- an operation of a list, which is among it
  among : (ks : List ℕ) (j : ℕ) (d : TimedOp) → j < length ks → (m : ℕ) × Among m ks × (get_or (map (timed ops t) ks) j d ≡ timed ops t m)
  among [] j d lt = absurd (omega arith)
  among (k ∷ ks) zero d lt = (k, inl refl, refl)
  among (k ∷ ks) (suc j) d lt = let rest = among ks j d (omega arith) in (rest.0, inr rest.1, rest.2)

  rising : (ks : List ℕ) → ((i j : ℕ) → Earlier ks i j → t.at i ≤ t.at j) → (i j : ℕ) (d : TimedOp) → i ≤ j → j < length ks →
      (get_or (map (timed ops t) ks) i d).at ≤ (get_or (map (timed ops t) ks) j d).at
  rising [] h i j d le lt = absurd (omega arith)
  rising (k ∷ ks) h zero zero d le lt = omega arith
  rising (k ∷ ks) h zero (suc j) d le lt =
      let there = among ks j d (omega arith) in
      let at : (get_or (map (timed ops t) ks) j d).at ≡ t.at there.0 = ap (λ (o : TimedOp). o.at) there.2 in
      let below : t.at k ≤ t.at there.0 = h k there.0 (inl (refl, there.1)) in
      omega arith
  rising (k ∷ ks) h (suc i) zero d le lt = absurd (omega arith)
  rising (k ∷ ks) h (suc i) (suc j) d le lt = rising ks (λ a b e. h a b (inr e)) i j d (omega arith) (omega arith)

  latencies : (ks : List ℕ) → IsTiming t → (j : ℕ) (d : TimedOp) → j < length ks → 0 < (get_or (map (timed ops t) ks) j d).latency
  latencies ks h j d lt =
      let there = among ks j d lt in
      let same : (get_or (map (timed ops t) ks) j d).latency ≡ t.latency (latency_kind (ops there.0).op) = ap (λ (o : TimedOp). o.latency) there.2 in
      let above : 0 < t.latency (latency_kind (ops there.0).op) = h.latencies (latency_kind (ops there.0).op) in
      omega arith

  timed_in_order : IsTiming t → (e n : ℕ) (next : Option ℕ) → IsInOrder (record { entry = e; next = next; ops = timed_ops ops t; end = n })
  timed_in_order h e n next =
      let same : length (map (timed ops t) t.listed) ≡ length t.listed = length-map t.listed (timed ops t) in
      record {
        rising = λ i j d le lt. rising t.listed h.never_fall i j d le (omega arith);
        latencies = λ j d lt. latencies t.listed h j d (omega arith);
      }

in_order_by : (b : Block) (ops : ℕ → Guarded) (t : Timing) → IsTiming t → b.ops ≡ timed_ops ops t → IsInOrder b
in_order_by b ops t h same =
    subst (λ (ks : List TimedOp). IsInOrder (record { entry = b.entry; next = b.next; ops = ks; end = b.end })) (sym same) (timed_in_order ops t h b.entry b.end b.next)

found_of : (image : Image) (ks : List ℕ) (bs : List Block) (entry : ℕ) (b : Block) → AllZip (IsInAnotherTiming image) ks bs →
    find (λ b. nat_eq b.entry entry) bs ≡ Some b → (k : ℕ) × IsInAnotherTiming image k b
found_of image [] [] entry b h e = absurd (let no : ⊥ = cc in no)
found_of image [] (c ∷ bs) entry b h e = elim h [ ]
found_of image (k ∷ ks) [] entry b h e = elim h [ ]
found_of image (k ∷ ks) (c ∷ bs) entry b h e = go (found_of image ks bs entry b h.1) (nat_eq c.entry entry) e
  where
    go : (find (λ b. nat_eq b.entry entry) bs ≡ Some b → (k : ℕ) × IsInAnotherTiming image k b) → (t : Bool) →
        cond t (Some c) (find (λ b. nat_eq b.entry entry) bs) ≡ Some b → (k : ℕ) × IsInAnotherTiming image k b
    go ih true e = let same : c ≡ b = cc in (k, subst (IsInAnotherTiming image k) same h.0)
    go ih false e = ih e

-- a block at an entry of such a program can be played
pub blocks_in_order : (image : Image) (p : Program) → IsInOtherTimings image p → (entry : ℕ) (b : Block) → block_at p entry ≡ Some b → IsInOrder b
blocks_in_order image p h entry b e =
    let there = found_of image _ p.blocks entry b h.blocks e in
    in_order_by b _ there.1.timing there.1.agrees.timing there.1.ops

pub found_sound : (bs : List Block) (entry : ℕ) (b : Block) → All IsSoundBlock bs → find (λ b. nat_eq b.entry entry) bs ≡ Some b → IsSoundBlock b
found_sound [] entry b all e = absurd (let no : ⊥ = cc in no)
found_sound (c ∷ bs) entry b all e = go (found_sound bs entry b (All-tail IsSoundBlock c bs all)) (nat_eq c.entry entry) e
  where
    go : (find (λ b. nat_eq b.entry entry) bs ≡ Some b → IsSoundBlock b) → (t : Bool) → cond t (Some c) (find (λ b. nat_eq b.entry entry) bs) ≡ Some b → IsSoundBlock b
    go ih true e = let same : c ≡ b = cc in subst IsSoundBlock same (All-head IsSoundBlock c bs all)
    go ih false e = ih e

-- so can a block at an entry of a sound program
pub sound_in_order : SoundIsInOrder → (p : Program) → IsSound p → (entry : ℕ) (b : Block) → block_at p entry ≡ Some b → IsInOrder b
sound_in_order sound p h entry b e = sound b (found_sound p.blocks entry b h.blocks e)
