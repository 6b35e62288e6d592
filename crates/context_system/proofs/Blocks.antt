-- Each block of an accepted image begins in its cycle 0, so that at most 511 of its MultiOps issue later; and behind each
-- block that goes on to a next row there is one.
use Rattle.std.proofs.Common.{◌≡◌, ℕ, zero, suc, ◌+◌, ◌-◌, ◌<◌, ◌≤◌, Bool, true, false, cond, ◌||◌, List, [], ◌∷◌, map, length, take, refl, sym, ap, subst, ◌∙◌, inl, inr, Option, Some, None, arith}
use Rattle.std.specs.Prelude.{find, not, nat_eq, nat_lt, slice_get, option_map, sum}
use Rattle.std.specs.List.{list_any, range_with_len}
use Rattle.std.proofs.lemmas.Bool.{eq-eqb, eqb-true}
use Rattle.std.proofs.lemmas.List.Filters.{length-filter_both}
use Rattle.serial_order.specs.Lists.{Among}
use Rattle.list_encoding.specs.Times.{Pace, word_pace, spans, begun_by, issue_cycle}
use Rattle.timed_meaning.specs.declared.TimedOp.{TimedOp}
use Rattle.timed_meaning.specs.Program.{Block, Program, block_at}
use Rattle.timed_meaning.specs.Sound.{IsSound, IsSoundBlock}
use Rattle.two_timings.specs.Timing.{timed}
use Rattle.latency_deps.specs.Timing.{ops_of, own_timing}
use Rattle.image_format.specs.Image.{Image}
use Rattle.image_check.specs.Blocks.{words_of, timed_block, row_numbers, program_in}
use Rattle.block_steps.specs.Laws.{IsInOrder, SoundIsInOrder}
use Rattle.block_steps.proofs.Cuts.{issuing_after}
use Rattle.context_system.proofs.InOrder.{found_sound}

-- ---- the block that is found is that of a row

pub found_row : (image : Image) (ks : List ℕ) (entry : ℕ) (b : Block) → find (λ b. nat_eq b.entry entry) (map (timed_block image) ks) ≡ Some b →
    (k : ℕ) × Among k ks × (b ≡ timed_block image k) × (b.entry ≡ entry)
found_row image [] entry b h = absurd (let none : ⊥ = cc in none)
found_row image (k ∷ ks) entry b h = go (found_row image ks entry b) (nat_eq (timed_block image k).entry entry) refl h
  where
    go : (find (λ b. nat_eq b.entry entry) (map (timed_block image) ks) ≡ Some b → (k : ℕ) × Among k ks × (b ≡ timed_block image k) × (b.entry ≡ entry)) →
        (t : Bool) → nat_eq (timed_block image k).entry entry ≡ t → cond t (Some (timed_block image k)) (find (λ b. nat_eq b.entry entry) (map (timed_block image) ks)) ≡ Some b →
        (j : ℕ) × Among j (k ∷ ks) × (b ≡ timed_block image j) × (b.entry ≡ entry)
    go ih true t e =
        let same : b ≡ timed_block image k = cc in
        let at : (timed_block image k).entry ≡ entry = eqb-true (timed_block image k).entry entry t in
        (k, inl refl, same, ap (λ (c : Block). c.entry) same ∙ at)
    go ih false t e = let r = ih e in (r.0, inr r.1, r.2, r.3)

-- ---- the first operation issues in cycle 0

begun_at_first : (ops : List Pace) → begun_by ops 0 - 1 ≡ 0
begun_at_first [] = refl
begun_at_first (k ∷ ks) = elim k.head as (λ b. (0 + cond b 1 0) - 1 ≡ 0) [ true ↦ refl | false ↦ refl ]

first_cycle : (ops : List Pace) → issue_cycle ops 0 ≡ 0
first_cycle ops = ap (λ n. sum (take n (spans ops))) (begun_at_first ops)

abbrev pub BeginsAtZero : List TimedOp → Type 0
BeginsAtZero [] = Unit {0}
BeginsAtZero (k ∷ ks) = k.at ≡ 0

timed_begin : (image : Image) (k : ℕ) → BeginsAtZero (timed_block image k).ops
timed_begin image k = go (length (words_of image k))
  where
    go : (n : ℕ) → BeginsAtZero (map (timed (ops_of (words_of image k)) (own_timing image.description (words_of image k))) (range_with_len 0 n))
    go zero = tt
    go (suc n) = first_cycle (map word_pace (words_of image k))

begins : (image : Image) (entry : ℕ) (b : Block) → block_at (program_in image) entry ≡ Some b → BeginsAtZero b.ops
begins image entry b found =
    let r = found_row image (row_numbers image) entry b found in
    subst (λ (c : Block). BeginsAtZero c.ops) (sym r.2) (timed_begin image r.0)

few_behind : (ks : List TimedOp) → BeginsAtZero ks → 1 ≤ length ks → length ks ≤ 512 → length (issuing_after 0 ks) < 512
few_behind [] h some few = absurd (omega arith)
few_behind (k ∷ ks) h some few = go (nat_lt 0 k.at) (ap (nat_lt 0) h)
  where
    go : (b : Bool) → b ≡ nat_lt 0 0 → length (cond b (k ∷ issuing_after 0 ks) (issuing_after 0 ks)) < 512
    go true e = absurd (let clash : ⊥ = cc in clash)
    go false e = let parts = length-filter_both (λ (k : TimedOp). nat_lt 0 k.at) (λ k. not (nat_lt 0 k.at)) (λ k. refl) ks in omega arith

-- ---- the block behind a block

any_found : (p : Block → Bool) (bs : List Block) → list_any p bs ≡ true → (b : Block) × (find p bs ≡ Some b)
any_found p [] h = absurd (let none : ⊥ = cc in none)
any_found p (c ∷ bs) h = go (any_found p bs) (p c) h
  where
    go : (list_any p bs ≡ true → (b : Block) × (find p bs ≡ Some b)) → (t : Bool) → (t || list_any p bs) ≡ true → (b : Block) × (cond t (Some c) (find p bs) ≡ Some b)
    go ih true e = (c, refl)
    go ih false e = ih e

found_at : (p : Block → Bool) (bs : List Block) (k : ℕ) (c : Block) → slice_get bs k ≡ Some c → p c ≡ true → (b : Block) × (find p bs ≡ Some b)
found_at p [] k c h e = absurd (let none : ⊥ = cc in none)
found_at p (d ∷ bs) zero c h e =
    let same : c ≡ d = cc in
    (d, ap (λ (t : Bool). cond t (Some d) (find p bs)) (subst (λ (z : Block). p z ≡ true) same e))
found_at p (d ∷ bs) (suc k) c h e = go (found_at p bs k c h e) (p d)
  where
    go : (b : Block) × (find p bs ≡ Some b) → (t : Bool) → (b : Block) × (cond t (Some d) (find p bs) ≡ Some b)
    go ih true = (d, refl)
    go ih false = ih

place_of : (p : Block → Bool) (bs : List Block) (b : Block) → find p bs ≡ Some b → (k : ℕ) × (slice_get bs k ≡ Some b)
place_of p [] b h = absurd (let none : ⊥ = cc in none)
place_of p (c ∷ bs) b h = go (place_of p bs b) (p c) h
  where
    go : (find p bs ≡ Some b → (k : ℕ) × (slice_get bs k ≡ Some b)) → (t : Bool) → cond t (Some c) (find p bs) ≡ Some b → (k : ℕ) × (slice_get (c ∷ bs) k ≡ Some b)
    go ih true e = (0, e)
    go ih false e = let there : (k : ℕ) × (slice_get bs k ≡ Some b) = ih e in (suc there.0, there.1)

-- ---- both

-- a program whose blocks can be played to an end of its own or of its bound
pub record Goes (p : Program) : Type 0 where
  pub begins : (b : Block) × (block_at p p.entry ≡ Some b)
  pub next : (entry to : ℕ) (b : Block) → block_at p entry ≡ Some b → b.next ≡ Some to → (c : Block) × (block_at p to ≡ Some c)
  pub few : (entry : ℕ) (b : Block) → block_at p entry ≡ Some b → length (issuing_after 0 b.ops) < 512
  pub in_order : (entry : ℕ) (b : Block) → block_at p entry ≡ Some b → IsInOrder b

next_there : (p : Program) → IsSound p → (entry to : ℕ) (b : Block) → block_at p entry ≡ Some b → b.next ≡ Some to → (c : Block) × (block_at p to ≡ Some c)
next_there p h entry to b found next =
    let there = place_of (λ b. nat_eq b.entry entry) p.blocks b found in
    go there.0 (slice_get p.blocks (suc there.0)) refl (sym (h.next there.0 b there.1) ∙ next)
  where
    go : (k : ℕ) (o : Option Block) → slice_get p.blocks (suc k) ≡ o → option_map (λ (b : Block). b.entry) o ≡ Some to → (c : Block) × (block_at p to ≡ Some c)
    go k None e n = absurd (let none : ⊥ = cc in none)
    go k (Some c) e n =
        let same : c.entry ≡ to = cc in
        found_at (λ b. nat_eq b.entry to) p.blocks (suc k) c e (eq-eqb c.entry to same)

pub image_goes : SoundIsInOrder → (image : Image) → IsSound (program_in image) → Goes (program_in image)
image_goes orders image h = record {
  begins = any_found (λ b. nat_eq b.entry image.entry) (program_in image).blocks h.entry;
  next = next_there (program_in image) h;
  few = λ entry b found. let sound : IsSoundBlock b = found_sound (program_in image).blocks entry b h.blocks found in
      few_behind b.ops (begins image entry b found) sound.some sound.few;
  in_order = λ entry b found. orders b (found_sound (program_in image).blocks entry b h.blocks found);
}
