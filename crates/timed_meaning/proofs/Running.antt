-- From one block to the next.
use Rattle.std.proofs.Common.{◌≡◌, ℕ, zero, suc, ◌+◌, ◌-◌, ◌<◌, Bool, true, false, cond, List, [], ◌∷◌, map, get_or, length, refl, sym, ap, ◌∙◌, Option, Some, None, arith}
use Rattle.std.specs.Prelude.{find, nat_eq, slice_get}
use Rattle.std.proofs.lemmas.Bool.{eqb-true}
use Rattle.operation.specs.declared.End.{End}
use Rattle.timed_meaning.specs.declared.TimedBlock.{TimedBlock}
use Rattle.timed_meaning.specs.Values.{State}
use Rattle.timed_meaning.specs.Block.{block}
use Rattle.timed_meaning.specs.Program.{Block, Program, Meaning, Next, Goes, Ends, block_of, block_at, follows, advance, mean_from}
use Rattle.timed_meaning.specs.Cycles.{cycles_by, cycles_at}

-- a block that is found has the entry that was looked for
found_entry : (bs : List Block) (entry : ℕ) (b : Block) → find (λ b. nat_eq b.entry entry) bs ≡ Some b → b.entry ≡ entry
found_entry [] entry b e = absurd (let k : ⊥ = cc in k)
found_entry (x ∷ bs) entry b e = go (found_entry bs entry b) (nat_eq x.entry entry) refl e
  where
    go : (find (λ b. nat_eq b.entry entry) bs ≡ Some b → b.entry ≡ entry) → (t : Bool) → nat_eq x.entry entry ≡ t → cond t (Some x) (find (λ b. nat_eq b.entry entry) bs) ≡ Some b → b.entry ≡ entry
    go rest true h k = let same : x ≡ b = cc in ap (λ (y : Block). y.entry) (sym same) ∙ eqb-true x.entry entry h
    go rest false h k = rest k

block_in : (bs : List TimedBlock) (i : ℕ) (b : TimedBlock) → i < length bs → b ≡ get_or bs i b → slice_get (map block_of bs) i ≡ Some (block_of b)
block_in [] i b lt e = absurd (omega arith)
block_in (x ∷ bs) zero b lt e = ap (λ y. Some (block_of y)) (sym e)
block_in (x ∷ bs) (suc i) b lt e = block_in bs i b (omega arith) e

-- the block in a found row is the one with the entry
block_there : (p : Program) (bs : List TimedBlock) (i : ℕ) (b : TimedBlock) (entry : ℕ) → i < length bs → b ≡ get_or bs i b → slice_get (map block_of bs) i ≡ block_at p entry → block_at p entry ≡ Some (block_of b)
block_there p bs i b entry lt at found = sym found ∙ block_in bs i b lt at

-- what comes of the block with the entry is what comes of the program there
pub advances : (p : Program) (bs : List TimedBlock) (i : ℕ) (b : TimedBlock) (input : List ℕ) (limit entry : ℕ) (s : State) (n : Next) →
    i < length bs → b ≡ get_or bs i b → slice_get (map block_of bs) i ≡ block_at p entry →
    n ≡ follows p b.entry b.next (block (record { state = s; input = input; next = b.next; limit = limit }) b.ops.items) → n ≡ advance p input limit entry s
advances p bs i b input limit entry s n lt at found came =
    let here : block_at p entry ≡ Some (block_of b) = block_there p bs i b entry lt at found in
    came
    ∙ ap (λ e. follows p e b.next (block (record { state = s; input = input; next = b.next; limit = limit }) b.ops.items)) (found_entry p.blocks entry (block_of b) here)
    ∙ ap (λ (o : Option Block). elim o [ None ↦ Goes entry s | Some b ↦ follows p entry b.next (block (record { state = s; input = input; next = b.next; limit = limit }) b.ops) ]) (sym here)

-- the cycles of the block with the entry are those of the program there
pub takes : (p : Program) (bs : List TimedBlock) (i : ℕ) (b : TimedBlock) (input : List ℕ) (limit entry : ℕ) (s : State) (n : ℕ) →
    i < length bs → b ≡ get_or bs i b → slice_get (map block_of bs) i ≡ block_at p entry →
    n ≡ cycles_by (block_of b) (block (record { state = s; input = input; next = b.next; limit = limit }) b.ops.items) → n ≡ cycles_at p input limit entry s
takes p bs i b input limit entry s n lt at found took =
    took
    ∙ ap (λ (o : Option Block). elim o [ None ↦ 0 | Some b ↦ cycles_by b (block (record { state = s; input = input; next = b.next; limit = limit }) b.ops) ])
    (sym (block_there p bs i b entry lt at found))

-- a run whose next block ends it
pub ends_there : (p : Program) (input : List ℕ) (limit bound k entry : ℕ) (s : State) (e : End) (j : ℕ) (output memory : List ℕ) → k < bound → Ends e j output memory ≡ advance p input limit entry s →
    ◌≡◌ {A = Meaning} (record { end = e; blocks = k + j; output = output; memory = memory }) (mean_from p input limit (bound - k) k entry s)
ends_there p input limit bound k entry s e j output memory lt came =
    let one : bound - k ≡ suc (bound - (k + 1)) = omega arith in
    rw one
    (ap (λ (n : Next). elim n [ Goes to s' ↦ mean_from p input limit (bound - (k + 1)) (k + 1) to s' | Ends e j out mem ↦ record { end = e; blocks = k + j; output = out; memory = mem } ]) came)
