-- The blocks of an image in another generation, by the operations of the pages in frames.
use Rattle.std.proofs.Common.{◌≡◌, ℕ, ◌+◌, ◌*◌, ◌/◌, ◌%◌, ◌<◌, ◌≤◌, Bool, true, false, cond, List, [], ◌∷◌, length, map, take, drop, refl, sym, ap, subst, ◌∙◌, inl, inr, Option, Some, None, arith}
use Rattle.std.specs.Prelude.{nat_eq, find, slice_get, slice_index, slice_index_or}
use Rattle.std.proofs.lemmas.Bool.{cases_lt, eqb-true, eq-eqb}
use Rattle.std.proofs.lemmas.List.{length-map, get_or-map}
use Rattle.tnk_base.specs.declared.Key.{Key}
use Rattle.machine_desc.specs.Description.{Description}
use Rattle.machine_desc.specs.Value.{description_of}
use Rattle.machine_desc.proofs.Deciding.{cases_description}
use Rattle.serial_order.specs.Lists.{Among}
use Rattle.serial_order.proofs.Members.{among_filter, among_range, range_among}
use Rattle.block_table.specs.Rows.{Rows, entry_of, count_of, end_of}
use Rattle.block_table.specs.Rules.{has_entry}
use Rattle.block_table.proofs.Finding.{has_entry-entry_of}
use Rattle.timed_meaning.specs.declared.TimedOp.{TimedOp}
use Rattle.timed_meaning.specs.Program as timed
use Rattle.timed_meaning.specs.Program.{block_at}
use Rattle.timed_meaning.specs.Sound.{IsSound, IsSoundBlock}
use Rattle.latency_deps.specs.Block.{Block, block_in}
use Rattle.latency_deps.specs.Page as page
use Rattle.list_sched.proofs.Positions.{at_among}
use Rattle.image_format.specs.Image.{Image, page_count}
use Rattle.image_check.specs.Accepted.{IsAccepted}
use Rattle.image_check.specs.Blocks.{rows_of, words_of, block_of, row_numbers, rows_on, placed, page_of, entry_behind, timed_block, program_in}
use Rattle.image_check.proofs.Tables.{Placed, as_many, placed_at, behind}
use Rattle.image_check.proofs.KeptBlocks.{table}
use Rattle.image_resched.specs.Rescheduled.{IsRescheduled}
use Rattle.image_resched.specs.Laws.{IsMovable}
use Rattle.image_resched.proofs.Accepted.{by_cases}
use Rattle.image_resched.proofs.Pages.{in_page}
use Rattle.block_ops.specs.Page.{AreBlockOps, ArePageOps}
use Rattle.context_system.proofs.InOrder.{found_sound}
use Rattle.context_system.proofs.Blocks.{found_row}
use Rattle.page_fault.specs.declared.Loaded.{Loaded}
use Rattle.page_fault.specs.Laws.{FormsAreOfTheImage}
use Rattle.contexts.specs.declared.seat.Place.{Place}
use Rattle.contexts.specs.Standing.{Read, AreOf, IsPlace, block_in_frame}

-- ---- what an image in another generation keeps

module _ (image : Image) (g : Description) (formed : Image) (r : IsRescheduled image g formed) where
  pub formed_description : formed.description ≡ g
  formed_description = elim (cases_description image.description g) [
    | inl e ↦ ap (λ (i : Image). i.description) (r.same e) ∙ e
    | inr f ↦ (let q = r.other f in ap (λ (i : Image). i.description) q.2)
  ]

  pub formed_rows : rows_of formed ≡ rows_of image
  formed_rows = by_cases (λ (i : Image). rows_of i ≡ rows_of image) image g formed r refl (λ words f. refl)

  pub formed_entry : formed.entry ≡ image.entry
  formed_entry = by_cases (λ (i : Image). i.entry ≡ image.entry) image g formed r refl (λ words f. refl)

  pub formed_memory : formed.memory ≡ image.memory
  formed_memory = by_cases (λ (i : Image). i.memory ≡ image.memory) image g formed r refl (λ words f. refl)

  pub formed_init : formed.init ≡ image.init
  formed_init = by_cases (λ (i : Image). i.init ≡ image.init) image g formed r refl (λ words f. refl)

  pub formed_length : length formed.words ≡ length image.words
  formed_length = by_cases (λ (i : Image). length i.words ≡ length image.words) image g formed r refl (λ words f. f.as_many)

-- ---- where a row's block stands

pub row_at : (image : Image) → IsAccepted image → (k : ℕ) → k < length (rows_of image) → Placed image k
row_at image h k lt = placed_at image h.written.limits (table image h) k lt

-- a place of an accepted image: the block is on one page, of which the image has it
pub record Fits (image : Image) (place : Place) : Type 0 where
  pub inside : place.entry % 512 + place.count ≤ 512
  pub counted : 0 < place.count
  pub page : place.entry / 512 < page_count image

pub place_fits : (image : Image) (place : Place) → IsAccepted image → IsPlace (rows_of image) place → Fits image place
place_fits image place h at =
    let p : Placed image at.row = row_at image h at.row at.there in
    let e = at.entry in
    let c = at.count in
    record { inside = rw (e, c) p.on_page; counted = rw c p.some; page = rw e p.page }

-- ---- the operations of a row's block

module _ (image : Image) (g : Description) (formed : Image) (m : IsMovable image g) (r : IsRescheduled image g formed) where
  abbrev on : ℕ → List ℕ
  on n = rows_on image n

  -- the words of a row's block are a piece of its page
  words_there : (k n : ℕ) → k < length (rows_of image) → entry_of (rows_of image) k / 512 ≡ n →
      take (count_of (rows_of image) k) (drop (entry_of (rows_of image) k % 512) (page_of formed n).words) ≡ words_of formed k
  words_there k n lt is =
      let p : Placed image k = row_at image m.accepted k lt in
      let e : ℕ = entry_of (rows_of image) k in
      let long : length formed.words ≡ length image.words = formed_length image g formed r in
      let limits : length image.words ≡ 512 * page_count image = m.accepted.written.limits.words in
      let back : 512 * n + e % 512 ≡ e = omega arith in
      in_page formed.words n (e % 512) (count_of (rows_of image) k) p.on_page (let q = p.page in omega arith)
      ∙ ap (λ (x : ℕ). take (count_of (rows_of image) k) (drop x formed.words)) back
      ∙ ap (λ (rows : Rows). take (count_of rows k) (drop (entry_of rows k) formed.words)) (sym (formed_rows image g formed r))

  pub row_ops : (n : ℕ) (words : List ℕ) (ops : List TimedOp) (ends : List ℕ) → words ≡ (page_of formed n).words →
      ArePageOps g (page_of image n) words ops ends → (k : ℕ) → k < length (rows_of image) → entry_of (rows_of image) k / 512 ≡ n →
      AreBlockOps g (words_of formed k) (take (count_of (rows_of image) k) (drop (entry_of (rows_of image) k % 512) ops))
      (slice_index ends (entry_of (rows_of image) k % 512))
  row_ops n words ops ends same h k lt is =
      let p : Placed image k = row_at image m.accepted k lt in
      let many = as_many image in
      let found = at_among (on n) k
      (among_filter (λ i. nat_eq (entry_of (rows_of image) i / 512) n) (row_numbers image) k (eq-eqb (entry_of (rows_of image) k / 512) n is)
      (among_range (length image.rows) k (omega arith))) in
      let j : ℕ = found.0 in
      let listed : length (page_of image n).blocks ≡ length (on n) = length-map (on n) (placed image) in
      let block : slice_index_or (page_of image n).blocks j page.no_block ≡ placed image k =
      get_or-map (placed image) (on n) j 0 page.no_block found.1 ∙ ap (placed image) found.2 in
      let of_block : AreBlockOps g (take (length (block_of image k).words) (drop (entry_of (rows_of image) k % 512) words))
      (take (length (block_of image k).words) (drop (entry_of (rows_of image) k % 512) ops)) (slice_index ends (entry_of (rows_of image) k % 512)) =
      subst (λ (b : ℕ × Block). AreBlockOps g (take (length b.1.words) (drop b.0 words)) (take (length b.1.words) (drop b.0 ops)) (slice_index ends b.0))
      block (h.blocks j (let q = found.1 in omega arith)) in
      let counted : AreBlockOps g (take (count_of (rows_of image) k) (drop (entry_of (rows_of image) k % 512) words))
      (take (count_of (rows_of image) k) (drop (entry_of (rows_of image) k % 512) ops)) (slice_index ends (entry_of (rows_of image) k % 512)) =
      subst (λ (c : ℕ). AreBlockOps g (take c (drop (entry_of (rows_of image) k % 512) words))
      (take c (drop (entry_of (rows_of image) k % 512) ops)) (slice_index ends (entry_of (rows_of image) k % 512))) p.counted of_block in
      subst (λ (ws : List ℕ). AreBlockOps g ws (take (count_of (rows_of image) k) (drop (entry_of (rows_of image) k % 512) ops))
      (slice_index ends (entry_of (rows_of image) k % 512)))
      (ap (λ (ws : List ℕ). take (count_of (rows_of image) k) (drop (entry_of (rows_of image) k % 512) ws)) same ∙ words_there k n lt is) counted

  same_blocks : (a b : ℕ) (n o : Option ℕ) (xs ys : List TimedOp) (d e : ℕ) → a ≡ b → n ≡ o → xs ≡ ys → d ≡ e →
      let x : timed.Block = record { entry = a; next = n; ops = xs; end = d } in
      let y : timed.Block = record { entry = b; next = o; ops = ys; end = e } in x ≡ y
  same_blocks a b n o xs ys d e p q s t = cc

  -- the block at a place by the operations of its page's frame is that of the image in the generation
  pub block_there : (n : ℕ) (words : List ℕ) (key : Option Key) (ops : List TimedOp) (ends : List ℕ) → words ≡ (page_of formed n).words →
      ArePageOps g (page_of image n) words ops ends → (place : Place) (at : IsPlace (rows_of image) place) → place.entry / 512 ≡ n →
      block_in_frame place (record { key = key; ops = ops; ends = ends }) ≡ timed_block formed at.row
  block_there n words key ops ends same h place at is =
      let k : ℕ = at.row in
      let e : place.entry ≡ entry_of (rows_of image) k = at.entry in
      let c : place.count ≡ count_of (rows_of image) k = at.count in
      let own = row_ops n words ops ends same h k at.there (sym (ap (λ (x : ℕ). x / 512) e) ∙ is) in
      let rows = formed_rows image g formed r in
      let machine = formed_description image g formed r in
      same_blocks place.entry (entry_of (rows_of formed) k) place.next (entry_behind (rows_of formed) k)
      (take place.count (drop (place.entry % 512) ops)) (block_of formed k).ops
      (slice_index ends (place.entry % 512)) (block_of formed k).end
      (e ∙ ap (λ (x : Rows). entry_of x k) (sym rows))
      (at.next ∙ ap (λ (x : Rows). entry_behind x k) (sym rows))
      (ap (λ (x : ℕ). take x (drop (place.entry % 512) ops)) c
      ∙ ap (λ (x : ℕ). take (count_of (rows_of image) k) (drop (x % 512) ops)) e
      ∙ own.operations ∙ ap (λ (x : Description). (block_in x (words_of formed k)).ops) (sym machine))
      (ap (λ (x : ℕ). slice_index ends (x % 512)) e ∙ own.last)

-- ---- the block that is found

find_row : (image : Image) (ks : List ℕ) (k : ℕ) → Among k ks →
    ((j : ℕ) → Among j ks → entry_of (rows_of image) j ≡ entry_of (rows_of image) k → j ≡ k) →
    find (λ b. nat_eq b.entry (entry_of (rows_of image) k)) (map (timed_block image) ks) ≡ Some (timed_block image k)
find_row image [] k there one = elim there [ ]
find_row image (j ∷ js) k there one = go (nat_eq (entry_of (rows_of image) j) (entry_of (rows_of image) k)) refl there (λ t. find_row image js k t (λ i among same. one i (inr among) same))
  where
    rest : Option timed.Block
    rest = find (λ b. nat_eq b.entry (entry_of (rows_of image) k)) (map (timed_block image) js)

    go : (t : Bool) → nat_eq (entry_of (rows_of image) j) (entry_of (rows_of image) k) ≡ t → Among k (j ∷ js) →
        (Among k js → rest ≡ Some (timed_block image k)) → cond t (Some (timed_block image j)) rest ≡ Some (timed_block image k)
    go true e there ih =
        let same : j ≡ k = one j (inl refl) (eqb-true (entry_of (rows_of image) j) (entry_of (rows_of image) k) e) in
        ap (λ (i : ℕ). Some (timed_block image i)) same
    go false e (inr there) ih = ih there
    go false e (inl same) ih =
        let equal : entry_of (rows_of image) j ≡ entry_of (rows_of image) k = ap (entry_of (rows_of image)) same in
        let passes : nat_eq (entry_of (rows_of image) j) (entry_of (rows_of image) k) ≡ true = eq-eqb (entry_of (rows_of image) j) (entry_of (rows_of image) k) equal in
        absurd (let clash : ⊥ = cc in clash)

module _ (image : Image) (h : IsAccepted image) where
  rises : (j k : ℕ) → j < k → k < length (rows_of image) → entry_of (rows_of image) j < entry_of (rows_of image) k
  rises j k lt there =
      let p : Placed image j = row_at image h j (omega arith) in
      let some : 1 ≤ count_of (rows_of image) j = p.some in
      let up : end_of (rows_of image) j ≤ entry_of (rows_of image) k = behind image (table image h) j k lt there in
      omega arith

  one_row : (j k : ℕ) → j < length (rows_of image) → k < length (rows_of image) → entry_of (rows_of image) j ≡ entry_of (rows_of image) k → j ≡ k
  one_row j k a b same = elim (cases_lt j k) [
    | inl lt ↦ (let up = rises j k lt b in absurd (omega arith))
    | inr ge ↦ elim (cases_lt k j) [ inl lt ↦ (let up = rises k j lt a in absurd (omega arith)) | inr le ↦ omega arith ]
  ]

  -- the block of a row is what stands at its entry
  pub block_of_row : (k : ℕ) → k < length (rows_of image) → block_at (program_in image) (entry_of (rows_of image) k) ≡ Some (timed_block image k)
  block_of_row k lt =
      let many = as_many image in
      find_row image (row_numbers image) k (among_range (length image.rows) k (omega arith))
      (λ j among same. let below : j < length image.rows = range_among (length image.rows) j among in one_row j k (omega arith) lt same)

  -- a block that stands at an entry is a row's
  pub row_of_block : (entry : ℕ) (b : timed.Block) → block_at (program_in image) entry ≡ Some b →
      (k : ℕ) × (k < length (rows_of image)) × (b ≡ timed_block image k) × (entry_of (rows_of image) k ≡ entry)
  row_of_block entry b found =
      let r = found_row image (row_numbers image) entry b found in
      let many = as_many image in
      let below : r.0 < length image.rows = range_among (length image.rows) r.0 r.1 in
      (r.0, omega arith, r.2, ap (λ (c : timed.Block). c.entry) (sym r.2) ∙ r.3)

  -- where no row has the entry none is found
  pub none_there : (entry : ℕ) → has_entry (rows_of image) entry ≡ false → block_at (program_in image) entry ≡ None
  none_there entry lacks = go (block_at (program_in image) entry) refl
    where
      go : (o : Option timed.Block) → block_at (program_in image) entry ≡ o → o ≡ None
      go None e = refl
      go (Some b) e =
          let r = row_of_block entry b e in
          let has : has_entry (rows_of image) entry ≡ true = subst (λ (n : ℕ). has_entry (rows_of image) n ≡ true) r.3 (has_entry-entry_of (rows_of image) r.0 r.1) in
          absurd (let clash : ⊥ = cc in clash)

  -- the block of a row is sound
  pub row_sound : IsSound (program_in image) → (k : ℕ) → k < length (rows_of image) → IsSoundBlock (timed_block image k)
  row_sound sound k lt = found_sound (program_in image).blocks (entry_of (rows_of image) k) (timed_block image k) sound.blocks (block_of_row k lt)

-- ---- by the operations that a frame has

-- the block at a place in a frame with the operations of its page is that of the image in the program's generation
pub block_read : FormsAreOfTheImage → (programs : List Loaded) (key : Key) (r : Read) (p : Loaded) (formed : Image) → AreOf programs key r →
    slice_get programs key.program ≡ Some p → IsMovable p.image (description_of p.chosen) → IsRescheduled p.image (description_of p.chosen) formed →
    (place : Place) (at : IsPlace (rows_of p.image) place) → place.entry / 512 ≡ key.page → block_in_frame place r ≡ timed_block formed at.row
block_read forms programs key r p formed of there m rescheduled place at on =
    let same : of.program ≡ p = one_program of.program p (sym of.there ∙ there) in
    let k : of.page.key ≡ key = of.key in
    let n : of.page.key.page ≡ key.page = ap (λ (x : Key). x.page) k in
    let fits : Fits p.image place = place_fits p.image place m.accepted at in
    let below : key.page < page_count p.image = subst (λ (x : ℕ). x < page_count p.image) on fits.page in
    let words : of.page.words ≡ (page_of formed key.page).words =
    forms programs of.page p formed of.form (ap (λ (x : Key). slice_get programs x.program) k ∙ there) (rw n below) m rescheduled
    ∙ ap (λ (x : ℕ). (page_of formed x).words) n in
    let ops = subst (λ (q : Loaded). ArePageOps (description_of q.chosen) (page_of q.image key.page) of.page.words r.ops r.ends) same of.ops in
    block_there p.image (description_of p.chosen) formed m rescheduled key.page of.page.words r.key r.ops r.ends words ops place at on
  where
    one_program : (a b : Loaded) → Some a ≡ Some b → a ≡ b
    one_program a b e = cc
