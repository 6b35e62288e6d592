-- The image whose words are in form, part by part.
use Rattle.std.proofs.Common.{◌≡◌, ℕ, zero, suc, ◌+◌, ◌-◌, ◌*◌, ◌/◌, ◌<◌, ◌≤◌, ◌^◌, Bool, true, false, not, cond, ◌&&◌, List, length, get_or, drop, refl, sym, ap, subst, ◌∙◌, arith, inl, inr, ◌⊎◌, Option, Some, None}
use Rattle.std.specs.Prelude.{nat_eq, option_map}
use Rattle.std.specs.List.{range_with_len}
use Rattle.std.proofs.lemmas.Bool.{cases_Bool, eq-eqb}
use Rattle.std.proofs.lemmas.List.{get_or-take, get_or-drop, get_or_default}
use Rattle.serial_order.proofs.Members.{some_among, among_some, among_range, range_among}
use Rattle.tnk_base.proofs.Searches.{finds_none}
use Rattle.machine_desc.specs.Description.{Description}
use Rattle.block_table.specs.Rows.{Rows, entry_of, count_of}
use Rattle.block_table.specs.Padding.{is_in_block, is_unpadded, first_unpadded}
use Rattle.timed_meaning.specs.Sound.{always_leaves}
use Rattle.latency_deps.specs.Timing.{ops_of}
use Rattle.latency_deps.specs.Rules.{first_broken}
use Rattle.image_format.specs.Image.{Image, IsWithinLimits, page_count}
use Rattle.image_format.specs.Laws.{IsImage}
use Rattle.image_format.specs.Rules.{first_of}
use Rattle.image_check.specs.declared.rules.Refusal.{Refusal}
use Rattle.image_check.specs.declared.rules.Rule.TheVariants as rule
use Rattle.image_check.specs.Blocks.{rows_of, words_of, block_of}
use Rattle.image_check.specs.Rules.{refusal, table_rule, block_rule, broken_table, broken_padding, broken_blocks, broken_block, broken_operation, broken_successor, first_some, has_leaving}
use Rattle.image_check.specs.Accepted.{IsAccepted}
use Rattle.image_check.proofs.Firsts.{none_left, none_right, none_both}
use Rattle.image_check.proofs.Tables.{Placed, as_many, placed_at}
use Rattle.image_check.proofs.KeptBlocks.{table, unbroken, good}
use Rattle.block_table.specs.declared.rules.TableRule.{TableRule}
use Rattle.block_table.specs.Rules.{first_broken as first_broken_row}
use Rattle.page_resched.specs.Form.{AreInForm}
use Rattle.page_resched.specs.Laws as block
use Rattle.page_resched.proofs.Words.{is_word, full_count}
use Rattle.page_resched.proofs.Accepted.{forms_keep_the_rules, forms_keep_before}
use Rattle.image_resched.specs.Rescheduled.{AreWordsInForm, with_words}
use Rattle.image_resched.proofs.Rows.{row_of}
use Rattle.image_resched.specs.Laws.{IsMovable}

-- where no row has a broken rule, there is none
none_all : {X : Type 0} (f : ℕ → Option X) (a n : ℕ) → ((k : ℕ) → a ≤ k → k < a + n → f k ≡ None) → first_some f (range_with_len a n) ≡ None
none_all f a zero h = refl
none_all f a (suc n) h =
    none_both (f a) (first_some f (range_with_len (a + 1) n)) (h a (omega arith) (omega arith))
    (none_all f (a + 1) n (λ k low high. h k (omega arith) (omega arith)))

none_told : {X Y : Type 0} (f : X → Y) (o : Option X) → o ≡ None → option_map f o ≡ None
none_told f o e = ap (option_map f) e

-- the successor rule, by whether the row is the last and whether its block leaves
must_leave : (last leaving : Bool) (r : Refusal) → cond last (cond leaving None (Some r)) None ≡ None → last ≡ true → leaving ≡ true
must_leave true true r e l = refl
must_leave true false r e l = absurd (let k : ⊥ = cc in k)
must_leave false leaving r e l = absurd (let k : ⊥ = cc in k)

may_stay : (last leaving : Bool) (r : Refusal) → (last ≡ true → leaving ≡ true) → cond last (cond leaving None (Some r)) None ≡ None
may_stay true leaving r h = ap (λ (b : Bool). cond b None (Some r)) (h refl)
may_stay false leaving r h = refl

module _ (image : Image) (g : Description) (words : List ℕ) (m : IsMovable image g) (f : AreWordsInForm image g words) where
  abbrev pub new : Image
  new = with_words image g words

  abbrev rows : Rows
  rows = rows_of image

  limits : IsWithinLimits image
  limits = m.accepted.written.limits

  -- ---- blocks

  abbrev pub movable : (k : ℕ) → k < length image.rows → block.IsMovable (block_of image k) g
  movable k lt = record { good = good image m.accepted k lt; machine = m.machine; units = m.units k lt }

  pub in_form : (k : ℕ) → k < length image.rows → AreInForm g (block_of image k) (words_of new k)
  in_form k lt = f.blocks k lt

  as_many_words : (k : ℕ) → k < length image.rows → length (words_of new k) ≡ length (words_of image k)
  as_many_words k lt = full_count (block_of image k) g (words_of new k) (movable k lt) (in_form k lt)

  place : (k : ℕ) → k < length image.rows → Placed image k
  place k lt = let n = as_many image in placed_at image limits (table image m.accepted) k (omega arith)

  kept : (k : ℕ) → k < length image.rows → first_broken g rows (words_of new k) ≡ None
  kept k lt = forms_keep_the_rules (block_of image k) g (words_of new k) (movable k lt) (in_form k lt)

  -- a block that always leaves does so in form
  leaves : (k : ℕ) → k < length image.rows → has_leaving image k ≡ true → has_leaving new k ≡ true
  leaves k lt h =
      let same = forms_keep_before (block_of image k) g (words_of new k) (movable k lt) (in_form k lt) in
      let r = some_among (λ i. always_leaves (ops_of (words_of image k) i)) (range_with_len 0 (length (words_of image k))) h in
      let q = same.each r.0 (range_among (length (words_of image k)) r.0 r.1) in
      among_some (λ i. always_leaves (ops_of (words_of new k) i)) (range_with_len 0 (length (words_of new k))) q.0
      (among_range (length (words_of new k)) q.0 q.1)
      (ap always_leaves (same.same q.0 q.1 ∙ ap (ops_of (words_of image k)) q.2) ∙ r.2)

  stays : ℕ → Image → Refusal
  stays k i = refusal rule.Successor k (length (words_of i k) - 1)

  block_kept : (k : ℕ) → k < length image.rows → broken_block new k ≡ None
  block_kept k lt =
      none_both (broken_operation new k) (broken_successor new k)
      (none_told (λ b. refusal (block_rule b.0) k b.1) (first_broken g rows (words_of new k)) (kept k lt))
      (may_stay (nat_eq (suc k) (length image.rows)) (has_leaving new k) (refusal rule.Successor k (length (words_of new k) - 1))
      (λ last. leaves k lt
      (must_leave (nat_eq (suc k) (length image.rows)) (has_leaving image k) (refusal rule.Successor k (length (words_of image k) - 1))
      (none_right (broken_operation image k) (broken_successor image k) (unbroken image m.accepted k lt)) last)))

  -- ---- words

  word_in : (a k : ℕ) → k < length image.rows → entry_of rows k ≤ a → a < entry_of rows k + count_of rows k → get_or words a 0 < 2 ^ 64
  word_in a k lt low high =
      let p = place k lt in
      let counted = p.counted in
      let n = as_many_words k lt in
      let at = a - entry_of rows k in
      let to : entry_of rows k + at ≡ a = omega arith in
      let there : get_or (words_of new k) at 0 ≡ get_or words a 0 =
      get_or-take (count_of rows k) (drop (entry_of rows k) words) at 0 (omega arith) ∙ get_or-drop (entry_of rows k) words at 0 ∙ ap (λ i. get_or words i 0) to in
      let w = is_word (block_of image k) g (words_of new k) (movable k lt) (in_form k lt) at (omega arith) in
      omega arith

  is_word_at : (a : ℕ) → a < length words → get_or words a 0 < 2 ^ 64
  is_word_at a lt = elim (cases_Bool (is_in_block rows a)) [
    | inl h ↦ in_block h
    | inr h ↦ (let z = f.padding a lt h in omega arith)
  ]
    where
      in_block : is_in_block rows a ≡ true → get_or words a 0 < 2 ^ 64
      in_block h =
          let r = row_of rows a h in
          let n = as_many image in
          let there = r.there in
          word_in a r.row (omega arith) r.low r.high

  padded : broken_padding new ≡ None
  padded = none_told (λ a. refusal rule.Padding a 0) (first_unpadded rows words) (finds_none (is_unpadded rows words) (length words) (λ a lt. unpadded a lt (cases_Bool (is_in_block rows a))))
    where
      unpadded : (a : ℕ) → a < length words → (is_in_block rows a ≡ true) ⊎ (is_in_block rows a ≡ false) → is_unpadded rows words a ≡ false
      unpadded a lt (inl h) = ap (λ (b : Bool). not b && not (nat_eq (get_or words a 0) 0)) h
      unpadded a lt (inr h) =
          ap (λ (b : Bool). not b && not (nat_eq (get_or words a 0) 0)) h ∙ ap not (eq-eqb (get_or words a 0) 0 (f.padding a lt h))

  -- ---- the image

  pages : page_count new ≡ page_count image
  pages = ap (λ n. n / 512) f.as_many

  tabled : broken_table new ≡ None
  tabled =
      ap (λ n. option_map (λ (b : TableRule × ℕ). refusal (table_rule b.0) b.1 0) (first_broken_row rows n image.entry)) pages
      ∙ none_left (broken_table image) (first_of (broken_padding image) (broken_blocks image)) m.accepted.kept

  written : IsImage new
  written = record {
    limits = record {
      words = f.as_many ∙ limits.words ∙ ap (λ n. 512 * n) (sym pages);
      pages = subst (λ n. (1 ≤ n) × (n ≤ 256)) (sym pages) limits.pages;
      blocks = subst (λ n. (1 ≤ length image.rows) × (length image.rows ≤ 512 * n)) (sym pages) limits.blocks;
      memory = limits.memory;
      init = limits.init;
    };
    description = m.machine;
    entry = m.accepted.written.entry;
    ranges = record {
      rows = m.accepted.written.ranges.rows;
      words = λ k d below. subst (λ n. n < 2 ^ 64) (get_or_default words k 0 d below) (is_word_at k below);
    };
  }

  pub accepted : IsAccepted new
  accepted = record {
    written = written;
    kept =
        none_both (broken_table new) (first_of (broken_padding new) (broken_blocks new)) tabled
        (none_both (broken_padding new) (broken_blocks new) padded
        (none_all (broken_block new) 0 (length image.rows) (λ k low high. block_kept k (omega arith))));
  }
