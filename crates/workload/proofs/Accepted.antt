-- Generated images are accepted.
use Rattle.std.proofs.Common.{◌≡◌, ℕ, zero, suc, ◌+◌, ◌-◌, ◌*◌, ◌%◌, ◌<◌, ◌≤◌, Bool, true, false, cond, not, ◌&&◌, List, [], length, get_or, take, drop, Option, Some, None, refl, sym, ap, subst, ◌∙◌, arith, ◌⊎◌, inl, inr}
use Rattle.std.specs.Prelude.{map, nat_eq, option_map}
use Rattle.std.specs.List.{list_any, range_with_len}
use Rattle.std.proofs.lemmas.Bool.{eq-eqb, eqb-true, le-ltb, lt-leb, ne_eqb}
use Rattle.std.proofs.lemmas.List.{length-map}
use Rattle.std.proofs.lemmas.List.FromFn.{length-map-range_with_len, get_or-map-range_with_len}
use Rattle.tnk_base.proofs.Searches.{finds_none}
use Rattle.machine_desc.specs.BuiltIn.{t1}
use Rattle.machine_desc.specs.BuiltInRanges.{t1_in_range}
use Rattle.block_table.specs.Rows.{Rows, entry_of, count_of, end_before}
use Rattle.block_table.specs.Rules.{breaks_table, crosses_page, has_entry, first_row, broken_page, broken_table as broken_rule, first_broken as first_broken_row}
use Rattle.block_table.specs.Padding.{is_in_block, is_unpadded, first_unpadded}
use Rattle.block_table.specs.declared.rules.TableRule.{TableRule}
use Rattle.block_table.specs.declared.rules.TableRule.TheVariants.{Entry}
use Rattle.block_table.proofs.Finding.{has_entry-entry_of}
use Rattle.image_format.specs.declared.Row.{Row}
use Rattle.image_format.specs.Image.{Image, page_count}
use Rattle.image_format.specs.Laws.{IsImage}
use Rattle.image_format.specs.Rules.{first_of}
use Rattle.timed_meaning.specs.Sound.{always_leaves}
use Rattle.latency_deps.specs.Timing.{ops_of}
use Rattle.latency_deps.specs.Rules.{first_broken}
use Rattle.image_check.specs.declared.rules.Refusal.{Refusal}
use Rattle.image_check.specs.declared.rules.Rule.TheVariants as rule
use Rattle.image_check.specs.Blocks.{rows_of, words_of}
use Rattle.image_check.specs.Rules.{refusal, table_rule, block_rule, broken_table, broken_padding, broken_blocks, broken_block, broken_operation, broken_successor, first_some, has_leaving}
use Rattle.image_check.specs.Accepted.{IsAccepted}
use Rattle.image_check.proofs.Firsts.{none_both}
use Rattle.workload.specs.Draws.{after}
use Rattle.workload.specs.Layout.{words_from}
use Rattle.workload.specs.Generated.{block, block_words, all_blocks, generated, IsSize}
use Rattle.workload.specs.Laws.{GeneratedIsAccepted, BlocksStandInTheirRows}
use Rattle.workload.proofs.SerialTimes.{AreSerial}
use Rattle.workload.proofs.SerialRules.{serial_kept}
use Rattle.workload.proofs.Standing.{IsBlock, AreBlocks, as_many, whole_pages, pages_bound, blocks_bound, small_words, are_rows, StandsAt, stands, next_behind, begins_at_zero, in_block_or_zero}
use Rattle.workload.proofs.InnerWords.{serial_block, is_block, leaves}

-- ---- searches

-- where no row has a broken rule, there is none
none_all : {X : Type 0} (f : ℕ → Option X) (a n : ℕ) → ((k : ℕ) → a ≤ k → k < a + n → f k ≡ None) → first_some f (range_with_len a n) ≡ None
none_all f a zero h = refl
none_all f a (suc n) h =
    none_both (f a) (first_some f (range_with_len (a + 1) n)) (h a (omega arith) (omega arith))
    (none_all f (a + 1) n (λ k low high. h k (omega arith) (omega arith)))

none_told : {X Y : Type 0} (f : X → Y) (o : Option X) → o ≡ None → option_map f o ≡ None
none_told f o e = ap (option_map f) e

-- a table that breaks no rule
no_rule : (rows : Rows) (pages entry : ℕ) → first_row (breaks_table rows pages) rows ≡ None → first_row (crosses_page rows) rows ≡ None →
    has_entry rows entry ≡ true → first_broken_row rows pages entry ≡ None
no_rule rows pages entry a b c =
    ap (broken_rule rows entry) a ∙ ap (broken_page rows entry) b ∙ ap (λ (t : Bool). cond t None (Some (Entry, 0))) c

-- the last row's block leaves
may_stay : (last leaving : Bool) (r : Refusal) → (last ≡ true → leaving ≡ true) → cond last (cond leaving None (Some r)) None ≡ None
may_stay true leaving r h = ap (λ (b : Bool). cond b None (Some r)) (h refl)
may_stay false leaving r h = refl

-- ---- blocks

blocks_from : (f : ℕ → List ℕ) (a n : ℕ) → ((i : ℕ) → IsBlock (f i)) → AreBlocks (map f (range_with_len a n))
blocks_from f a zero h = tt
blocks_from f a (suc n) h = (h a, blocks_from f (a + 1) n h)

module _ (number blocks ops : ℕ) (size : IsSize blocks ops) where
  abbrev all : List (List ℕ)
  all = all_blocks number blocks ops

  abbrev image : Image
  image = generated number blocks ops

  abbrev rows : Rows
  rows = rows_of image

  abbrev words : List ℕ
  words = words_from 0 all

  length_all : length all ≡ blocks
  length_all = length-map-range_with_len (block number blocks ops) 0 blocks

  serial_at : (i : ℕ) → AreSerial (block number blocks ops i)
  serial_at i = serial_block i ops (nat_eq (suc i) blocks) (after (5 * (i * (ops - 1))) number) size.ops_in_range.0 size.ops_in_range.1

  are_blocks : AreBlocks all
  are_blocks =
      blocks_from (block number blocks ops) 0 blocks
      (λ i. is_block i ops (nat_eq (suc i) blocks) (after (5 * (i * (ops - 1))) number) size.ops_in_range.0 size.ops_in_range.1)

  block_at : (i : ℕ) → i < blocks → get_or all i [] ≡ block number blocks ops i
  block_at i lt = get_or-map-range_with_len (block number blocks ops) 0 blocks i i [] lt (omega arith)

  -- ---- pages

  length_rows : length image.rows ≡ blocks
  length_rows = as_many 0 all ∙ length_all

  length_table : length rows ≡ blocks
  length_table = length-map image.rows (λ (r : Row). (r.entry, r.count)) ∙ length_rows

  short : length words ≤ 512 * blocks
  short = let p = pages_bound 0 0 all are_blocks (omega arith) in let n = length_all in omega arith

  many : blocks ≤ length words
  many = let b = blocks_bound 0 all are_blocks in let n = length_all in omega arith

  whole : length words ≡ 512 * page_count image
  whole =
      let w = whole_pages 0 all are_blocks in
      let z : 0 + length words ≡ length words = omega arith in
      let m : length words % 512 ≡ 0 = ap (λ n. n % 512) (sym z) ∙ w in
      omega arith

  written : IsImage image
  written =
      let s = size.blocks_in_range in
      let low = many in
      let high = short in
      let w = whole in
      let n = length_rows in
      record {
        limits = record {
          words = w;
          pages = (omega arith, omega arith);
          blocks = (omega arith, omega arith);
          memory = omega arith;
          init = omega arith;
        };
        description = t1_in_range;
        entry = omega arith;
        ranges = record { rows = are_rows 0 all are_blocks (omega arith); words = small_words 0 all are_blocks };
      }

  -- ---- the table

  stands_at : (k : ℕ) → k < blocks → StandsAt 0 all k
  stands_at k lt = let n = length_all in stands 0 all k are_blocks (omega arith)

  behind : (k : ℕ) → k < blocks → end_before rows k ≤ entry_of rows k
  behind zero lt = omega arith
  behind (suc k) lt = let n = length_all in next_behind 0 all k are_blocks (omega arith)

  keeps_table : (k : ℕ) → k < length rows → breaks_table rows (page_count image) k ≡ false
  keeps_table k lt =
      let n = length_table in
      let s = stands_at k (omega arith) in
      let some = s.some in
      let count = s.count_is in
      let within = s.within in
      let w = whole in
      let b = behind k (omega arith) in
      rw (
        ne_eqb (count_of rows k) 0 (λ e. omega arith),
        lt-leb (page_count image * 512) (entry_of rows k) (omega arith),
        le-ltb (entry_of rows k) (end_before rows k) b,
      ) refl

  keeps_page : (k : ℕ) → k < length rows → crosses_page rows k ≡ false
  keeps_page k lt =
      let n = length_table in
      let s = stands_at k (omega arith) in
      let count = s.count_is in
      let page = s.on_page in
      le-ltb 512 (entry_of rows k % 512 + count_of rows k) (omega arith)

  -- the first block begins at 0
  first_entry : entry_of rows 0 ≡ 0
  first_entry = begins_at_zero all are_blocks

  begins : has_entry rows 0 ≡ true
  begins =
      let n = length_table in
      let s = size.blocks_in_range in
      ap (has_entry rows) (sym first_entry) ∙ has_entry-entry_of rows 0 (omega arith)

  tabled : broken_table image ≡ None
  tabled =
      none_told (λ (b : TableRule × ℕ). refusal (table_rule b.0) b.1 0) (first_broken_row rows (page_count image) 0)
      (no_rule rows (page_count image) 0 (finds_none (breaks_table rows (page_count image)) (length rows) keeps_table)
      (finds_none (crosses_page rows) (length rows) keeps_page) begins)

  -- ---- between the blocks

  padded : broken_padding image ≡ None
  padded =
      none_told (λ a. refusal rule.Padding a 0) (first_unpadded rows words)
      (finds_none (is_unpadded rows words) (length words) (λ a lt. at a (in_block_or_zero 0 all a are_blocks lt)))
    where
      at : (a : ℕ) → (is_in_block rows (0 + a) ≡ true) ⊎ (get_or words a 0 ≡ 0) → is_unpadded rows words a ≡ false
      at a (inl t) =
          let z : 0 + a ≡ a = omega arith in
          ap (λ (b : Bool). not b && not (nat_eq (get_or words a 0) 0)) (ap (is_in_block rows) (sym z) ∙ t)
      at a (inr e) = go (is_in_block rows a) (ap not (eq-eqb (get_or words a 0) 0 e))
        where
          go : (b : Bool) → not (nat_eq (get_or words a 0) 0) ≡ false → (not b && not (nat_eq (get_or words a 0) 0)) ≡ false
          go true f = refl
          go false f = f

  -- ---- the blocks

  words_are : (k : ℕ) → k < blocks → words_of image k ≡ block number blocks ops k
  words_are k lt =
      let s = stands_at k lt in
      let b = get_or all k [] in
      let from : entry_of rows k ≡ entry_of rows k - 0 = omega arith in
      ap (λ n. take n (drop (entry_of rows k) words)) s.count_is ∙ ap (λ n. take (length b) (drop n words)) from
      ∙ s.words_are ∙ block_at k lt

  kept : (k : ℕ) → k < blocks → first_broken t1 rows (words_of image k) ≡ None
  kept k lt =
      subst (λ (ws : List ℕ). first_broken t1 rows ws ≡ None) (sym (words_are k lt))
      (serial_kept rows (block number blocks ops k) (serial_at k))

  last_leaves : (k : ℕ) → k < blocks → nat_eq (suc k) (length image.rows) ≡ true → has_leaving image k ≡ true
  last_leaves k lt e =
      let n = length_rows in
      let same = eqb-true (suc k) (length image.rows) e in
      let last : nat_eq (suc k) blocks ≡ true = eq-eqb (suc k) blocks (omega arith) in
      let x = after (5 * (k * (ops - 1))) number in
      let is : words_of image k ≡ block_words k ops true x = words_are k lt ∙ ap (λ (b : Bool). block_words k ops b x) last in
      ap (λ (ws : List ℕ). list_any (λ i. always_leaves (ops_of ws i)) (range_with_len 0 (length ws))) is
      ∙ leaves k ops x size.ops_in_range.0

  block_kept : (k : ℕ) → k < blocks → broken_block image k ≡ None
  block_kept k lt =
      none_both (broken_operation image k) (broken_successor image k)
      (none_told (λ b. refusal (block_rule b.0) k b.1) (first_broken t1 rows (words_of image k)) (kept k lt))
      (may_stay (nat_eq (suc k) (length image.rows)) (has_leaving image k)
      (refusal rule.Successor k (length (words_of image k) - 1)) (last_leaves k lt))

  pub accepted : IsAccepted image
  accepted = record {
    written = written;
    kept =
        none_both (broken_table image) (first_of (broken_padding image) (broken_blocks image)) tabled
        (none_both (broken_padding image) (broken_blocks image) padded
        (none_all (broken_block image) 0 (length image.rows) (λ k low high. let n = length_rows in block_kept k (omega arith))));
  }

pub generated_is_accepted : GeneratedIsAccepted
generated_is_accepted number blocks ops size = accepted number blocks ops size

pub blocks_stand_in_their_rows : BlocksStandInTheirRows
blocks_stand_in_their_rows number blocks ops size i lt = words_are number blocks ops size i lt
