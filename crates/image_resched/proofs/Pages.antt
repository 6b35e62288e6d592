-- An image's words are in form where those of each page are.
use Rattle.std.proofs.Common.{◌≡◌, ℕ, ◌+◌, ◌*◌, ◌/◌, ◌%◌, ◌<◌, ◌≤◌, false, List, length, get_or, take, drop, refl, sym, ap, subst, ◌∙◌, arith}
use Rattle.std.specs.Prelude.{nat_eq}
use Rattle.std.proofs.lemmas.Bool.{both_ways, eqb-true, eq-eqb, false_from_ne_true}
use Rattle.std.proofs.lemmas.List.{length-map, get_or-map, get_or-take, get_or-drop, length-drop, length-take-le}
use Rattle.machine_desc.specs.Description.{Description}
use Rattle.serial_order.proofs.Members.{among_filter, filter_among, among_range, range_among}
use Rattle.block_table.specs.Rows.{Rows, entry_of, count_of}
use Rattle.block_table.specs.Padding.{is_in_block}
use Rattle.latency_deps.specs.Block.{Block}
use Rattle.latency_deps.specs.Page as page
use Rattle.image_format.specs.Image.{Image, page_count}
use Rattle.image_check.specs.Accepted.{IsAccepted}
use Rattle.image_check.specs.Blocks.{rows_of, words_of, block_of, row_numbers, rows_on, placed, page_of}
use Rattle.image_check.proofs.Tables.{Placed, as_many, placed_at}
use Rattle.image_check.proofs.KeptBlocks.{table}
use Rattle.list_sched.proofs.Positions.{among_at, at_among}
use Rattle.page_resched.specs.Form.{AreInForm, IsPageInForm}
use Rattle.image_resched.specs.Rescheduled.{AreWordsInForm, words_at}
use Rattle.image_resched.specs.Laws.{PagesMakeTheImage}
use Rattle.block_table.proofs.Gaps.{in_block}
use Rattle.image_resched.proofs.Rows.{row_of, same_lists}

-- the words of a block by its page are those of the whole image
pub in_page : (words : List ℕ) (n place count : ℕ) → place + count ≤ 512 → 512 * n + 512 ≤ length words →
    take count (drop place (take 512 (drop (512 * n) words))) ≡ take count (drop (512 * n + place) words)
in_page words n place count fits long =
    let page = take 512 (drop (512 * n) words) in
    let d = length-drop (512 * n) words in
    let whole : length page ≡ 512 = length-take-le 512 (drop (512 * n) words) (omega arith) in
    let e = length-drop place page in
    let f = length-drop (512 * n + place) words in
    let left : length (take count (drop place page)) ≡ count = length-take-le count (drop place page) (omega arith) in
    let right : length (take count (drop (512 * n + place) words)) ≡ count = length-take-le count (drop (512 * n + place) words) (omega arith) in
    same_lists (take count (drop place page)) (take count (drop (512 * n + place) words)) (left ∙ sym right) (λ i lt.
    let at : 512 * n + (place + i) ≡ 512 * n + place + i = omega arith in
    get_or-take count (drop place page) i 0 (omega arith)
    ∙ get_or-drop place page i 0
    ∙ get_or-take 512 (drop (512 * n) words) (place + i) 0 (omega arith)
    ∙ get_or-drop (512 * n) words (place + i) 0
    ∙ ap (λ x. get_or words x 0) at
    ∙ sym (get_or-take count (drop (512 * n + place) words) i 0 (omega arith) ∙ get_or-drop (512 * n + place) words i 0))

module _ (image : Image) (g : Description) (words : List ℕ) (h : IsAccepted image) (long : length words ≡ length image.words)
    (forms : (n : ℕ) → n < page_count image → IsPageInForm g (page_of image n) (take 512 (drop (512 * n) words))) where
  abbrev rows : Rows
  rows = rows_of image

  at : (k : ℕ) → k < length image.rows → Placed image k
  at k lt = let n = as_many image in placed_at image h.written.limits (table image h) k (omega arith)

  abbrev on : ℕ → List ℕ
  on n = rows_on image n

  -- a row of a page, by its place among them
  is_row : (n j : ℕ) → j < length (on n) → (get_or (on n) j 0 < length image.rows) × (entry_of rows (get_or (on n) j 0) / 512 ≡ n)
  is_row n j lt =
      let k = get_or (on n) j 0 in
      let r = filter_among (λ i. nat_eq (entry_of rows i / 512) n) (row_numbers image) k (among_at (on n) j lt) in
      (range_among (length image.rows) k r.0, eqb-true (entry_of rows k / 512) n r.1)

  as_listed : (n : ℕ) → length (page_of image n).blocks ≡ length (on n)
  as_listed n = length-map (on n) (placed image)

  block_is : (n j : ℕ) → j < length (on n) → get_or (page_of image n).blocks j page.no_block ≡ placed image (get_or (on n) j 0)
  block_is n j lt = get_or-map (placed image) (on n) j 0 page.no_block lt

  block_in_form : (k : ℕ) → k < length image.rows → AreInForm g (block_of image k) (words_at rows words k)
  block_in_form k lt =
      let p = at k lt in
      let e = entry_of rows k in
      let n = e / 512 in
      let r = at_among (on n) k (among_filter (λ i. nat_eq (entry_of rows i / 512) n) (row_numbers image) k (eq-eqb n n refl) (among_range (length image.rows) k lt)) in
      let j = r.0 in
      let same : get_or (page_of image n).blocks j page.no_block ≡ placed image k = block_is n j r.1 ∙ ap (placed image) r.2 in
      let f = (forms n p.page).blocks j (let l = as_listed n in let q = r.1 in omega arith) in
      let w = h.written.limits.words in
      let back : 512 * n + e % 512 ≡ e = omega arith in
      let there : take (length (words_of image k)) (drop (e % 512) (take 512 (drop (512 * n) words))) ≡ words_at rows words k =
      ap (λ c. take c (drop (e % 512) (take 512 (drop (512 * n) words)))) p.counted
      ∙ in_page words n (e % 512) (count_of rows k) p.on_page (let q = p.page in omega arith)
      ∙ ap (λ x. take (count_of rows k) (drop x words)) back in
      subst (AreInForm g (block_of image k)) there
      (subst (λ (b : ℕ × Block). AreInForm g b.1 (take (length b.1.words) (drop b.0 (take 512 (drop (512 * n) words))))) same f)

  -- an address in a block of its page is in that block of the image
  no_block : (a : ℕ) → is_in_block rows a ≡ false → is_in_block (page.rows_on (page_of image (a / 512))) (a % 512) ≡ false
  no_block a out = false_from_ne_true (is_in_block (page.rows_on (page_of image (a / 512))) (a % 512)) (λ t.
      let n = a / 512 in
      let of_page = page.rows_on (page_of image n) in
      let r = row_of of_page (a % 512) t in
      let size = length-map (page_of image n).blocks (λ (b : ℕ × Block). (b.0, length b.1.words)) in
      let within : r.row < length (page_of image n).blocks = subst (λ m. r.row < m) size r.there in
      let lt : r.row < length (on n) = subst (λ m. r.row < m) (as_listed n) within in
      let k = get_or (on n) r.row 0 in
      let is = is_row n r.row lt in
      let p = at k is.0 in
      let row : get_or of_page r.row (0, 0) ≡ (entry_of rows k % 512, length (words_of image k)) =
      get_or-map (λ (b : ℕ × Block). (b.0, length b.1.words)) (page_of image n).blocks r.row page.no_block (0, 0) within
      ∙ ap (λ (b : ℕ × Block). (b.0, length b.1.words)) (block_is n r.row lt) in
      let entry : entry_of of_page r.row ≡ entry_of rows k % 512 = ap (λ (x : ℕ × ℕ). x.0) row in
      let count : count_of of_page r.row ≡ count_of rows k = ap (λ (x : ℕ × ℕ). x.1) row ∙ p.counted in
      let low = r.low in
      let high = r.high in
      let on_page = is.1 in
      both_ways (is_in_block rows a) out (in_block rows k a (let m = as_many image in let q = is.0 in omega arith) (omega arith) (omega arith)))

  pub in_form : AreWordsInForm image g words
  in_form = record {
    as_many = long;
    blocks = block_in_form;
    padding = λ a lt out.
        let n = a / 512 in
        let w = h.written.limits.words in
        let there : n < page_count image = omega arith in
        let back : 512 * n + a % 512 ≡ a = omega arith in
        ap (λ x. get_or words x 0) (sym back)
        ∙ sym (get_or-drop (512 * n) words (a % 512) 0)
        ∙ sym (get_or-take 512 (drop (512 * n) words) (a % 512) 0 (omega arith))
        ∙ (forms n there).padding (a % 512) (omega arith) (no_block a out);
  }

pub pages_make_the_image : PagesMakeTheImage
pages_make_the_image = in_form
