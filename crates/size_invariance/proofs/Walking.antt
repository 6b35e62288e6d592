-- A walk over the blocks of a page.
use Rattle.std.proofs.Common.{◌≡◌, ℕ, zero, suc, ◌+◌, ◌*◌, ◌/◌, ◌%◌, ◌<◌, ◌≤◌, false, List, length, get_or, subst, arith, inl, inr}
use Rattle.std.proofs.lemmas.Bool.{cases_lt, both_ways}
use Rattle.block_table.specs.Rows.{Rows, entry_of, count_of, end_before, IsTable}
use Rattle.block_table.specs.Padding.{is_in_block}
use Rattle.block_table.proofs.Finding.{below}
use Rattle.block_table.proofs.Gaps.{in_block, in_gap}
use Rattle.block_table.proofs.Rising.{end_before-next}
use Rattle.size_invariance.specs.Shape.{AreSameShape, HaveSameOperations, block_words}
use Rattle.size_invariance.specs.Walk.{AreEqualWithin, IsSameRow}

-- what is known where the rows from `first` up to `row` were looked at, and the words below a place
pub record HaveWalked (rows : Rows) (page first row place : ℕ) (a b : List ℕ) : Type 0 where
  -- the blocks before the row end at or before the place, which is on the page, and the row's begins at or behind it
  pub behind : end_before rows row ≤ 512 * page + place
  pub before : row < length rows → 512 * page + place ≤ entry_of rows row
  pub inside : place ≤ 512
  -- so far all is the same
  pub blocks : (k : ℕ) → first ≤ k → k < row → HaveSameOperations (block_words rows k a) (block_words rows k b)
  pub others : (i : ℕ) → i < place → is_in_block rows (512 * page + i) ≡ false → get_or a i 0 ≡ get_or b i 0

-- the rows of a page are those from one up to another
pub record AreRowsOn (rows : Rows) (page first end : ℕ) : Type 0 where
  pub within : first ≤ end
  pub there : end ≤ length rows
  pub below : (k : ℕ) → k < first → entry_of rows k / 512 < page
  pub from : (k : ℕ) → first ≤ k → k < length rows → page ≤ entry_of rows k / 512
  pub up_to : (k : ℕ) → k < end → entry_of rows k / 512 < page + 1
  pub above : (k : ℕ) → end ≤ k → k < length rows → page + 1 ≤ entry_of rows k / 512

-- entries rise
entries_rise : (rows : Rows) → IsTable rows → (j k : ℕ) → j ≤ k → k < length rows → entry_of rows j ≤ entry_of rows k
entries_rise rows table j k low there = elim (cases_lt j k) [
  | inl less ↦ let h = below rows j k (0, 0) table.rising.entries less there in omega arith
  | inr more ↦ let e : j ≡ k = omega arith in ap-le e
]
  where
    ap-le : j ≡ k → entry_of rows j ≤ entry_of rows k
    ap-le e = subst (λ i. entry_of rows j ≤ entry_of rows i) e (omega arith)

-- where a row stands before a page, so do those before it
pub before_too : (rows : Rows) → IsTable rows → (page middle : ℕ) → middle < length rows → entry_of rows middle / 512 < page →
    (k : ℕ) → k < middle + 1 → entry_of rows k / 512 < page
before_too rows table page middle there h k lt = let e = entries_rise rows table k middle (omega arith) there in omega arith

-- where it doesn't, those behind it don't either
pub behind_too : (rows : Rows) → IsTable rows → (page middle : ℕ) → page ≤ entry_of rows middle / 512 →
    (k : ℕ) → middle ≤ k → k < length rows → page ≤ entry_of rows k / 512
behind_too rows table page middle h k low there = let e = entries_rise rows table middle k low there in omega arith

pub rows_on : (rows : Rows) (page first end : ℕ) → first ≤ length rows → end ≤ length rows →
    ((k : ℕ) → k < first → entry_of rows k / 512 < page) → ((k : ℕ) → first ≤ k → k < length rows → page ≤ entry_of rows k / 512) →
    ((k : ℕ) → k < end → entry_of rows k / 512 < page + 1) → ((k : ℕ) → end ≤ k → k < length rows → page + 1 ≤ entry_of rows k / 512) →
    AreRowsOn rows page first end
rows_on rows page first end inside there before behind up_to above =
    record {
      within = elim (cases_lt end first) [
        | inl less ↦ absurd (let b = before end less in let h = above end (omega arith) (omega arith) in omega arith)
        | inr more ↦ more
      ];
      there = there;
      below = before;
      from = behind;
      up_to = up_to;
      above = above;
    }

module _ (rows : Rows) (table : IsTable rows) (page : ℕ) (a b : List ℕ) where
  -- the row before the first of a page ends before the page
  before_page : (row : ℕ) → row ≤ length rows → ((k : ℕ) → k < row → entry_of rows k / 512 < page) → end_before rows row ≤ 512 * page
  before_page zero there below = omega arith
  before_page (suc k) there below =
      let h = below k (omega arith) in
      let p = table.on_page k (omega arith) in
      omega arith

  pub begun : (first end : ℕ) → AreRowsOn rows page first end → HaveWalked rows page first first 0 a b
  begun first end r =
      record {
        behind = (let w = r.within in let t = r.there in let h = before_page first (omega arith) r.below in omega arith);
        before = λ lt. let h = r.from first (omega arith) lt in omega arith;
        inside = omega arith;
        blocks = λ k low high. absurd (omega arith);
        others = λ i lt out. absurd (omega arith);
      }

  module _ (first end : ℕ) (r : AreRowsOn rows page first end) where
    on : (row : ℕ) → first ≤ row → row < end → entry_of rows row / 512 ≡ page
    on row low high =
        let t = r.there in
        let f = r.from row low (omega arith) in
        let u = r.up_to row high in
        omega arith

    -- a row of the page that is the same
    pub further : (row place : ℕ) → first ≤ row → row < end → HaveWalked rows page first row place a b →
        IsSameRow rows row place a b → HaveWalked rows page first (row + 1) (entry_of rows row % 512 + count_of rows row) a b
    further row place low high w same =
        let t = r.there in
        let there : row < length rows = omega arith in
        let here = on row low high in
        let fits = table.on_page row there in
        let next = end_before-next rows row in
        record {
          behind = omega arith;
          before = λ lt. let h = table.rising.apart (row + 1) lt in omega arith;
          inside = fits;
          blocks = λ k from to. elim (cases_lt k row) [
            | inl less ↦ w.blocks k from less
            | inr more ↦
                let e : row ≡ k = omega arith in
                subst (λ j. HaveSameOperations (block_words rows j a) (block_words rows j b)) e same.operations
          ];
          others = λ i lt out. elim (cases_lt i place) [
            | inl less ↦ w.others i less out
            | inr more ↦ elim (cases_lt i (entry_of rows row % 512)) [
              | inl gap ↦ same.before i more gap
              | inr block ↦ absurd (both_ways (is_in_block rows (512 * page + i)) out
                  (in_block rows row (512 * page + i) there (omega arith) (omega arith)))
            ]
          ];
        }

    -- versions of the same shape have the same row
    pub same_row : (row place : ℕ) → first ≤ row → row < end → HaveWalked rows page first row place a b →
        AreSameShape rows page a b → IsSameRow rows row place a b
    same_row row place low high w s =
        let t = r.there in
        let there : row < length rows = omega arith in
        let here = on row low high in
        let behind = w.behind in
        record {
          before = λ i from to. s.others i (omega arith)
              (in_gap rows table.rising row (512 * page + i) (omega arith) (omega arith) (λ lt. omega arith));
          operations = s.blocks row there here;
        }

    -- and the same words behind the last row
    pub same_rest : (place : ℕ) → HaveWalked rows page first end place a b → AreSameShape rows page a b → AreEqualWithin a b place 512
    same_rest place w s i from to =
        let behind = w.behind in
        s.others i to (in_gap rows table.rising end (512 * page + i) r.there (omega arith)
        (λ lt. let h = r.above end (omega arith) lt in omega arith))

    -- where all is the same the shape is
    pub whole : (place : ℕ) → HaveWalked rows page first end place a b → AreEqualWithin a b place 512 → length a ≡ 512 → length b ≡ 512 →
        AreSameShape rows page a b
    whole place w rest long long' =
        record {
          first = long;
          second = long';
          blocks = λ k lt on_it. w.blocks k
              (elim (cases_lt k first) [
                | inl less ↦ absurd (let h = r.below k less in omega arith)
                | inr more ↦ more
              ])
              (elim (cases_lt k end) [
                | inl less ↦ less
                | inr more ↦ absurd (let h = r.above k more lt in omega arith)
              ]);
          others = λ i lt out. elim (cases_lt i place) [
            | inl less ↦ w.others i less out
            | inr more ↦ rest i more lt
          ];
        }
