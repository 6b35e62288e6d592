-- The blocks of a page in form, written one after another over zeros; and a page has just one form.
use Rattle.std.proofs.Common.{◌≡◌, ℕ, zero, suc, ◌+◌, ◌-◌, ◌<◌, ◌≤◌, ◌&&◌, true, false, List, ◌++◌, length, get_or, take, drop, ◌⊎◌, inl, inr, refl, sym, ap, subst, ◌∙◌, arith, IsFalse}
use Rattle.std.specs.Prelude.{nat_le, nat_lt, replicate}
use borrow.Rule.Slice.PartMut.{put_mid, post_of}
use Rattle.std.proofs.lemmas.Bool.{cases_Bool, cases_lt, both_ways, and_from, and_parts, le-leb, lt-ltb, leb-true, ltb-true}
use Rattle.std.proofs.lemmas.List.{length-map, get_or-map, length-append, length-drop, length-take-le, length-replicate, get_or-replicate, get_or_past, get_or_default, get_or-take, get_or-drop, take_at, drop_at, drop-take, ext_get_or}
use Rattle.std.proofs.lemmas.List.Folds.{list_any_at, Any-from_list_any}
use Rattle.std.proofs.lemmas.Slice.{take-put_mid_below, drop-put_mid}
use Rattle.machine_desc.specs.Description.{Description}
use Rattle.machine_desc.proofs.Deciding.{cases_description}
use Rattle.block_table.specs.Rows.{entry_of, end_of}
use Rattle.block_table.specs.Padding.{is_in_block}
use Rattle.latency_deps.specs.Block.{Block}
use Rattle.latency_deps.specs.Page.{Page, IsPage, place_at, block_at, rows_on, no_block}
use Rattle.page_resched.specs.Form.{AreInForm, IsPageInForm}
use Rattle.page_resched.specs.Laws.{IsMovable, IsMovablePage, OnePageForm, EachPageHasAForm}
use Rattle.page_resched.proofs.One.{one_form}
use Rattle.page_resched.proofs.Words.{full_count}
use Rattle.page_resched.proofs.Written.{each_block_has_a_form}

-- ---- a part of a list that is written anew

module _ (a k : ℕ) (xs ys : List ℕ) (inside : a + k ≤ length xs) (as_many : length ys ≡ k) where
  abbrev zs : List ℕ
  zs = put_mid a k xs ys

  pub part_length : length zs ≡ length xs
  part_length =
      let first = length-take-le a xs (omega arith) in
      let last = length-drop k (drop a xs) in
      let tail = length-drop a xs in
      let inner = length-append ys (post_of a k xs) in
      let outer = length-append (take a xs) (ys ++ post_of a k xs) in
      omega arith

  pub part_here : take k (drop a zs) ≡ ys
  part_here = ap (take k) (drop_at (take a xs) (ys ++ post_of a k xs) a (length-take-le a xs (omega arith))) ∙ take_at ys (post_of a k xs) k as_many

  below_part : (n : ℕ) → n ≤ a → take n zs ≡ take n xs
  below_part n le = take-put_mid_below a k xs ys n le (omega arith)

  pub part_before : (i n : ℕ) → i + n ≤ a → take n (drop i zs) ≡ take n (drop i xs)
  part_before i n le = sym (drop-take i n zs) ∙ ap (drop i) (below_part (i + n) le) ∙ drop-take i n xs

  pub part_elsewhere : (i : ℕ) → (i < a) ⊎ (a + k ≤ i) → get_or zs i 0 ≡ get_or xs i 0
  part_elsewhere i (inl lt) = sym (get_or-take a zs i 0 lt) ∙ ap (λ (l : List ℕ). get_or l i 0) (below_part a (omega arith)) ∙ get_or-take a xs i 0 lt
  part_elsewhere i (inr ge) =
      let m = i - (a + k) in
      let at : (a + k) + m ≡ i = omega arith in
      sym (get_or-drop (a + k) zs m 0 ∙ ap (λ (n : ℕ). get_or zs n 0) at)
      ∙ ap (λ (l : List ℕ). get_or l m 0) (drop-put_mid a k xs ys (a + k) (omega arith) (omega arith) as_many)
      ∙ (get_or-drop (a + k) xs m 0 ∙ ap (λ (n : ℕ). get_or xs n 0) at)

-- ---- the blocks of a page

module _ (p : Page) where
  abbrev pub size_at : ℕ → ℕ
  size_at k = length (block_at p k).words

  row_is : (k : ℕ) → k < length p.blocks → get_or (rows_on p) k (0, 0) ≡ (place_at p k, size_at k)
  row_is k lt = get_or-map (λ (b : ℕ × Block). (b.0, length b.1.words)) p.blocks k no_block (0, 0) lt

  as_many_rows : length (rows_on p) ≡ length p.blocks
  as_many_rows = length-map p.blocks (λ (b : ℕ × Block). (b.0, length b.1.words))

  begins : (k : ℕ) → k < length p.blocks → entry_of (rows_on p) k ≡ place_at p k
  begins k lt = ap (λ (r : ℕ × ℕ). r.0) (row_is k lt)

  ends : (k : ℕ) → k < length p.blocks → end_of (rows_on p) k ≡ place_at p k + size_at k
  ends k lt = ap (λ (r : ℕ × ℕ). r.0 + r.1) (row_is k lt)

  -- an address in no block is before or behind each
  pub off : (a k : ℕ) → k < length p.blocks → IsFalse (is_in_block (rows_on p) a) → (a < place_at p k) ⊎ (place_at p k + size_at k ≤ a)
  off a k lt none = elim (cases_lt a (place_at p k)) [
    | inl before ↦ inl before
    | inr from ↦ elim (cases_lt a (place_at p k + size_at k)) [
      | inr behind ↦ inr behind
      | inl inside ↦ absurd (both_ways (is_in_block (rows_on p) a) none
          (list_any_at (λ (row : ℕ × ℕ). nat_le row.0 a && nat_lt a (row.0 + row.1)) (rows_on p) k (0, 0) (omega (arith, as_many_rows))
          (ap (λ (row : ℕ × ℕ). nat_le row.0 a && nat_lt a (row.0 + row.1)) (row_is k lt)
          ∙ and_from (nat_le (place_at p k) a) (nat_lt a (place_at p k + size_at k)) (le-leb (place_at p k) a from) (lt-ltb a (place_at p k + size_at k) inside))))
    ]
  ]

  -- and one in a block is in one of them
  pub on : (a : ℕ) → is_in_block (rows_on p) a ≡ true → (k : ℕ) × (k < length p.blocks) × (place_at p k ≤ a) × (a < place_at p k + size_at k)
  on a t =
      let test = λ (row : ℕ × ℕ). nat_le row.0 a && nat_lt a (row.0 + row.1) in
      let r = Any-from_list_any (λ (row : ℕ × ℕ). nat_le row.0 a && nat_lt a (row.0 + row.1)) (rows_on p) t in
      let k = r.0 in
      let lt : k < length p.blocks = (let q = r.2 in omega (arith, as_many_rows)) in
      let here : get_or (rows_on p) k (0, 0) ≡ r.1 = get_or_default (rows_on p) k (0, 0) r.1 r.2 ∙ r.3 in
      let passes : test (place_at p k, size_at k) ≡ true = ap test (sym (row_is k lt) ∙ here) ∙ r.4 in
      let q = and_parts (nat_le (place_at p k) a) (nat_lt a (place_at p k + size_at k)) passes in
      (k, lt, leb-true (place_at p k) a q.0, ltb-true a (place_at p k + size_at k) q.1)

  module _ (page : IsPage p) where
    pub within : (k : ℕ) → k < length p.blocks → place_at p k + size_at k ≤ 512
    within k lt = let e = ends k lt in let h = page.inside k (omega (arith, as_many_rows)) in omega arith

    pub apart : (j k : ℕ) → j < k → k < length p.blocks → place_at p j + size_at j ≤ place_at p k
    apart j zero lt h = absurd (omega arith)
    apart j (suc k) lt h =
        let e = ends k (omega arith) in
        let b = begins (suc k) h in
        let next = page.apart (suc k) (omega (arith, as_many_rows)) in
        elim (cases_lt j k) [
          | inl less ↦ (let q = apart j k less (omega arith) in omega arith)
          | inr more ↦ (let same : j ≡ k = omega arith in subst (λ i. place_at p i + size_at i ≤ place_at p (suc k)) (sym same) (omega arith))
        ]

movable_at : (p : Page) (g : Description) → IsMovablePage p g → (k : ℕ) → k < length p.blocks → IsMovable (block_at p k) g
movable_at p g m k lt = record { good = m.page.good k no_block lt; machine = m.machine; units = m.units k lt }

-- the first n blocks stand at their places in form, and all other words are 0
pub record AreWritten (g : Description) (p : Page) (n : ℕ) (out : List ℕ) : Type 0 where
  pub whole : length out ≡ 512
  pub blocks : (k : ℕ) → k < n → AreInForm g (block_at p k) (take (size_at p k) (drop (place_at p k) out))
  pub zeros : (a : ℕ) → ((k : ℕ) → k < n → (a < place_at p k) ⊎ (place_at p k + size_at p k ≤ a)) → get_or out a 0 ≡ 0

pub none_written : (g : Description) (p : Page) (out : List ℕ) → out ≡ replicate 512 0 → AreWritten g p 0 out
none_written g p out e = record {
  whole = ap length e ∙ length-replicate {A = ℕ} 512 0;
  blocks = λ k lt. absurd (omega arith);
  zeros = λ a h. ap (λ (l : List ℕ). get_or l a 0) e ∙ elim (cases_lt a 512) [
    | inl lt ↦ get_or-replicate 512 a 0 0 lt
    | inr ge ↦ get_or_past (replicate 512 0) a 0 (let l = length-replicate {A = ℕ} 512 0 in omega arith)
  ];
}

-- one block more
pub one_more_written : (g : Description) (p : Page) → IsMovablePage p g → (n : ℕ) (out out' new : List ℕ) → AreWritten g p n out → n < length p.blocks →
    AreInForm g (block_at p n) new → out' ≡ put_mid (place_at p n) (size_at p n) out new → AreWritten g p (n + 1) out'
one_more_written g p m n out out' new w lt form e =
    let page = m.page in
    let size = full_count (block_at p n) g new (movable_at p g m n lt) form in
    let a = place_at p n in
    let k = size_at p n in
    let room : a + k ≤ length out = (let h = within p page n lt in let l = w.whole in omega arith) in
    subst (AreWritten g p (n + 1)) (sym e) (record {
      whole = part_length a k out new room size ∙ w.whole;
      blocks = λ j below. elim (cases_lt j n) [
        | inl less ↦ subst (AreInForm g (block_at p j)) (sym (part_before a k out new room size (place_at p j) (size_at p j) (apart p page j n less lt))) (w.blocks j less)
        | inr more ↦
            (let same : j ≡ n = omega arith in
            subst (λ i. AreInForm g (block_at p i) (take (size_at p i) (drop (place_at p i) (put_mid a k out new)))) (sym same)
            (subst (AreInForm g (block_at p n)) (sym (part_here a k out new room size)) form))
      ];
      zeros = λ i h. part_elsewhere a k out new room size i (h n (omega arith)) ∙ w.zeros i (λ j less. h j (omega arith));
    })

-- all of them are the page in form
pub all_written : (g : Description) (p : Page) (n : ℕ) (out : List ℕ) → n ≡ length p.blocks → AreWritten g p n out → IsPageInForm g p out
all_written g p n out all w = record {
  whole = w.whole;
  blocks = λ k lt. w.blocks k (omega arith);
  padding = λ a lt none. w.zeros a (λ k below. off p a k (omega arith) none);
}

-- ---- a page has just one form

one_in_form : (p : Page) (g : Description) (new new' : List ℕ) → IsMovablePage p g → IsPageInForm g p new → IsPageInForm g p new' → new ≡ new'
one_in_form p g new new' m f f' = ext_get_or 0 new new' (f.whole ∙ sym f'.whole) (λ a lt. at a (let w = f.whole in omega arith) (cases_Bool (is_in_block (rows_on p) a)))
  where
    -- the word at an address of a block
    in_part : (l : List ℕ) (a place size : ℕ) → place ≤ a → a < place + size → get_or (take size (drop place l)) (a - place) 0 ≡ get_or l a 0
    in_part l a place size le lt =
        let e : place + (a - place) ≡ a = omega arith in
        get_or-take size (drop place l) (a - place) 0 (omega arith) ∙ get_or-drop place l (a - place) 0 ∙ ap (λ (n : ℕ). get_or l n 0) e

    at : (a : ℕ) → a < 512 → (is_in_block (rows_on p) a ≡ true) ⊎ (is_in_block (rows_on p) a ≡ false) → get_or new a 0 ≡ get_or new' a 0
    at a lt (inr none) = f.padding a lt none ∙ sym (f'.padding a lt none)
    at a lt (inl t) =
        let r = on p a t in
        let k = r.0 in
        let same = one_form (block_at p k) g _ _ (movable_at p g m k r.1) (f.blocks k r.1) (f'.blocks k r.1) in
        sym (in_part new a (place_at p k) (size_at p k) r.2 r.3) ∙ ap (λ (l : List ℕ). get_or l (a - place_at p k) 0) same ∙ in_part new' a (place_at p k) (size_at p k) r.2 r.3

pub one_page_form : OnePageForm
one_page_form p own g new new' m f f' = elim (cases_description own g) [
  | inl e ↦ f.same e ∙ sym (f'.same e)
  | inr ne ↦ one_in_form p g new new' m (f.other ne) (f'.other ne)
]

some_written : (p : Page) (g : Description) → IsMovablePage p g → (n : ℕ) → n ≤ length p.blocks → (out : List ℕ) × AreWritten g p n out
some_written p g m zero h = (replicate 512 0, none_written g p (replicate 512 0) refl)
some_written p g m (suc n) h =
    let r = some_written p g m n (omega arith) in
    let f = each_block_has_a_form (block_at p n) g (movable_at p g m n (omega arith)) in
    let out = put_mid (place_at p n) (size_at p n) r.0 f.0 in (
      out,
      subst (λ i. AreWritten g p i out) (let e : n + 1 ≡ suc n = omega arith in e)
          (one_more_written g p m n r.0 out f.0 r.1 (omega arith) f.1 refl),
    )

pub each_page_has_a_form : EachPageHasAForm
each_page_has_a_form p own g m = elim (cases_description own g) [
  | inl e ↦ (p.words, record { same = λ f. refl; other = λ ne. absurd (ne e) })
  | inr ne ↦
      (let r = some_written p g m (length p.blocks) (omega arith) in
      (r.0, record { same = λ e. absurd (ne e); other = λ f. all_written g p (length p.blocks) r.0 refl r.1 }))
]
