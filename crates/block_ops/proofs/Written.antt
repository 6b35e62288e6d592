-- The operations of the blocks of a page, written one block after another.
use Rattle.std.proofs.Common.{◌≡◌, ◌≢◌, ℕ, ◌+◌, ◌-◌, ◌<◌, ◌≤◌, inl, inr, List, length, take, drop, set, get_or, sym, ap, subst, ◌∙◌, arith, length-set, get_or-set_same, get_or-set_other}
use Rattle.std.proofs.lemmas.Bool.{cases_lt}
use Rattle.std.proofs.lemmas.List.{drop-take, length-drop, length-take-le}
use Rattle.std.proofs.lemmas.Slice.{take-put_mid_below, between-put_mid}
use borrow.Rule.Slice.PartMut.{mid_of, put_mid, same_len_mid}
use Rattle.machine_desc.specs.Description.{Description}
use Rattle.timed_meaning.specs.declared.TimedOp.{TimedOp}
use Rattle.latency_deps.specs.Page.{Page, IsPage, place_at, no_block}
use Rattle.page_resched.specs.Form.{words_at}
use Rattle.page_resched.proofs.Pages.{size_at, within, apart}
use Rattle.block_ops.specs.Page.{AreBlockOps, ops_at}

-- a part that is written anew, and one before it
part_here : {A : Type 0} (a k : ℕ) (xs ys : List A) → a ≤ length xs → length ys ≡ k → take k (drop a (put_mid a k xs ys)) ≡ ys
part_here a k xs ys inside as_many =
    let size : (a + k) - a ≡ k = omega arith in
    ap (λ (n : ℕ). take n (drop a (put_mid a k xs ys))) (sym size) ∙ between-put_mid a k xs ys (a + k) inside (as_many ∙ sym size)

part_before : {A : Type 0} (a k : ℕ) (xs ys : List A) → a ≤ length xs → (i n : ℕ) → i + n ≤ a → take n (drop i (put_mid a k xs ys)) ≡ take n (drop i xs)
part_before a k xs ys inside i n le = sym (drop-take i n (put_mid a k xs ys)) ∙ ap (drop i) (take-put_mid_below a k xs ys (i + n) le inside) ∙ drop-take i n xs

-- the first n blocks have their operations and their ends
pub record AreWritten (g : Description) (p : Page) (words : List ℕ) (n : ℕ) (ops : List TimedOp) (ends : List ℕ) : Type 0 where
  pub whole : length ops ≡ 512
  pub as_many : length ends ≡ 512
  pub blocks : (k : ℕ) → k < n → AreBlockOps g (words_at p k words) (ops_at p k ops) (get_or ends (place_at p k) 0)

pub none_written : (g : Description) (p : Page) (words : List ℕ) (ops : List TimedOp) (ends : List ℕ) → length ops ≡ 512 → length ends ≡ 512 → AreWritten g p words 0 ops ends
none_written g p words ops ends whole as_many = record { whole = whole; as_many = as_many; blocks = λ k lt. absurd (omega arith) }

-- a later block begins elsewhere
begins_later : (p : Page) → IsPage p → (j k : ℕ) → j < k → k < length p.blocks → place_at p j ≢ place_at p k
begins_later p page j k less lt same =
    let behind = apart p page j k less lt in
    let some = (page.good j no_block (omega arith)).some in
    absurd (omega arith)

-- one block more: the part of its size from its place on is written anew, and the end at its place
module _ (g : Description) (p : Page) (page : IsPage p) (words : List ℕ) (n : ℕ) (lt : n < length p.blocks) (ops new : List TimedOp) (ends : List ℕ) (end : ℕ) (w : AreWritten g p words n ops ends) where
  -- such a part is that of the block
  abbrev IsMade : ℕ → ℕ → Type 0
  IsMade a k = AreBlockOps g (take k (drop a words)) new end × (length new ≡ length (mid_of a k ops))

  abbrev IsOneMore : ℕ → ℕ → Type 0
  IsOneMore a k = IsMade a k → AreWritten g p words (n + 1) (put_mid a k ops new) (set ends a end)

  one_more : IsOneMore (place_at p n) (size_at p n)
  one_more made =
      let a = place_at p n in
      let k = size_at p n in
      let room = within p page n lt in
      let some = (page.good n no_block lt).some in
      let whole = w.whole in
      let inside : a ≤ length ops = omega arith in
      let size : length new ≡ k = made.1 ∙ length-take-le k (drop a ops) (let rest = length-drop a ops in omega arith) in
      record {
        whole = same_len_mid a k ops new made.1 ∙ w.whole;
        as_many = length-set ends a end ∙ w.as_many;
        blocks = λ j below. elim (cases_lt j n) [
          | inl less ↦
              (let b = w.blocks j less in
              record {
                operations = part_before a k ops new inside (place_at p j) (size_at p j) (apart p page j n less lt) ∙ b.operations;
                last = get_or-set_other ends a (place_at p j) end 0 (begins_later p page j n less lt) ∙ b.last;
              })
          | inr more ↦
              (let same : j ≡ n = omega arith in
              subst (λ i. AreBlockOps g (words_at p i words) (ops_at p i (put_mid a k ops new)) (get_or (set ends a end) (place_at p i) 0)) (sym same) (record {
                operations = part_here a k ops new inside size ∙ made.0.operations;
                last = get_or-set_same ends a end 0 (let l = w.as_many in omega arith) ∙ made.0.last;
              }))
        ];
      }

  pub one_more_written : (place size : ℕ) → place_at p n ≡ place → size_at p n ≡ size → IsOneMore place size
  one_more_written place size e f = subst (λ a. IsOneMore a size) e (subst (λ k. IsOneMore (place_at p n) k) f one_more)
