-- Texts of several, one after another.
use Rattle.std.proofs.Common.{◌≡◌, ℕ, zero, suc, ◌+◌, List, [], ◌∷◌, ◌++◌, length, take, refl, sym, ap, ◌∙◌, append_assoc, arith, Option, Some, None, ◌<◌, IfSome}
use Rattle.std.proofs.Math.Seq.{take-length}
use Rattle.std.specs.Prelude.{slice_get}
use Rattle.std.proofs.lemmas.List.{append-nil}
use Rattle.run_report.specs.Run.{texts_from}

-- one more behind the first c
pub texts_more : {X : Type 0} (text : ℕ → X → List ℕ) (xs : List X) (i c : ℕ) (x : X) → slice_get xs c ≡ Some x →
    texts_from text i (take (suc c) xs) ≡ texts_from text i (take c xs) ++ text (i + c) x
texts_more text [] i c x h = absurd (let none : ⊥ = cc in none)
texts_more text (y ∷ ys) i zero x h =
    let same : y ≡ x = cc in
    let none : i ≡ i + 0 = omega arith in
    append-nil (text i y) ∙ ap (text i) same ∙ ap (λ n. text n x) none
texts_more text (y ∷ ys) i (suc c) x h =
    let n : suc i + c ≡ i + suc c = omega arith in
    ap (λ r. text i y ++ r) (texts_more text ys (suc i) c x h ∙ ap (λ n. texts_from text (suc i) (take c ys) ++ text n x) n)
    ∙ sym (append_assoc (text i y) (texts_from text (suc i) (take c ys)) (text (i + suc c) x))

-- all of them
pub texts_all : {X : Type 0} (text : ℕ → X → List ℕ) (xs : List X) (n : ℕ) → n ≡ length xs → texts_from text 0 (take n xs) ≡ texts_from text 0 xs
texts_all text xs n e = ap (λ k. texts_from text 0 (take k xs)) e ∙ ap (texts_from text 0) (take-length xs)

-- the same texts of two lists
pub texts_same : {X Y : Type 0} (f : ℕ → X → List ℕ) (g : ℕ → Y → List ℕ) (xs : List X) (ys : List Y) (i : ℕ) → length xs ≡ length ys →
    ((c : ℕ) (x : X) (y : Y) → slice_get xs c ≡ Some x → slice_get ys c ≡ Some y → (n : ℕ) → f n x ≡ g n y) → texts_from f i xs ≡ texts_from g i ys
texts_same f g [] [] i e h = refl
texts_same f g [] (y ∷ ys) i e h = absurd (let none : ⊥ = cc in none)
texts_same f g (x ∷ xs) [] i e h = absurd (let none : ⊥ = cc in none)
texts_same f g (x ∷ xs) (y ∷ ys) i e h =
    let n : length xs ≡ length ys = cc in
    ap (λ t. t ++ texts_from f (suc i) xs) (h 0 x y refl refl i)
    ∙ ap (λ r. g i y ++ r) (texts_same f g xs ys (suc i) n (λ c. h (suc c)))

-- what follows for one that is there
pub if_some : {X : Type 0} (o : Option X) (P Q : X → Type 0) → ((x : X) → P x → Q x) → IfSome o P → IfSome o Q
if_some None P Q f h = tt
if_some (Some x) P Q f h = f x h

pub if_both : {X : Type 0} (o : Option X) (P Q R : X → Type 0) → ((x : X) → P x → Q x → R x) → IfSome o P → IfSome o Q → IfSome o R
if_both None P Q R f h k = tt
if_both (Some x) P Q R f h k = f x h k

past : {X : Type 0} (xs : List X) (c : ℕ) → c < length xs → slice_get xs c ≡ None → ⊥
past [] c lt e = omega arith
past (x ∷ xs) zero lt e = let none : ⊥ = cc in none
past (x ∷ xs) (suc c) lt e = past xs c (let l = lt in omega arith) e

-- text behind text, for one more
pub one_text_more : {X : Type 0} (text : ℕ → X → List ℕ) (xs : List X) (c : ℕ) (before now new : List ℕ) → c < length xs →
    now ≡ before ++ texts_from text 0 (take c xs) → IfSome (slice_get xs c) (λ x. new ≡ now ++ text c x) →
    new ≡ before ++ texts_from text 0 (take (c + 1) xs)
one_text_more text xs c before now new lt so more = go (slice_get xs c) refl more
  where
    zero_more : c ≡ 0 + c
    zero_more = omega arith

    next : suc c ≡ c + 1
    next = omega arith

    go : (o : Option _) → slice_get xs c ≡ o → IfSome o (λ x. new ≡ now ++ text c x) → new ≡ before ++ texts_from text 0 (take (c + 1) xs)
    go None e h = absurd (past xs c lt e)
    go (Some x) e h =
        h ∙ ap (λ s. s ++ text c x) so ∙ append_assoc before (texts_from text 0 (take c xs)) (text c x)
        ∙ ap (λ s. before ++ s) (ap (λ n. texts_from text 0 (take c xs) ++ text n x) zero_more ∙ sym (texts_more text xs 0 c x e)) ∙ ap (λ n. before ++ texts_from text 0 (take n xs)) next
