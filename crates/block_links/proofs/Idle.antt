-- The operations that wait for none, each once.
use Rattle.std.proofs.Common.{◌≡◌, ◌≢◌, ℕ, zero, suc, ◌+◌, ◌<◌, ◌≤◌, List, [], ◌∷◌, ◌++◌, length, take, get_or, inl, inr, refl, sym, ap, subst, ◌∙◌, arith}
use Rattle.std.specs.Prelude.{slice_index}
use Rattle.std.proofs.lemmas.Bool.{cases_eq}
use Rattle.std.proofs.lemmas.List.{take_more, length_push}
use Rattle.serial_order.specs.Lists.{Among, EachOnce}
use Rattle.serial_order.specs.Counts.{waiting}
use Rattle.serial_order.proofs.Members.{among_push, among_left, among_last, once_push}
use Rattle.serial_order.proofs.Counting.{count_none, count_more, count_placed}
use Rattle.block_links.specs.Idle.{AreIdle}

-- ---- the first numbers of a list

pub among_take : (k : ℕ) (l : List ℕ) (x : ℕ) → Among x (take k l) → Among x l
among_take zero [] x a = a
among_take (suc k) [] x a = a
among_take zero (y ∷ ys) x a = elim a [ ]
among_take (suc k) (y ∷ ys) x (inl e) = inl e
among_take (suc k) (y ∷ ys) x (inr a) = inr (among_take k ys x a)

once_take : (k : ℕ) (l : List ℕ) → EachOnce l → EachOnce (take k l)
once_take zero [] o = tt
once_take (suc k) [] o = tt
once_take zero (y ∷ ys) o = tt
once_take (suc k) (y ∷ ys) o = (λ a. o.0 (among_take k ys y a), once_take k ys o.1)

among_behind : (xs : List ℕ) (y : ℕ) (ys : List ℕ) → Among y (xs ++ y ∷ ys)
among_behind [] y ys = inl refl
among_behind (x ∷ xs) y ys = inr (among_behind xs y ys)

-- a number that stands once doesn't stand before
pub once_apart : (xs : List ℕ) (y : ℕ) (ys : List ℕ) → EachOnce (xs ++ y ∷ ys) → Among y xs → ⊥
once_apart [] y ys o a = elim a [ ]
once_apart (x ∷ xs) y ys o (inl e) = o.0 (subst (λ m. Among m (xs ++ y ∷ ys)) (sym e) (among_behind xs y ys))
once_apart (x ∷ xs) y ys o (inr a) = once_apart xs y ys o.1 a

module _ (l : List ℕ) (k : ℕ) (lt : k < length l) where
  pub at_among : Among (get_or l k 0) l
  at_among = among_take (k + 1) l (get_or l k 0) (subst (Among (get_or l k 0)) (sym (take_more l k 0 lt)) (among_last (take k l) (get_or l k 0)))

  pub at_new : EachOnce l → Among (get_or l k 0) (take k l) → ⊥
  at_new o = once_apart (take k l) (get_or l k 0) [] (subst EachOnce (take_more l k 0 lt) (once_take (k + 1) l o))

-- ---- so many numbers at the most

all_left : (n : ℕ) → waiting (λ i j. 1) [] 0 n ≡ n
all_left zero = count_none (λ i j. 1) [] 0
all_left (suc n) = let r = all_left n in let c = count_more (λ i j. 1) 0 n in let e : n + 1 ≡ suc n = omega arith in subst (λ m. waiting (λ i j. 1) [] 0 m ≡ m) e (omega arith)

taken : (n : ℕ) (l : List ℕ) → EachOnce l → ((k : ℕ) → Among k l → k < n) → (k : ℕ) → k ≤ length l → waiting (λ i j. 1) (take k l) 0 n + k ≡ n
taken n l o inside zero le = let e = ap (λ list. waiting (λ i j. 1) list 0 n) (nothing l) in let a = all_left n in omega arith
  where
    nothing : (list : List ℕ) → take 0 list ≡ []
    nothing [] = refl
    nothing (x ∷ xs) = refl
taken n l o inside (suc k) le =
    let r = taken n l o inside k (omega arith) in
    let lt : k < length l = omega arith in
    let c = count_placed (λ i j. 1) (take k l) (get_or l k 0) 0 n (at_new l k lt o) (inside (get_or l k 0) (at_among l k lt)) in
    let m = ap (λ list. waiting (λ i j. 1) list 0 n) (take_more l k 0 lt) in
    let next : k + 1 ≡ suc k = omega arith in
    subst (λ m. waiting (λ i j. 1) (take m l) 0 n + m ≡ n) next (omega arith)

pub once_short : (n : ℕ) (l : List ℕ) → EachOnce l → ((k : ℕ) → Among k l → k < n) → length l ≤ n
once_short n l o inside = let t = taken n l o inside (length l) (omega arith) in omega arith

-- ---- who waits for none

module _ (n : ℕ) (waits order : List ℕ) (s : AreIdle n waits order) where
  pub idle_inside : (k : ℕ) → Among k order → k < n
  idle_inside k a = ((s.all k).0 a).0

  pub idle_short : length order ≤ n
  idle_short = once_short n order s.once idle_inside

  -- there is room for one that isn't among them
  pub idle_room : (x : ℕ) → x < n → (Among x order → ⊥) → length order < n
  idle_room x lt un =
      let r = once_short n (order ++ x ∷ []) (once_push order x s.once un) (λ k a. elim (among_push order x k a) [ inl b ↦ idle_inside k b | inr e ↦ subst (λ m. m < n) e lt ]) in
      omega (arith, length_push order x)

  pub waiting_out : (x : ℕ) → 1 ≤ slice_index waits x → Among x order → ⊥
  waiting_out x some a = let z = ((s.all x).0 a).1 in omega arith

-- one more operation is looked at
module _ (i : ℕ) (waits order : List ℕ) (s : AreIdle i waits order) where
  pub idle_more : slice_index waits i ≡ 0 → AreIdle (i + 1) waits (order ++ i ∷ [])
  idle_more z = record {
    once = once_push order i s.once (λ a. let lt = idle_inside i waits order s i a in omega arith);
    all = λ j. (
      (λ a. elim (among_push order i j a) [
        | inl b ↦ (let q = (s.all j).0 b in (let lt = q.0 in omega arith, q.1))
        | inr e ↦ subst (λ m. (m < i + 1) × (slice_index waits m ≡ 0)) e (omega arith, z)
      ]),
      λ q. elim (cases_eq j i) [
        | inl e ↦ subst (λ m. Among m (order ++ i ∷ [])) (sym e) (among_last order i)
        | inr ne ↦ among_left order i j ((s.all j).1 (let lt = q.0 in omega arith, q.1))
      ],
    );
  }

  pub idle_same : (slice_index waits i ≡ 0 → ⊥) → AreIdle (i + 1) waits order
  idle_same some = record {
    once = s.once;
    all = λ j. (
      (λ a. let q = (s.all j).0 a in (let lt = q.0 in omega arith, q.1)),
      λ q. elim (cases_eq j i) [
        | inl e ↦ absurd (some (ap (slice_index waits) (sym e) ∙ q.1))
        | inr ne ↦ (s.all j).1 (let lt = q.0 in omega arith, q.1)
      ],
    );
  }

pub idle_none : (waits : List ℕ) → AreIdle 0 waits []
idle_none waits = record { once = tt; all = λ j. (λ a. elim a [ ], λ q. absurd (let lt = q.0 in omega arith)) }

-- an operation waits for one less
module _ (n : ℕ) (waits order : List ℕ) (s : AreIdle n waits order) (waits' : List ℕ) (t : ℕ) (lt : t < n) (some : 1 ≤ slice_index waits t)
    (others : (j : ℕ) → j ≢ t → slice_index waits' j ≡ slice_index waits j) where
  pub idle_joined : slice_index waits' t ≡ 0 → AreIdle n waits' (order ++ t ∷ [])
  idle_joined z = record {
    once = once_push order t s.once (waiting_out n waits order s t some);
    all = λ j. (
      (λ a. elim (among_push order t j a) [
        | inl b ↦ (let q = (s.all j).0 b in (q.0, others j (apart j b) ∙ q.1))
        | inr e ↦ subst (λ m. (m < n) × (slice_index waits' m ≡ 0)) e (lt, z)
      ]),
      λ q. elim (cases_eq j t) [
        | inl e ↦ subst (λ m. Among m (order ++ t ∷ [])) (sym e) (among_last order t)
        | inr ne ↦ among_left order t j ((s.all j).1 (q.0, sym (others j ne) ∙ q.1))
      ],
    );
  }
    where
      apart : (j : ℕ) → Among j order → j ≢ t
      apart j b e = waiting_out n waits order s t some (subst (λ m. Among m order) e b)

  pub idle_still : (slice_index waits' t ≡ 0 → ⊥) → AreIdle n waits' order
  idle_still more = record {
    once = s.once;
    all = λ j. (
      (λ a. let q = (s.all j).0 a in (q.0, others j (λ e. waiting_out n waits order s t some (subst (λ m. Among m order) e a)) ∙ q.1)),
      λ q. elim (cases_eq j t) [
        | inl e ↦ absurd (more (ap (slice_index waits') (sym e) ∙ q.1))
        | inr ne ↦ (s.all j).1 (q.0, sym (others j ne) ∙ q.1)
      ],
    );
  }
