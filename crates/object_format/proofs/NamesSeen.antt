-- The walk through the names of a file, with the set of those seen.
use Rattle.std.proofs.Common.{◌≡◌, ℕ, zero, suc, ◌+◌, ◌-◌, ◌<◌, ◌≤◌, Bool, true, false, cond, not, ◌&&◌, ◌||◌, List, [], ◌∷◌, ◌++◌, length, take, drop, Some, None, refl, sym, ap, ◌∙◌, arith, drop-drop, length-drop, length-take-le}
use Rattle.std.specs.Prelude.{slice_index, bytes_eq, nat_le, nat_eq}
use Rattle.std.specs.List.{list_any}
use Rattle.std.proofs.lemmas.Bool.{and_parts, leb-true, eqb-true}
use Rattle.std.proofs.lemmas.Slice.Eq.{bytes_eq-Decides}
use denote.Ref.{Bor}
use Rattle.machine_desc.specs.Numbers.{is_between}
use Rattle.object_format.specs.Layout.{names, names_length, name_count, name_bytes, names_offset, given_length}
use Rattle.object_format.specs.Rules.{is_new_name, names_from, is_length_given, names_fit}
use Rattle.object_format.specs.Seen.{Seen, is_seen, Grown}
use Rattle.object_format.proofs.Walks.{Walked, walk_begun, walk_on, head_at}

-- the name whose length stands at a place
abbrev pub name_there : List ℕ → ℕ → List ℕ
name_there bytes place = take (slice_index bytes place) (drop (place + 1) bytes)

-- one more name
names_more : (k : ℕ) (xs : List ℕ) → names (suc k) xs ≡ names k xs ++ (take (slice_index (drop (names_length k xs) xs) 0) (drop 1 (drop (names_length k xs) xs)) ∷ [])
names_more zero xs = refl
names_more (suc k) xs =
    let b = slice_index xs 0 in
    let ys = drop (1 + b) xs in
    let first = take b (drop 1 xs) in
    ap (λ ns. first ∷ ns) (names_more k ys)
    ∙ ap (λ zs. first ∷ (names k ys ++ (take (slice_index zs 0) (drop 1 zs) ∷ []))) (drop-drop (names_length k ys) (1 + b) xs)

-- its bytes end behind it
lengths_more : (k : ℕ) (xs : List ℕ) → names_length (suc k) xs ≡ names_length k xs + (1 + slice_index (drop (names_length k xs) xs) 0)
lengths_more zero xs = omega arith
lengths_more (suc k) xs =
    let b = slice_index xs 0 in
    let ys = drop (1 + b) xs in
    let ih = lengths_more k ys in
    let e = ap (λ zs. slice_index zs 0) (drop-drop (names_length k ys) (1 + b) xs) in
    omega (arith, ih, e)

-- comparing is symmetric
same_either_way : (a b : List ℕ) → bytes_eq a b ≡ bytes_eq b a
same_either_way a b = go (bytes_eq a b) (bytes_eq b a) refl refl
  where
    go : (x y : Bool) → bytes_eq a b ≡ x → bytes_eq b a ≡ y → x ≡ y
    go true true e f = refl
    go false false e f = refl
    go true false e f = sym ((bytes_eq-Decides b a).1 (sym ((bytes_eq-Decides a b).0 e))) ∙ f
    go false true e f = sym e ∙ (bytes_eq-Decides a b).1 (sym ((bytes_eq-Decides b a).0 f))

any_push : (p : List ℕ → Bool) (xs : List (List ℕ)) (y : List ℕ) → list_any p (xs ++ (y ∷ [])) ≡ (p y || list_any p xs)
any_push p [] y = refl
any_push p (x ∷ xs) y = ap (λ b. p x || b) (any_push p xs y) ∙ swapped (p x) (p y) (list_any p xs)
  where
    swapped : (a b c : Bool) → (a || (b || c)) ≡ (b || (a || c))
    swapped true true c = refl
    swapped true false c = refl
    swapped false true c = refl
    swapped false false c = refl

-- k names are walked, up to a place; none of them is at fault, and they are those seen
pub record So_far (bytes : List ℕ) (count k end : ℕ) (seen : Seen) : Type 0 where
  pub walked : Walked bytes count k end
  pub end_is : end ≡ names_offset bytes + names_length k (drop (names_offset bytes) bytes)
  pub left : names_from end (names k (drop (names_offset bytes) bytes)) (names (count - k) (drop end bytes)) ≡ names_from (names_offset bytes) [] (names count (drop (names_offset bytes) bytes))
  pub are_seen : (q : Bor (List ℕ)) → is_seen seen q.now ≡ list_any (bytes_eq q.now) (names k (drop (names_offset bytes) bytes))

pub begun : (bytes : List ℕ) (count : ℕ) (seen : Seen) → ((q : Bor (List ℕ)) → is_seen seen q.now ≡ false) → So_far bytes count 0 (names_offset bytes) seen
begun bytes count seen none =
    let e : count - 0 ≡ count = omega arith in
    record {
      walked = walk_begun bytes count;
      end_is = omega arith;
      left = ap (λ n. names_from (names_offset bytes) [] (names n (drop (names_offset bytes) bytes))) e;
      are_seen = none;
    }

-- the first name that is left
first_name : (bytes : List ℕ) (count k end : ℕ) → k < count →
    names (count - k) (drop end bytes) ≡ name_there bytes end ∷ names (count - (k + 1)) (drop (end + (1 + slice_index bytes end)) bytes)
first_name bytes count k end below =
    let e : count - k ≡ suc (count - (k + 1)) = omega arith in
    let n : ℕ = count - (k + 1) in
    let b = slice_index bytes end in
    ap (λ m. names m (drop end bytes)) e
    ∙ ap (λ h. take h (drop 1 (drop end bytes)) ∷ names n (drop (1 + h) (drop end bytes))) (head_at bytes end)
    ∙ ap (λ xs. take b xs ∷ names n (drop (1 + b) (drop end bytes))) (drop-drop 1 end bytes)
    ∙ ap (λ xs. name_there bytes end ∷ names n xs) (drop-drop (1 + b) end bytes)

-- the name at the place is whole
pub whole : (bytes : List ℕ) (count k end : ℕ) (seen : Seen) → k < count → names_offset bytes + names_length count (drop (names_offset bytes) bytes) ≤ length bytes → So_far bytes count k end seen →
    end + 1 + slice_index bytes end ≤ length bytes
whole bytes count k end seen below fits s =
    let e : count - k ≡ suc (count - (k + 1)) = omega arith in
    let head = head_at bytes end in
    let one : names_length (count - k) (drop end bytes) ≡ names_length (suc (count - (k + 1))) (drop end bytes) = ap (λ m. names_length m (drop end bytes)) e in
    omega (arith, s.walked.same, head, one)

-- a name that isn't new, or is too short or too long, is the first
pub faulty : (bytes : List ℕ) (count k end : ℕ) (seen : Seen) → k < count → So_far bytes count k end seen →
    is_new_name (names k (drop (names_offset bytes) bytes)) (name_there bytes end) ≡ false → Some end ≡ names_from (names_offset bytes) [] (names count (drop (names_offset bytes) bytes))
faulty bytes count k end seen below s old =
    let before = names k (drop (names_offset bytes) bytes) in
    let name = name_there bytes end in
    let rest = names (count - (k + 1)) (drop (end + (1 + slice_index bytes end)) bytes) in
    sym (ap (λ b. cond b (names_from (end + (1 + length name)) (before ++ name ∷ []) rest) (Some end)) old)
    ∙ sym (ap (names_from end before) (first_name bytes count k end below))
    ∙ s.left

-- a new name is passed
pub passed : (bytes : List ℕ) (count k end : ℕ) (old new : Seen) → k < count → names_offset bytes + names_length count (drop (names_offset bytes) bytes) ≤ length bytes → So_far bytes count k end old →
    is_new_name (names k (drop (names_offset bytes) bytes)) (name_there bytes end) ≡ true → Grown old new (name_there bytes end) →
    So_far bytes count (k + 1) (end + (1 + length (name_there bytes end))) new
passed bytes count k end old new below fits s fresh grown =
    let xs = drop (names_offset bytes) bytes in
    let before = names k xs in
    let name = name_there bytes end in
    let b = slice_index bytes end in
    let rest = names (count - (k + 1)) (drop (end + (1 + b)) bytes) in
    let inside : end + 1 + b ≤ length bytes = whole bytes count k end old below fits s in
    let long : length name ≡ b = length-take-le b (drop (end + 1) bytes) (omega (arith, length-drop (end + 1) bytes)) in
    let short = and_parts (is_between 1 32 (length name)) (not (list_any (bytes_eq name) before)) fresh in
    let range = and_parts (nat_le 1 (length name)) (nat_le (length name) 32) short.0 in
    let few = leb-true (length name) 32 range.1 in
    let next : k + 1 ≡ suc k = omega arith in
    let here : drop (names_length k xs) xs ≡ drop end bytes = drop-drop (names_length k xs) (names_offset bytes) bytes ∙ ap (λ n. drop n bytes) (sym s.end_is) in
    let head : slice_index (drop (names_length k xs) xs) 0 ≡ b = ap (λ zs. slice_index zs 0) here ∙ head_at bytes end in
    let more : names (k + 1) xs ≡ before ++ name ∷ [] =
    ap (λ n. names n xs) next ∙ names_more k xs
    ∙ ap (λ zs. before ++ (take (slice_index zs 0) (drop 1 zs) ∷ [])) here
    ∙ ap (λ h. before ++ (take h (drop 1 (drop end bytes)) ∷ [])) (head_at bytes end)
    ∙ ap (λ zs. before ++ (take b zs ∷ [])) (drop-drop 1 end bytes) in
    let lengths = lengths_more k xs in
    let counted : names_length (k + 1) xs ≡ names_length (suc k) xs = ap (λ n. names_length n xs) next in
    record {
      walked = walk_on bytes count k end (length name) below long (omega arith) s.walked;
      end_is = omega (arith, s.end_is, lengths, counted, head, long);
      left =
          ap (λ ns. names_from (end + (1 + length name)) ns (names (count - (k + 1)) (drop (end + (1 + length name)) bytes))) more
          ∙ ap (λ n. names_from (end + (1 + length name)) (before ++ name ∷ []) (names (count - (k + 1)) (drop (end + (1 + n)) bytes))) long
          ∙ sym (ap (λ t. cond t (names_from (end + (1 + length name)) (before ++ name ∷ []) rest) (Some end)) fresh)
          ∙ sym (ap (names_from end before) (first_name bytes count k end below))
          ∙ s.left;
      are_seen = λ q.
          grown q
          ∙ ap (λ t. t || is_seen old q.now) (same_either_way name q.now)
          ∙ ap (λ t. bytes_eq q.now name || t) (s.are_seen q)
          ∙ sym (any_push (bytes_eq q.now) before name)
          ∙ ap (list_any (bytes_eq q.now)) (sym more);
    }

pub ended : (bytes : List ℕ) (count k end : ℕ) (seen : Seen) → count ≤ k → So_far bytes count k end seen → None ≡ names_from (names_offset bytes) [] (names count (drop (names_offset bytes) bytes))
ended bytes count k end seen above s =
    let e : count - k ≡ 0 = omega arith in
    sym (ap (λ n. names_from end (names k (drop (names_offset bytes) bytes)) (names n (drop end bytes))) e) ∙ s.left

-- the test of a name, by what the code finds: whether it is short, and whether it was added to those seen
pub fresh_name : (seen : Seen) (name : Bor (List ℕ)) (before : List (List ℕ)) (short added b : Bool) → ((q : Bor (List ℕ)) → is_seen seen q.now ≡ list_any (bytes_eq q.now) before) →
    short ≡ true → added ≡ not (is_seen seen name.now) → added ≡ b → (short && not (list_any (bytes_eq name.now) before)) ≡ b
fresh_name seen name before short added b are is_short is_added is_b =
    ap (λ t. t && not (list_any (bytes_eq name.now) before)) is_short
    ∙ ap not (sym (are name)) ∙ sym is_added ∙ is_b

-- the names end within the file
pub long_there : (bytes : List ℕ) → is_length_given bytes ≡ true → names_fit bytes ≡ true → names_offset bytes + names_length (name_count bytes) (drop (names_offset bytes) bytes) ≤ length bytes
long_there bytes h k =
    let p = and_parts (nat_le (names_offset bytes) (length bytes)) (nat_eq (length bytes) (given_length bytes)) h in
    let e = eqb-true (length bytes) (given_length bytes) p.1 in
    let f = eqb-true (names_length (name_count bytes) (drop (names_offset bytes) bytes)) (name_bytes bytes) k in
    omega (arith, e, f)

-- ---- the walk alone

-- k names are walked, up to a place
pub record Walking (bytes : List ℕ) (count k end : ℕ) : Type 0 where
  pub walked : Walked bytes count k end
  pub end_is : end ≡ names_offset bytes + names_length k (drop (names_offset bytes) bytes)

pub walking_begun : (bytes : List ℕ) (count : ℕ) → Walking bytes count 0 (names_offset bytes)
walking_begun bytes count = record { walked = walk_begun bytes count; end_is = omega arith }

pub name_whole : (bytes : List ℕ) (count k end : ℕ) → k < count → names_offset bytes + names_length count (drop (names_offset bytes) bytes) ≤ length bytes → Walking bytes count k end →
    end + 1 + slice_index bytes end ≤ length bytes
name_whole bytes count k end below fits s =
    let e : count - k ≡ suc (count - (k + 1)) = omega arith in
    let head = head_at bytes end in
    let one : names_length (count - k) (drop end bytes) ≡ names_length (suc (count - (k + 1))) (drop end bytes) = ap (λ m. names_length m (drop end bytes)) e in
    omega (arith, s.walked.same, head, one)

-- the next name joins those read
pub name_read : (bytes : List ℕ) (count k end : ℕ) → Walking bytes count k end → names (k + 1) (drop (names_offset bytes) bytes) ≡ names k (drop (names_offset bytes) bytes) ++ name_there bytes end ∷ []
name_read bytes count k end s =
    let xs = drop (names_offset bytes) bytes in
    let before = names k xs in
    let b = slice_index bytes end in
    let next : k + 1 ≡ suc k = omega arith in
    let here : drop (names_length k xs) xs ≡ drop end bytes = drop-drop (names_length k xs) (names_offset bytes) bytes ∙ ap (λ n. drop n bytes) (sym s.end_is) in
    ap (λ n. names n xs) next ∙ names_more k xs
    ∙ ap (λ zs. before ++ (take (slice_index zs 0) (drop 1 zs) ∷ [])) here
    ∙ ap (λ h. before ++ (take h (drop 1 (drop end bytes)) ∷ [])) (head_at bytes end)
    ∙ ap (λ zs. before ++ (take b zs ∷ [])) (drop-drop 1 end bytes)

-- and the walk goes on behind it
pub walking_on : (bytes : List ℕ) (count k end : ℕ) → k < count → slice_index bytes end < 256 → end + 1 + slice_index bytes end ≤ length bytes → Walking bytes count k end →
    Walking bytes count (k + 1) (end + (1 + length (name_there bytes end)))
walking_on bytes count k end below few inside s =
    let xs = drop (names_offset bytes) bytes in
    let b = slice_index bytes end in
    let long : length (name_there bytes end) ≡ b = length-take-le b (drop (end + 1) bytes) (omega (arith, length-drop (end + 1) bytes)) in
    let next : k + 1 ≡ suc k = omega arith in
    let here : drop (names_length k xs) xs ≡ drop end bytes = drop-drop (names_length k xs) (names_offset bytes) bytes ∙ ap (λ n. drop n bytes) (sym s.end_is) in
    let head : slice_index (drop (names_length k xs) xs) 0 ≡ b = ap (λ zs. slice_index zs 0) here ∙ head_at bytes end in
    let lengths = lengths_more k xs in
    let counted : names_length (k + 1) xs ≡ names_length (suc k) xs = ap (λ n. names_length n xs) next in
    record {
      walked = walk_on bytes count k end (length (name_there bytes end)) below long (omega (arith, long)) s.walked;
      end_is = omega (arith, s.end_is, lengths, counted, head, long);
    }
