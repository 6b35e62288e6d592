-- Names that join a set of slices.
use Rattle.std.proofs.Common.{◌≡◌, ℕ, zero, suc, ◌+◌, ◌<◌, ◌≤◌, Bool, true, false, cond, not, ◌||◌, List, [], ◌∷◌, ◌++◌, length, map, Option, Some, None, refl, sym, ap, subst, ◌∙◌, arith, inl, inr, ◌⊎◌, if◌then◌else◌}
use Rattle.std.specs.Prelude.{bytes_eq, nat_lt, All}
use Rattle.std.specs.List.{list_any, position_or_len}
use Rattle.std.proofs.lemmas.Bool.{lt-ltb, le-ltb}
use Rattle.std.proofs.lemmas.List.Elements.{All-push}
use Rattle.std.proofs.lemmas.Slice.Eq.{bytes_eq-Decides}
use denote.Ref.{Bor}
use Rattle.indexmap.specs.IndexSet.{insert_key}
use Rattle.vliw_asm.specs.declared.stop.Cause.{Cause}
use Rattle.vliw_asm.specs.declared.stop.Cause.TheVariants as cause
use Rattle.vliw_asm.specs.Names.{with_name, number_in}
use Rattle.vliw_asm.specs.Gathered.{is_over, refused_name}

-- two slices have the same bytes
abbrev same : Bor (List ℕ) → Bor (List ℕ) → Bool
same x y = bytes_eq x.now y.now

abbrev bytes_of : List (Bor (List ℕ)) → List (List ℕ)
bytes_of keys = map (λ name. name.now) keys

pub among : (name : Bor (List ℕ)) (keys : List (Bor (List ℕ))) → list_any (same name) keys ≡ list_any (bytes_eq name.now) (bytes_of keys)
among name [] = refl
among name (k ∷ keys) = ap (λ b. bytes_eq name.now k.now || b) (among name keys)

placed : (name : Bor (List ℕ)) (keys : List (Bor (List ℕ))) → position_or_len (same name) keys ≡ position_or_len (bytes_eq name.now) (bytes_of keys)
placed name [] = refl
placed name (k ∷ keys) = ap (λ n. cond (not (bytes_eq name.now k.now)) (1 + n) 0) (placed name keys)

pub bytes_behind : (keys : List (Bor (List ℕ))) (name : Bor (List ℕ)) → bytes_of (keys ++ name ∷ []) ≡ bytes_of keys ++ name.now ∷ []
bytes_behind [] name = refl
bytes_behind (k ∷ keys) name = ap (λ l. k.now ∷ l) (bytes_behind keys name)

-- the names of a set behind an insertion
pub joined : (keys : List (Bor (List ℕ))) (name : Bor (List ℕ)) → bytes_of (insert_key same keys name) ≡ with_name (bytes_of keys) name.now
joined keys name =
    go (list_any (same name) keys) (list_any (bytes_eq name.now) (bytes_of keys)) (among name keys)
  where
    go : (b c : Bool) → b ≡ c → bytes_of (if b then keys else keys ++ name ∷ []) ≡ (if c then bytes_of keys else bytes_of keys ++ name.now ∷ [])
    go true true e = refl
    go false false e = bytes_behind keys name
    go true false e = absurd (let no : ⊥ = cc in no)
    go false true e = absurd (let no : ⊥ = cc in no)

-- ---- numbers

same_as_itself : (name : List ℕ) → bytes_eq name name ≡ true
same_as_itself name = (bytes_eq-Decides name name).1 refl

-- a name that is there keeps its number, and one that isn't has that behind them all
number_behind : (name : List ℕ) (known : List (List ℕ)) → number_in (known ++ name ∷ []) name ≡ number_in known name
number_behind name [] = ap (λ b. cond (not b) 1 0) (same_as_itself name)
number_behind name (k ∷ known) = ap (λ n. cond (not (bytes_eq name k)) (1 + n) 0) (number_behind name known)

pub number_joined : (name : List ℕ) (known : List (List ℕ)) → number_in (with_name known name) name ≡ number_in known name
number_joined name known = go (list_any (bytes_eq name) known)
  where
    go : (b : Bool) → number_in (if b then known else known ++ name ∷ []) name ≡ number_in known name
    go true = refl
    go false = number_behind name known

-- the number in a set
pub number_is : (keys : List (Bor (List ℕ))) (name : Bor (List ℕ)) → position_or_len (same name) keys ≡ number_in (with_name (bytes_of keys) name.now) name.now
number_is keys name = placed name keys ∙ sym (number_joined name.now (bytes_of keys))

number_within : (name : List ℕ) (known : List (List ℕ)) → list_any (bytes_eq name) known ≡ true → number_in known name < length known
number_within name [] h = absurd (let no : ⊥ = cc in no)
number_within name (k ∷ known) h = go (bytes_eq name k) h (number_within name known)
  where
    go : (b : Bool) → (b || list_any (bytes_eq name) known) ≡ true → (list_any (bytes_eq name) known ≡ true → number_in known name < length known) →
        cond (not b) (1 + number_in known name) 0 < suc (length known)
    go true e below = omega arith
    go false e below = let n = below e in omega arith

number_past : (name : List ℕ) (known : List (List ℕ)) → list_any (bytes_eq name) known ≡ false → number_in known name ≡ length known
number_past name [] h = refl
number_past name (k ∷ known) h = go (bytes_eq name k) h (number_past name known)
  where
    go : (b : Bool) → (b || list_any (bytes_eq name) known) ≡ false → (list_any (bytes_eq name) known ≡ false → number_in known name ≡ length known) →
        cond (not b) (1 + number_in known name) 0 ≡ suc (length known)
    go true e past = absurd (let no : ⊥ = cc in no)
    go false e past = let n = past e in omega (arith, n)

-- ---- limits

length_behind : (known : List (List ℕ)) (name : List ℕ) → length (known ++ name ∷ []) ≡ suc (length known)
length_behind [] name = refl
length_behind (k ∷ known) name = ap suc (length_behind known name)

-- a name that is there is short
short_there : (name : List ℕ) (known : List (List ℕ)) → All (λ n. length n ≤ 32) known → list_any (bytes_eq name) known ≡ true → length name ≤ 32
short_there name [] all h = absurd (let no : ⊥ = cc in no)
short_there name (k ∷ known) all h = go (bytes_eq name k) refl h (short_there name known (λ i d lt. all (suc i) d (omega arith)))
  where
    go : (b : Bool) → bytes_eq name k ≡ b → (b || list_any (bytes_eq name) known) ≡ true → (list_any (bytes_eq name) known ≡ true → length name ≤ 32) → length name ≤ 32
    go true is e rest = subst (λ n. length n ≤ 32) (sym ((bytes_eq-Decides name k).0 is)) (all 0 k (omega arith))
    go false is e rest = rest e

-- whether one is there, by cases
there_or_not : {P : Type 0} (name : List ℕ) (known : List (List ℕ)) → (list_any (bytes_eq name) known ≡ true → P) → (list_any (bytes_eq name) known ≡ false → P) → P
there_or_not {P} name known here absent = go (list_any (bytes_eq name) known) refl
  where
    go : (b : Bool) → list_any (bytes_eq name) known ≡ b → P
    go true is = here is
    go false is = absent is

with_one_there : (name : List ℕ) (known : List (List ℕ)) → list_any (bytes_eq name) known ≡ true → with_name known name ≡ known
with_one_there name known is = ap (λ (b : Bool). if b then known else known ++ name ∷ []) is

with_one_more : (name : List ℕ) (known : List (List ℕ)) → list_any (bytes_eq name) known ≡ false → with_name known name ≡ known ++ name ∷ []
with_one_more name known is = ap (λ (b : Bool). if b then known else known ++ name ∷ []) is

any_limit : (long many : Bool) → (long ≡ true) ⊎ (many ≡ true) → (long || many) ≡ true
any_limit true many h = refl
any_limit false true h = refl
any_limit false false (inl e) = e
any_limit false false (inr e) = e

module _ (name : List ℕ) (known : List (List ℕ)) (few : length known ≤ 262144) (short : All (λ n. length n ≤ 32) known) where
  by_limit : (b : Bool) → is_over name (with_name known name) ≡ b → refused_name name known ≡ (if b then Some cause.Limit else None)
  by_limit b is = ap (λ (b : Bool). if b then Some cause.Limit else None) is

  many_joined : list_any (bytes_eq name) known ≡ false → length (with_name known name) ≡ suc (length known)
  many_joined is = ap length (with_one_more name known is) ∙ length_behind known name

  -- a name beyond the limits is refused
  pub refused_beyond : (262144 ≤ number_in (with_name known name) name) ⊎ (32 < length name) → refused_name name known ≡ Some cause.Limit
  refused_beyond (inr long) = by_limit true (any_limit _ _ (inl (lt-ltb 32 (length name) long)))
  refused_beyond (inl high) =
      there_or_not name known
      (λ is. absurd (let low = number_within name known is in let same = number_joined name known in omega (arith, low, same, high, few)))
      (λ is. by_limit true (any_limit _ _ (inr (lt-ltb 262144 (length (with_name known name))
      (let past = number_past name known is in let same = number_joined name known in let many = many_joined is in omega (arith, past, same, many, high))))))

  pub few_joined : number_in (with_name known name) name < 262144 → length (with_name known name) ≤ 262144
  few_joined low =
      there_or_not name known
      (λ is. let same = ap length (with_one_there name known is) in omega (arith, same, few))
      (λ is. let past = number_past name known is in let same = number_joined name known in let many = many_joined is in omega (arith, past, same, many, low))

  pub short_joined : length name ≤ 32 → All (λ n. length n ≤ 32) (with_name known name)
  short_joined small =
      there_or_not name known
      (λ is. subst (All (λ n. length n ≤ 32)) (sym (with_one_there name known is)) short)
      (λ is. subst (All (λ n. length n ≤ 32)) (sym (with_one_more name known is)) (All-push (λ n. length n ≤ 32) known name short small))

  -- and no other
  pub none_refused : number_in (with_name known name) name < 262144 → length name ≤ 32 → refused_name name known ≡ None
  none_refused low small = by_limit false (neither (le-ltb 32 (length name) small) (le-ltb 262144 (length (with_name known name)) (few_joined low)))
    where
      neither : nat_lt 32 (length name) ≡ false → nat_lt 262144 (length (with_name known name)) ≡ false → is_over name (with_name known name) ≡ false
      neither a b = ap (λ (x : Bool). x || nat_lt 262144 (length (with_name known name))) a ∙ b
