-- What it is that one access follows another: its operation is reached with their delay.
use Rattle.std.proofs.Common.{◌≡◌, ℕ, ◌+◌, ◌≤◌, Bool, true, false, cond, ◌&&◌, refl, sym, subst, arith, Option}
use Rattle.std.specs.Prelude.{ℤ, pos, ◌+ℤ◌, ◌-ℤ◌}
use Rattle.std.proofs.lemmas.Int.{ints}
use Rattle.dependences.specs.declared.footprint.Role.TheVariants as role
use Rattle.dependences.specs.declared.access.Usage.{Usage}
use Rattle.dependences.specs.declared.access.Usage.TheVariants.{Read, Write}
use Rattle.dependences.specs.Accesses.{are_stores}
use Rattle.dependences.proofs.Reach.{Reach, then, at_least_of}

-- ---- delays between accesses

-- how many cycles after its issue an operation does so, where its writes land after so many
abbrev pub after : ℕ → Usage → ℕ
after latency Read = 0
after latency (Write r) = latency

abbrev pub writes_too : Usage → ℕ
writes_too Read = 0
writes_too (Write r) = 1

-- a write lands behind what came before it, but for a store behind a store
abbrev pub extra : Usage → Usage → ℕ
extra u v = cond (are_stores u v) 0 (writes_too v)

-- the delay of the first access before the second
abbrev pub gap : (la lb : ℕ) → Usage → Usage → ℤ
gap la lb u v = (pos (after la u) -ℤ pos (after lb v)) +ℤ pos (extra u v)

abbrev stores_too : Usage → Bool
stores_too (Write role.Store) = true
stores_too _ = false

both_store : (u v : Usage) → are_stores u v ≡ (stores_too u && stores_too v)
both_store Read v = refl
both_store (Write role.Plain) v = refl
both_store (Write role.One) v = refl
both_store (Write role.Zero) v = refl
both_store (Write role.Store) Read = refl
both_store (Write role.Store) (Write role.Plain) = refl
both_store (Write role.Store) (Write role.One) = refl
both_store (Write role.Store) (Write role.Zero) = refl
both_store (Write role.Store) (Write role.Store) = refl

through_either : (a b c : Bool) (x y : ℕ) → (b ≡ true → x ≡ 1) → y ≤ 1 → cond (a && c) 0 y ≤ cond (a && b) 0 x + cond (b && c) 0 y
through_either true true true x y e le = omega arith
through_either true true false x y e le = omega arith
through_either true false true x y e le = omega arith
through_either true false false x y e le = omega arith
through_either false true true x y e le = let one = e refl in omega arith
through_either false true false x y e le = omega arith
through_either false false true x y e le = omega arith
through_either false false false x y e le = omega arith

store_writes : (u : Usage) → stores_too u ≡ true → writes_too u ≡ 1
store_writes Read h = absurd (let k : ⊥ = cc in k)
store_writes (Write r) h = refl

writes_once : (u : Usage) → writes_too u ≤ 1
writes_once Read = omega arith
writes_once (Write r) = omega arith

-- what is extra from one access to a third is so from the first to the second or from that to the third
through : (u v w : Usage) → extra u w ≤ extra u v + extra v w
through u v w =
    rw (both_store u w, both_store u v, both_store v w)
    (through_either (stores_too u) (stores_too v) (stores_too w) (writes_too v) (writes_too w) (store_writes v) (writes_once w))

pub extra_once : (u v : Usage) → extra u v ≤ 1
extra_once u v = go (are_stores u v) (writes_too v) (writes_once v)
  where
    go : (b : Bool) (y : ℕ) → y ≤ 1 → cond b 0 y ≤ 1
    go true y le = omega arith
    go false y le = le

pub extra_is : (u v : Usage) → are_stores u v ≡ false → extra u v ≡ writes_too v
extra_is u v s = rw s refl

-- ---- what follows

-- two accesses are one operation's and the same, or the second's is reached from the first's with their delay
pub data Follows (along : ℕ → ℕ → Option ℤ) (lats : ℕ → ℕ) (i : ℕ) (u : Usage) (j : ℕ) (v : Usage) : Type 0 where
  Same : i ≡ j → u ≡ v → Follows along lats i u j v
  Later : Reach along i j (gap (lats i) (lats j) u v) → Follows along lats i u j v

module _ (along : ℕ → ℕ → Option ℤ) (lats : ℕ → ℕ) where
  pub on : (i k j : ℕ) (u v w : Usage) → Follows along lats i u k v → Follows along lats k v j w → Follows along lats i u j w
  on i k j u v w (Same e f) h = subst (λ x. Follows along lats x u j w) (sym e) (subst (λ x. Follows along lats k x j w) (sym f) h)
  on i k j u v w h (Same e f) = subst (λ x. Follows along lats i u x w) e (subst (λ x. Follows along lats i u k x) f h)
  on i k j u v w (Later r) (Later s) =
      let c = gap (lats i) (lats k) u v in
      let d = gap (lats k) (lats j) v w in
      let more = through u v w in
      Later (at_least_of along i j (gap (lats i) (lats j) u w) (c +ℤ d) (omega (arith, ints)) (then along i k j c d r s))
