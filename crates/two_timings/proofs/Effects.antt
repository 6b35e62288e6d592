-- What an operation's effect adds: values only where it writes, and output, input, answers and traps by its kind.
use Rattle.timed_meaning.specs.declared.Cell.{Cell}
use Rattle.timed_meaning.specs.declared.Cell.TheVariants.{At, Byte}
use Rattle.std.proofs.Common.{◌≡◌, ℕ, zero, suc, ◌+◌, Bool, true, false, cond, ◌||◌, List, [], ◌∷◌, ◌++◌, ◌⊎◌, inl, inr, refl, subst, ◌∙◌, Option, Some, None}
use Rattle.std.specs.Prelude.{nat_eq, nat_lt, ◌%◌}
use Rattle.operation.specs.declared.Op.{Op}
use Rattle.operation.specs.declared.Op.TheVariants as op
use Rattle.operation.specs.declared.Guarded.{Guarded}
use Rattle.operation.specs.declared.Operands.{Operands}
use Rattle.operation.specs.declared.Dest.{Dest}
use Rattle.operation.specs.declared.Action.{Action}
use Rattle.operation.specs.declared.Action.TheVariants.{Un, Uc, On, Oc, An, Ac}
use Rattle.operation.specs.declared.Family.{Family}
use Rattle.operation.specs.declared.Family.TheVariants.{One, Zero}
use Rattle.operation.specs.declared.Place.{Place}
use Rattle.operation.specs.declared.Place.TheVariants.{General, Predicate, Target, Memory}
use Rattle.operation.specs.declared.Effect.{Effect}
use Rattle.operation.specs.declared.Effect.TheVariants as effects
use Rattle.operation.specs.declared.TrapKind.TheVariants.{OutOfRange, Misaligned, DivideByZero, OutputFull}
use Rattle.operation.specs.declared.Size.{Size}
use Rattle.operation.specs.Arithmetic.{compare, unsigned, bytes_of, wrap, quotient, remainder}
use Rattle.operation.specs.Places.{destinations, writes, is_among, is_constant, same_place, is_load, is_inb, is_outb, is_branch, can_trap, wired, wired_on, wired_by, same_family, family}
use Rattle.operation.proofs.PlaceLaws.{same_place_is, among_head, among_next, writes_at}
use Rattle.operation.specs.Effects.{does, effect, written, is_compare, access, divided}
use Rattle.timed_meaning.specs.Values.{same_cell, bit}
use Rattle.timed_meaning.specs.Block.{act_of, to_place, to_predicate, to_predicates, bytes_at}

-- ---- which effects an operation has

-- the effect is of a kind that the operation may have, at its destinations
abbrev pub Suits : Op → Effect → Type 0
Suits o effects.Nothing = Unit {0}
Suits o (effects.General d v) = is_among (General d) (destinations o) ≡ true
Suits o (effects.Predicates x y) = Unit {0}
Suits o (effects.Target d v) = is_among (Target d) (destinations o) ≡ true
Suits o (effects.Load d address size) = (is_load o ≡ true) × (is_among (General d) (destinations o) ≡ true)
Suits o (effects.Store address size v) = is_among Memory (destinations o) ≡ true
Suits o (effects.Take d) = (is_inb o ≡ true) × (is_among (General d) (destinations o) ≡ true)
Suits o (effects.Put v) = is_outb o ≡ true
Suits o (effects.Trapped t) = can_trap o ≡ true
Suits o (effects.Jump t) = is_branch o ≡ true
Suits o (effects.Link d t) = (is_branch o ≡ true) × (is_among (Target d) (destinations o) ≡ true)
Suits o (effects.Halt code) = is_branch o ≡ true

suits_if : (o : Op) (b : Bool) (e f : Effect) → Suits o e → Suits o f → Suits o (cond b e f)
suits_if o true e f h k = h
suits_if o false e f h k = k

suits_access :
    (o : Op) (size : Size) (address memory : ℕ) (e : Effect) → can_trap o ≡ true → Suits o e →
    Suits o (access size address memory e)
suits_access o size address memory e t h =
    let outside = effects.Trapped (record { kind = OutOfRange; detail = address }) in
    let apart = effects.Trapped (record { kind = Misaligned; detail = address }) in
    let fits = nat_lt memory (address + bytes_of size) in
    suits_if o (nat_eq (address % bytes_of size) 0) (cond fits outside e) apart (suits_if o fits outside e t h) t

suits_divided : (o : Op) (a b : ℕ) (e : Effect) → can_trap o ≡ true → Suits o e → Suits o (divided a b e)
suits_divided o a b e t h = suits_if o (nat_eq b 0) (effects.Trapped (record { kind = DivideByZero; detail = a })) e t h

suits_load : (size : Size) (d s imm address : ℕ) → Suits (op.Load size d s imm) (effects.Load d address size)
suits_load size d s imm address = (refl, among_head (General d) [])

suits_does : (o : Op) (v : Operands) → Suits o (does o v)
suits_does (op.Alu k d s t) v = among_head (General d) []
suits_does (op.AluImm k d s imm) v = among_head (General d) []
suits_does (op.Pbr d imm) v = among_head (Target d) []
suits_does (op.Mvb d s) v = among_head (Target d) []
suits_does (op.Mvr d s) v = among_head (General d) []
suits_does (op.Mul d s t) v = among_head (General d) []
suits_does (op.Div d s t) v = suits_divided (op.Div d s t) v.first v.second (effects.General d (quotient v.first v.second)) refl (among_head (General d) [])
suits_does (op.Rem d s t) v = suits_divided (op.Rem d s t) v.first v.second (effects.General d (remainder v.first v.second)) refl (among_head (General d) [])
suits_does (op.Load size d s imm) v =
    let address = wrap (v.first + imm) in
    suits_access (op.Load size d s imm) size address v.memory (effects.Load d address size) refl (suits_load size d s imm address)
suits_does (op.Store size d s imm) v =
    let address = wrap (v.first + imm) in
    suits_access (op.Store size d s imm) size address v.memory (effects.Store address size v.second) refl refl
suits_does (op.Inb d) v = (refl, among_head (General d) [])
suits_does (op.Outb s) v = suits_if (op.Outb s) v.full (effects.Trapped (record { kind = OutputFull; detail = v.first % 256 })) (effects.Put (v.first % 256)) refl refl
suits_does (op.Cmp test a b s t) v = tt
suits_does (op.CmpImm test a b s imm) v = tt
suits_does (op.Bru s) v = refl
suits_does (op.Brct s d) v = suits_if (op.Brct s d) v.test (effects.Jump v.target) effects.Nothing refl tt
suits_does (op.Brcf s d) v = suits_if (op.Brcf s d) v.test effects.Nothing (effects.Jump v.target) tt refl
suits_does (op.Brl d s) v = (refl, among_head (Target d) [])
suits_does (op.Halt s) v = refl

pub suits_effect : (g : Guarded) (v : Operands) → Suits g.op (effect g v)
suits_effect g v = suits_if g.op (v.guard || is_compare g.op) (does g.op v) effects.Nothing (suits_does g.op v) tt

-- ---- the value that a list of values gives a cell

-- the first one's value stands
abbrev pub own : Cell → List (Cell × ℕ) → Option ℕ
own x [] = None
own x (v ∷ vs) = cond (same_cell x v.0) (Some v.1) (own x vs)

-- the place that a cell belongs to
abbrev pub place_of : Cell → Place
place_of (At x) = x
place_of (Byte a) = Memory

own_append :
    (x : Cell) (vs ws : List (Cell × ℕ)) (u : ℕ) → own x (vs ++ ws) ≡ Some u → (own x vs ≡ Some u) ⊎ (own x ws ≡ Some u)
own_append x [] ws u h = inr h
own_append x (v ∷ vs) ws u h =
    (elim (same_cell x v.0) as (λ b. cond b (Some v.1) (own x (vs ++ ws)) ≡ Some u → (cond b (Some v.1) (own x vs) ≡ Some u) ⊎ (own x ws ≡ Some u)) [
      | true ↦ λ e. inl e
      | false ↦ λ e. own_append x vs ws u e
    ]) h

place_written :
    (o : Op) (x : Cell) (p : Place) (v u : ℕ) → is_among p (destinations o) ≡ true → own x (to_place p v) ≡ Some u →
    writes o (place_of x) ≡ true
place_written o x p v u a h = by_constant (is_constant p) refl h
  where
    at :
        (y : Cell) → is_constant p ≡ false → cond (same_cell y (At p)) (Some v) None ≡ Some u → writes o (place_of y) ≡ true
    at (At q) c e =
        (elim (same_place q p) as (λ b. same_place q p ≡ b → cond b (Some v) None ≡ Some u → writes o q ≡ true) [
          | true ↦ λ s _. rw (same_place_is q p s) (writes_at o p c a)
          | false ↦ λ s f. cc
        ]) refl e
    at (Byte b) c e = cc

    by_constant :
        (b : Bool) → is_constant p ≡ b → own x (cond b [] ((At p, v) ∷ [])) ≡ Some u → writes o (place_of x) ≡ true
    by_constant true c e = cc
    by_constant false c e = at x c e

bytes_written : (x : Cell) (n address v u : ℕ) → own x (bytes_at address n v) ≡ Some u → place_of x ≡ Memory
bytes_written (At p) zero address v u h = cc
bytes_written (At p) (suc n) address v u h = bytes_written (At p) n (address + 1) _ u h
bytes_written (Byte a) n address v u h = refl

predicate_written :
    (o : Op) (x : Cell) (p : ℕ) (y : Option Bool) (u : ℕ) → is_among (Predicate p) (destinations o) ≡ true →
    own x (to_predicate p y) ≡ Some u → writes o (place_of x) ≡ true
predicate_written o x p None u a h = cc
predicate_written o x p (Some b) u a h = place_written o x (Predicate p) (bit b) u a h

both_written :
    (o : Op) (x : Cell) (p q : ℕ) (y z : Option Bool) (u : ℕ) → is_among (Predicate p) (destinations o) ≡ true →
    is_among (Predicate q) (destinations o) ≡ true → own x (to_predicate q z ++ to_predicate p y) ≡ Some u →
    writes o (place_of x) ≡ true
both_written o x p q y z u a b h = elim (own_append x (to_predicate q z) (to_predicate p y) u h) [
  | inl e ↦ predicate_written o x q z u b e
  | inr e ↦ predicate_written o x p y u a e
]

predicates_written :
    (o : Op) (x : Cell) (y z : Option Bool) (u : ℕ) → own x (to_predicates o y z) ≡ Some u → writes o (place_of x) ≡ true
predicates_written (op.Cmp test a b s t) x y z u h =
    both_written (op.Cmp test a b s t) x a.p b.p y z u (among_head (Predicate a.p) (Predicate b.p ∷ [])) (among_next (Predicate b.p) (Predicate a.p) (Predicate b.p ∷ []) (among_head (Predicate b.p) [])) h
predicates_written (op.CmpImm test a b s imm) x y z u h =
    both_written (op.CmpImm test a b s imm) x a.p b.p y z u (among_head (Predicate a.p) (Predicate b.p ∷ [])) (among_next (Predicate b.p) (Predicate a.p) (Predicate b.p ∷ []) (among_head (Predicate b.p) [])) h
predicates_written o x y z u h = cc

-- ---- what an effect adds

module _ (o : Op) (value : Cell → ℕ) (byte next : Option ℕ) where
  -- values only where the operation writes
  pub effect_written :
      (e : Effect) (x : Cell) (u : ℕ) → Suits o e → own x (act_of o value byte next e).values ≡ Some u →
      writes o (place_of x) ≡ true
  effect_written (effects.General d v) x u s h = place_written o x (General d) v u s h
  effect_written (effects.Predicates y z) x u s h = predicates_written o x y z u h
  effect_written (effects.Target d v) x u s h = place_written o x (Target d) v u s h
  effect_written (effects.Load d address size) x u s h = place_written o x (General d) _ u s.1 h
  effect_written (effects.Store address size v) x u s h = rw (bytes_written x (bytes_of size) address v u h) s
  effect_written (effects.Take d) x u s h = place_written o x (General d) _ u s.1 h
  effect_written (effects.Link d t) x u s h = place_written o x (Target d) _ u s.1 h
  effect_written e x u s h = cc

  -- output, input, answers and traps only by operations of these kinds
  pub effect_put : (e : Effect) → Suits o e → is_outb o ≡ false → (act_of o value byte next e).put ≡ []
  effect_put (effects.Put v) s h = cc
  effect_put e s h = refl

  pub effect_taken : (e : Effect) → Suits o e → is_inb o ≡ false → (act_of o value byte next e).taken ≡ 0
  effect_taken (effects.Take d) s h = cc
  effect_taken e s h = refl

  pub effect_answer : (e : Effect) → Suits o e → is_branch o ≡ false → (act_of o value byte next e).answer ≡ None
  effect_answer (effects.Jump t) s h = cc
  effect_answer (effects.Link d t) s h = cc
  effect_answer (effects.Halt code) s h = cc
  effect_answer e s h = refl

  pub effect_trap : (e : Effect) → Suits o e → can_trap o ≡ false → (act_of o value byte next e).trap ≡ None
  effect_trap (effects.Trapped t) s h = cc
  effect_trap e s h = refl

-- ---- wired families

abbrev pub family_value : Family → ℕ
family_value One = 1
family_value Zero = 0

written_value :
    (a : Action) (guard c b : Bool) (f : Family) → written a guard c ≡ Some b → family a ≡ Some f → bit b ≡ family_value f
written_value Un guard c b f h k = cc
written_value Uc guard c b f h k = cc
written_value On true true b f h k = cc
written_value On true false b f h k = cc
written_value On false c b f h k = cc
written_value Oc true false b f h k = cc
written_value Oc true true b f h k = cc
written_value Oc false c b f h k = cc
written_value An true false b f h k = cc
written_value An true true b f h k = cc
written_value An false c b f h k = cc
written_value Ac true true b f h k = cc
written_value Ac true false b f h k = cc
written_value Ac false c b f h k = cc

own_predicate :
    (p q : ℕ) (y : Option Bool) (u : ℕ) → own (At (Predicate p)) (to_predicate q y) ≡ Some u →
    (nat_eq p q ≡ true) × ((b : Bool) × (y ≡ Some b) × (u ≡ bit b))
own_predicate p q None u h = cc
own_predicate p zero (Some b) u h = cc
own_predicate p (suc q) (Some b) u h = go (nat_eq p (suc q)) refl h
  where
    go :
        (t : Bool) → nat_eq p (suc q) ≡ t → cond t (Some (bit b)) None ≡ Some u →
        (nat_eq p (suc q) ≡ true) × ((c : Bool) × (Some b ≡ Some c) × (u ≡ bit c))
    go true e k = (e, (b, refl, cc))
    go false e k = cc

wired_second : (s : Bool) (fa fb : Option Family) (f : Family) → wired_by s true fa fb ≡ Some f → fb ≡ Some f
wired_second true (Some One) (Some One) f h = h
wired_second true (Some Zero) (Some Zero) f h = h
wired_second true fa fb f h = cc
wired_second false fa fb f h = h

wired_first : (s : Bool) (fa fb : Option Family) (f : Family) → wired_by true s fa fb ≡ Some f → fa ≡ Some f
wired_first true (Some One) (Some One) f h = h
wired_first true (Some Zero) (Some Zero) f h = h
wired_first true fa fb f h = cc
wired_first false fa fb f h = h

pair_value :
    (a b : Dest) (guard c : Bool) (p u : ℕ) (f : Family) → wired_on a b p ≡ Some f →
    own (At (Predicate p)) (to_predicate b.p (written b.action guard c) ++ to_predicate a.p (written a.action guard c)) ≡ Some u →
    u ≡ family_value f
pair_value a b guard c p u f w h = elim (own_append (At (Predicate p)) (to_predicate b.p (written b.action guard c)) (to_predicate a.p (written a.action guard c)) u h) [
  | inl e ↦
      let r = own_predicate p b.p (written b.action guard c) u e in
      r.1.2 ∙ written_value b.action guard c r.1.0 f r.1.1 (wired_second (nat_eq p a.p) (family a.action) (family b.action) f (subst (λ t. wired_by (nat_eq p a.p) t (family a.action) (family b.action) ≡ Some f) r.0 w))
  | inr e ↦
      let r = own_predicate p a.p (written a.action guard c) u e in
      r.1.2 ∙ written_value a.action guard c r.1.0 f r.1.1 (wired_first (nat_eq p b.p) (family a.action) (family b.action) f (subst (λ t. wired_by t (nat_eq p b.p) (family a.action) (family b.action) ≡ Some f) r.0 w))
]

pub wired_value :
    (o : Op) (v : Operands) (value : Cell → ℕ) (byte next : Option ℕ) (p u : ℕ) (f : Family) → wired o p ≡ Some f →
    own (At (Predicate p)) (act_of o value byte next (cond (v.guard || is_compare o) (does o v) effects.Nothing)).values ≡ Some u →
    u ≡ family_value f
wired_value o v value byte next zero u f w h = cc
wired_value (op.Cmp test a b s t) v value byte next (suc p) u f w h =
    (elim v.guard as (λ g. own (At (Predicate (suc p))) (act_of (op.Cmp test a b s t) value byte next (cond (g || true) (does (op.Cmp test a b s t) v) effects.Nothing)).values ≡ Some u → u ≡ family_value f) [
      | true ↦ pair_value a b v.guard (compare test v.first v.second) (suc p) u f w
      | false ↦ pair_value a b v.guard (compare test v.first v.second) (suc p) u f w
    ]) h
wired_value (op.CmpImm test a b s imm) v value byte next (suc p) u f w h =
    (elim v.guard as (λ g. own (At (Predicate (suc p))) (act_of (op.CmpImm test a b s imm) value byte next (cond (g || true) (does (op.CmpImm test a b s imm) v) effects.Nothing)).values ≡ Some u → u ≡ family_value f) [
      | true ↦ pair_value a b v.guard (compare test v.first (unsigned imm)) (suc p) u f w
      | false ↦ pair_value a b v.guard (compare test v.first (unsigned imm)) (suc p) u f w
    ]) h
wired_value o v value byte next (suc p) u f w h = cc

pub one_family : (f g : Option Family) → same_family f g ≡ true → (h : Family) × (f ≡ Some h) × (g ≡ Some h)
one_family (Some One) (Some One) e = (One, refl, refl)
one_family (Some Zero) (Some Zero) e = (Zero, refl, refl)
one_family f g e = absurd (let k : ⊥ = cc in k)
