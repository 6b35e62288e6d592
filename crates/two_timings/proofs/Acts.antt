-- What an operation does depends on what it reads.
use Rattle.timed_meaning.specs.declared.Cell.{Cell}
use Rattle.timed_meaning.specs.declared.Cell.TheVariants.{At, Byte}
use Rattle.std.proofs.Common.{◌≡◌, ℕ, zero, suc, ◌+◌, ◌*◌, Bool, true, false, cond, ◌||◌, [], refl, sym, ap, subst, ◌∙◌, Option, Some, None}
use Rattle.std.specs.Prelude.{◌%◌}
use Rattle.std.proofs.lemmas.Bool.{or_right}
use Rattle.operation.specs.declared.Op.{Op}
use Rattle.operation.specs.declared.Op.TheVariants as op
use Rattle.operation.specs.declared.Guarded.{Guarded}
use Rattle.operation.specs.declared.Operands.{Operands}
use Rattle.operation.specs.declared.Family.{Family}
use Rattle.operation.specs.declared.Place.{Place}
use Rattle.operation.specs.declared.Place.TheVariants.{General, Predicate, Target, Memory}
use Rattle.operation.specs.declared.Effect.{Effect}
use Rattle.operation.specs.declared.Effect.TheVariants as effects
use Rattle.operation.specs.declared.TrapKind.TheVariants.{OutputFull}
use Rattle.operation.specs.Arithmetic.{bytes_of, extended}
use Rattle.operation.specs.Places.{sources, is_source, reads, writes, is_constant, same_place, is_load, is_inb, is_outb, is_branch, can_trap, wired, are_wired_together}
use Rattle.operation.proofs.PlaceLaws.{same_place_refl, reads_at, load_reads}
use Rattle.operation.specs.Effects.{does, effect, is_compare}
use Rattle.timed_meaning.specs.Values.{is_set}
use Rattle.timed_meaning.specs.Block.{Act, idle, act_of, operands, operand, to_place, number_at}
use Rattle.two_timings.proofs.Effects.{Suits, suits_effect, own, place_of, effect_written, effect_put, effect_taken, effect_answer, effect_trap, family_value, wired_value, one_family}

-- ---- acts

-- what the operation may do
pub record IsActOf (g : Guarded) (a : Act) : Type 0 where
  pub value : Cell → ℕ
  pub byte : Option ℕ
  pub next : Option ℕ
  pub operands : Operands
  pub is : a ≡ act_of g.op value byte next (effect g operands)

module _ (g : Guarded) (a : Act) (i : IsActOf g a) where
  by_effect : (P : Act → Type 0) → ((e : Effect) → Suits g.op e → P (act_of g.op i.value i.byte i.next e)) → P a
  by_effect P f = subst P (sym i.is) (f (effect g i.operands) (suits_effect g i.operands))

  pub act_written : (x : Cell) (u : ℕ) → own x a.values ≡ Some u → writes g.op (place_of x) ≡ true
  act_written x u = by_effect (λ c. own x c.values ≡ Some u → writes g.op (place_of x) ≡ true) (λ e. effect_written g.op i.value i.byte i.next e x u)

  pub act_put : is_outb g.op ≡ false → a.put ≡ []
  act_put h = by_effect (λ c. c.put ≡ []) (λ e s. effect_put g.op i.value i.byte i.next e s h)

  pub act_taken : is_inb g.op ≡ false → a.taken ≡ 0
  act_taken h = by_effect (λ c. c.taken ≡ 0) (λ e s. effect_taken g.op i.value i.byte i.next e s h)

  pub act_answer : is_branch g.op ≡ false → a.answer ≡ None
  act_answer h = by_effect (λ c. c.answer ≡ None) (λ e s. effect_answer g.op i.value i.byte i.next e s h)

  pub act_trap : can_trap g.op ≡ false → a.trap ≡ None
  act_trap h = by_effect (λ c. c.trap ≡ None) (λ e s. effect_trap g.op i.value i.byte i.next e s h)

  act_wired : (p u : ℕ) (f : Family) → wired g.op p ≡ Some f → own (At (Predicate p)) a.values ≡ Some u → u ≡ family_value f
  act_wired p u f w h = wired_value g.op i.operands i.value i.byte i.next p u f w (subst (λ c. own (At (Predicate p)) c.values ≡ Some u) i.is h)

-- two operations of one wired family leave one value
pub acts_together :
    (g h : Guarded) (a b : Act) → IsActOf g a → IsActOf h b → (x : Cell) (u v : ℕ) →
    are_wired_together g.op h.op (place_of x) ≡ true → own x a.values ≡ Some u → own x b.values ≡ Some v → u ≡ v
acts_together g h a b i j (At (Predicate p)) u v w s t =
    let f = one_family (wired g.op p) (wired h.op p) w in
    act_wired g a i p u f.0 f.1 s ∙ sym (act_wired h b j p v f.0 f.2 t)
acts_together g h a b i j x u v w s t = cc

pub outb_traps : (o : Op) → is_outb o ≡ true → can_trap o ≡ true
outb_traps (op.Outb s) h = refl
outb_traps o h = cc

pub no_trap_no_outb : (o : Op) → can_trap o ≡ false → is_outb o ≡ false
no_trap_no_outb (op.Outb s) h = cc
no_trap_no_outb o h = refl

-- ---- what an operation does depends on what it reads

number_same :
    (v w : Cell → ℕ) → ((a : ℕ) → v (Byte a) ≡ w (Byte a)) → (address n : ℕ) → number_at v address n ≡ number_at w address n
number_same v w same address zero = refl
number_same v w same address (suc n) =
    ap (λ b. b % 256 + 256 * number_at v (address + 1) n) (same address) ∙ ap (λ m. w (Byte address) % 256 + 256 * m) (number_same v w same (address + 1) n)

does_full : (o : Op) (v : Operands) (full : Bool) → (is_outb o ≡ true → v.full ≡ full) → does o v ≡ does o (record v { full = full })
does_full (op.Outb s) v full h =
    ap (λ f. cond f (effects.Trapped (record { kind = OutputFull; detail = v.first % 256 })) (effects.Put (v.first % 256))) (h refl)
does_full o v full h = refl

-- operands by the values that they are taken from
abbrev operands_of : (memory : ℕ) (full : Bool) (a b c d e : ℕ) → Operands
operands_of memory full a b c d e =
    record { guard = is_set a; first = b; second = c; target = d; test = is_set e; memory = memory; full = full }

same_operands :
    (memory : ℕ) (full : Bool) (a a' b b' c c' d d' e e' : ℕ) → a ≡ a' → b ≡ b' → c ≡ c' → d ≡ d' → e ≡ e' →
    operands_of memory full a b c d e ≡ operands_of memory full a' b' c' d' e'
same_operands memory full a a' b b' c c' d d' e e' p q r s t = cc

-- two maps of values that are equal at what an operation reads, and at r0 and p0
module _
    (g : Guarded) (v w : Cell → ℕ)
    (zero_same : v (At (General zero)) ≡ w (At (General zero)))
    (true_same : v (At (Predicate zero)) ≡ w (At (Predicate zero)))
    (agree : (x : Cell) → reads g (place_of x) ≡ true → v x ≡ w x) where
  place_same : (x : Place) → (is_constant x ≡ false → reads g x ≡ true) → v (At x) ≡ w (At x)
  place_same (General zero) h = zero_same
  place_same (General (suc n)) h = agree (At (General (suc n))) (h refl)
  place_same (Predicate zero) h = true_same
  place_same (Predicate (suc n)) h = agree (At (Predicate (suc n))) (h refl)
  place_same (Target n) h = agree (At (Target n)) (h refl)
  place_same Memory h = agree (At Memory) (h refl)

  guard_same : v (At (Predicate g.guard)) ≡ w (At (Predicate g.guard))
  guard_same = place_same (Predicate g.guard) (λ c. reads_at g (Predicate g.guard) c (rw (same_place_refl (Predicate g.guard))))

  first_same : (o : Option ℕ) → (sources g.op).first ≡ o → operand General v o ≡ operand General w o
  first_same None e = refl
  first_same (Some n) e = place_same (General n) (λ c. reads_at g (General n) c (rw (e, same_place_refl (General n))))

  second_same : (o : Option ℕ) → (sources g.op).second ≡ o → operand General v o ≡ operand General w o
  second_same None e = refl
  second_same (Some n) e = place_same (General n) (λ c. reads_at g (General n) c (rw (e, same_place_refl (General n)) (or_right (is_source General (sources g.op).first (General n)) true refl)))

  target_same : (o : Option ℕ) → (sources g.op).target ≡ o → operand Target v o ≡ operand Target w o
  target_same None e = refl
  target_same (Some n) e = place_same (Target n) (λ c. reads_at g (Target n) c (rw (e, same_place_refl (Target n))))

  test_same : (o : Option ℕ) → (sources g.op).test ≡ o → operand Predicate v o ≡ operand Predicate w o
  test_same None e = refl
  test_same (Some n) e = place_same (Predicate n) (λ c. reads_at g (Predicate n) c (rw (e, same_place_refl (Predicate n)) (or_right (same_place (Predicate n) (Predicate g.guard)) true refl)))

  operands_same : (memory : ℕ) (full : Bool) → operands g v memory full ≡ operands g w memory full
  operands_same memory full =
      let a = guard_same in
      let b = first_same (sources g.op).first refl in
      let c = second_same (sources g.op).second refl in
      let d = target_same (sources g.op).target refl in
      let e = test_same (sources g.op).test refl in
      same_operands memory full _ _ _ _ _ _ _ _ _ _ a b c d e

  memory_same : is_load g.op ≡ true → (a : ℕ) → v (Byte a) ≡ w (Byte a)
  memory_same h a = agree (Byte a) (load_reads g.op h)

  act_same :
      (e : Effect) (byte byte' next : Option ℕ) → Suits g.op e → (is_inb g.op ≡ true → byte ≡ byte') →
      act_of g.op v byte next e ≡ act_of g.op w byte' next e
  act_same (effects.Load d address size) byte byte' next s b = ap (λ n. record idle { values = to_place (General d) (extended size n) }) (number_same v w (memory_same s.0) address (bytes_of size))
  act_same (effects.Take d) byte byte' next s b = ap (λ c. act_of g.op v c next (effects.Take d)) (b s.0)
  act_same e byte byte' next s b = refl

  pub act_local :
      (memory : ℕ) (full full' : Bool) (byte byte' next : Option ℕ) → (is_outb g.op ≡ true → full ≡ full') →
      (is_inb g.op ≡ true → byte ≡ byte') →
      act_of g.op v byte next (effect g (operands g v memory full)) ≡ act_of g.op w byte' next (effect g (operands g w memory full'))
  act_local memory full full' byte byte' next f b =
      let u = operands g w memory full in
      ap (λ e. act_of g.op v byte next (effect g e)) (operands_same memory full)
      ∙ ap (λ e. act_of g.op v byte next (cond (u.guard || is_compare g.op) e effects.Nothing)) (does_full g.op u full' f)
      ∙ act_same (effect g (operands g w memory full')) byte byte' next (suits_effect g (operands g w memory full')) b
