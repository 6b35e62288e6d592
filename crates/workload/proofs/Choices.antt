-- What is drawn is an operation whose numbers are in range, and which no rule on single operations forbids.
use Rattle.std.proofs.Common.{◌≡◌, ℕ, zero, suc, ◌+◌, ◌*◌, ◌%◌, ◌^◌, ◌<◌, ◌≤◌, Bool, true, false, cond, ◌&&◌, refl, ap, ◌∙◌, arith, lit<}
use Rattle.std.specs.Prelude.{nat_lt, nat_eq}
use Rattle.std.proofs.lemmas.Bool.{and_from, and_left, le-leb, ne_eqb}
use Rattle.operation.specs.declared.AluKind.{AluKind}
use Rattle.operation.specs.declared.AluKind.TheVariants.{Add, Sub, Xor, Shl, And, Or, Shr, Sar, Min, Max}
use Rattle.operation.specs.declared.Test.TheVariants.{Clt}
use Rattle.operation.specs.declared.Size.TheVariants.{Word}
use Rattle.operation.specs.declared.Op.{Op}
use Rattle.operation.specs.declared.Op.TheVariants as op
use Rattle.operation.specs.Places.{is_branch}
use Rattle.operation.specs.Ranges.{is_register, is_op_in_range, is_in_range}
use Rattle.block_table.specs.Rows.{Rows}
use Rattle.list_encoding.specs.declared.opcodes.Mnemonic.TheVariants as mnemonic
use Rattle.list_encoding.specs.Opcodes.{alu_number, opcode_of}
use Rattle.list_encoding.specs.Fields.{fields_of}
use Rattle.list_encoding.proofs.Packing.{Fit}
use Rattle.dependences.specs.Before.{is_at_odds}
use Rattle.latency_deps.specs.Breaks.{prepares_elsewhere}
use Rattle.workload.specs.Draws.{step, draw}
use Rattle.workload.specs.Operations.{true_at, false_at, operation_by, guard_by, register, kind, value, drawn_operation, drawn_guard}

-- three registers and a value that are drawn
pub record AreDrawn (d s t v : ℕ) : Type 0 where
  pub d_in : d ≤ 15
  pub s_in : s ≤ 15
  pub t_in : t ≤ 15
  pub v_in : v < 64

-- an operation that may stand anywhere in a block: its numbers are in range, its fields fit, and it is neither a branch, nor
-- prepares one, nor is a compare at odds with itself
pub record IsCalm (o : Op) : Type 0 where
  pub in_range : is_op_in_range o ≡ true
  pub fit : Fit (fields_of o)
  pub stays : is_branch o ≡ false
  pub target : (rows : Rows) → prepares_elsewhere rows o ≡ false
  pub odds : is_at_odds o ≡ false

register_in : (n : ℕ) → n ≤ 31 → is_register n ≡ true
register_in n h = le-leb n 31 h

two_in : (d s : ℕ) → d ≤ 31 → s ≤ 31 → (is_register d && is_register s) ≡ true
two_in d s h k = and_from (is_register d) (is_register s) (register_in d h) (register_in s k)

three_in : (d s t : ℕ) → d ≤ 31 → s ≤ 31 → t ≤ 31 → (is_register d && is_register s && is_register t) ≡ true
three_in d s t h k l = rw (register_in d h, register_in s k, register_in t l) refl

alu_below : (kind : AluKind) → alu_number kind < 10
alu_below Add = lit< tt
alu_below Sub = lit< tt
alu_below And = lit< tt
alu_below Or = lit< tt
alu_below Xor = lit< tt
alu_below Shl = lit< tt
alu_below Shr = lit< tt
alu_below Sar = lit< tt
alu_below Min = lit< tt
alu_below Max = lit< tt

alu_opcode : (kind : AluKind) → opcode_of (mnemonic.Alu kind) < 128
alu_opcode kind = let n = alu_below kind in omega arith

immediate_opcode : (kind : AluKind) → opcode_of (mnemonic.AluImm kind) < 128
immediate_opcode kind = let n = alu_below kind in omega arith

calm_alu : (kind : AluKind) (d s t : ℕ) → d ≤ 15 → s ≤ 15 → t ≤ 15 → IsCalm (op.Alu kind d s t)
calm_alu kind d s t h k l = record {
  in_range = three_in d s t (omega arith) (omega arith) (omega arith);
  fit = record { opcode = alu_opcode kind; d = omega arith; s = omega arith; tail = omega arith };
  stays = refl;
  target = λ rows. refl;
  odds = refl;
}

calm_immediate : (kind : AluKind) (d s imm : ℕ) → d ≤ 15 → s ≤ 15 → imm < 2 ^ 32 → IsCalm (op.AluImm kind d s imm)
calm_immediate kind d s imm h k l = record {
  in_range = two_in d s (omega arith) (omega arith);
  fit = record { opcode = immediate_opcode kind; d = omega arith; s = omega arith; tail = l };
  stays = refl;
  target = λ rows. refl;
  odds = refl;
}

calm_product : (d s t : ℕ) → d ≤ 15 → s ≤ 15 → t ≤ 15 → IsCalm (op.Mul d s t)
calm_product d s t h k l = record {
  in_range = three_in d s t (omega arith) (omega arith) (omega arith);
  fit = record { opcode = lit< tt; d = omega arith; s = omega arith; tail = omega arith };
  stays = refl;
  target = λ rows. refl;
  odds = refl;
}

-- the two destinations are two predicates
calm_compare : (v s t : ℕ) → s ≤ 15 → t ≤ 15 → IsCalm (op.Cmp Clt (true_at v) (false_at v) s t)
calm_compare v s t k l = record {
  in_range =
      rw (
        register_in (1 + v % 7) (omega arith),
        register_in (8 + v % 7) (omega arith),
        register_in s (omega arith),
        register_in t (omega arith),
      ) refl;
  fit = record { opcode = lit< tt; d = omega arith; s = omega arith; tail = omega arith };
  stays = refl;
  target = λ rows. refl;
  odds = and_left (nat_eq (1 + v % 7) (8 + v % 7)) _ (ne_eqb (1 + v % 7) (8 + v % 7) (λ e. omega arith));
}

calm_load : (d imm : ℕ) → d ≤ 15 → imm < 2 ^ 32 → IsCalm (op.Load Word d 0 imm)
calm_load d imm h l = record {
  in_range = two_in d 0 (omega arith) (omega arith);
  fit = record { opcode = lit< tt; d = omega arith; s = lit< tt; tail = l };
  stays = refl;
  target = λ rows. refl;
  odds = refl;
}

calm_store : (d imm : ℕ) → d ≤ 15 → imm < 2 ^ 32 → IsCalm (op.Store Word d 0 imm)
calm_store d imm h l = record {
  in_range = two_in d 0 (omega arith) (omega arith);
  fit = record { opcode = lit< tt; d = omega arith; s = lit< tt; tail = l };
  stays = refl;
  target = λ rows. refl;
  odds = refl;
}

pub calm : (k d s t v : ℕ) → AreDrawn d s t v → IsCalm (operation_by k d s t v)
calm zero d s t v h = calm_alu Add d s t h.d_in h.s_in h.t_in
calm (suc zero) d s t v h = calm_alu Sub d s t h.d_in h.s_in h.t_in
calm (suc (suc zero)) d s t v h = calm_alu Xor d s t h.d_in h.s_in h.t_in
calm (suc (suc (suc zero))) d s t v h = calm_product d s t h.d_in h.s_in h.t_in
calm (suc (suc (suc (suc zero)))) d s t v h = calm_immediate Shl d s (v % 32) h.d_in h.s_in (omega arith)
calm (suc (suc (suc (suc (suc zero))))) d s t v h = calm_immediate Add d s v h.d_in h.s_in (omega arith)
calm (suc (suc (suc (suc (suc (suc zero)))))) d s t v h = calm_compare v s t h.s_in h.t_in
calm (suc (suc (suc (suc (suc (suc (suc zero))))))) d s t v h = calm_load d (4 * v) h.d_in (omega arith)
calm (suc (suc (suc (suc (suc (suc (suc (suc zero)))))))) d s t v h = calm_store d (4 * v) h.d_in (omega arith)
calm (suc (suc (suc (suc (suc (suc (suc (suc (suc k))))))))) d s t v h = calm_immediate Add d s t h.d_in h.s_in (omega arith)

-- what is drawn
are_drawn : (x : ℕ) → AreDrawn (register (draw 1 x)) (register (draw 2 x)) (register (draw 3 x)) (value x)
are_drawn x = record { d_in = omega arith; s_in = omega arith; t_in = omega arith; v_in = omega arith }

pub calm_drawn : (x : ℕ) → IsCalm (drawn_operation x)
unfolding drawn_operation
calm_drawn x = calm (kind x) (register (draw 1 x)) (register (draw 2 x)) (register (draw 3 x)) (value x) (are_drawn x)

-- the guard of a kind is a predicate
pub guard_in : (k v : ℕ) → is_register (guard_by k v) ≡ true
guard_in k v = go (nat_lt k 9)
  where
    go : (b : Bool) → is_register (cond b 0 (1 + v % 7)) ≡ true
    go true = refl
    go false = register_in (1 + v % 7) (omega arith)

pub drawn_in : (x : ℕ) → is_in_range (drawn_guard x) (drawn_operation x) ≡ true
unfolding drawn_guard
drawn_in x =
    let c = calm_drawn x in
    and_from (is_register (drawn_guard x)) (is_op_in_range (drawn_operation x)) (guard_in (kind x) (value x)) c.in_range

-- what five draws make, of which each begins in the state behind the one before it
pub record Drawn (x first one d two s three t four last : ℕ) : Type 0 where
  pub kind_is : first ≡ draw 0 x
  pub one_is : one ≡ step x
  pub d_is : d ≡ register (draw 0 one)
  pub two_is : two ≡ step one
  pub s_is : s ≡ register (draw 0 two)
  pub three_is : three ≡ step two
  pub t_is : t ≡ register (draw 0 three)
  pub four_is : four ≡ step three
  pub value_is : last ≡ draw 0 four

pub made_by_draws : (x first one d two s three t four last : ℕ) → Drawn x first one d two s three t four last →
    (operation_by (first % 10) d s t (last % 64) ≡ drawn_operation x) × (guard_by (first % 10) (last % 64) ≡ drawn_guard x)
unfolding drawn_operation drawn_guard
made_by_draws x first one d two s three t four last h =
    let second = h.two_is ∙ ap step h.one_is in
    let third = h.three_is ∙ ap step second in
    let fourth = h.four_is ∙ ap step third in
    let a : first % 10 ≡ kind x = ap (λ n. n % 10) h.kind_is in
    let b : d ≡ register (draw 1 x) = h.d_is ∙ ap (λ y. register (draw 0 y)) h.one_is in
    let c : s ≡ register (draw 2 x) = h.s_is ∙ ap (λ y. register (draw 0 y)) second in
    let e : t ≡ register (draw 3 x) = h.t_is ∙ ap (λ y. register (draw 0 y)) third in
    let f : last % 64 ≡ value x = ap (λ n. n % 64) (h.value_is ∙ ap (draw 0) fourth) in
    rw (a, b, c, e, f) (refl, refl)

-- `outb` of a register may stand anywhere too, and `halt r0` fits its word
pub calm_outb : (s : ℕ) → s ≤ 15 → IsCalm (op.Outb s)
calm_outb s k = record {
  in_range = register_in s (omega arith);
  fit = record { opcode = lit< tt; d = lit< tt; s = omega arith; tail = lit< tt };
  stays = refl;
  target = λ rows. refl;
  odds = refl;
}

pub halt_fits : Fit (fields_of (op.Halt 0))
halt_fits = record { opcode = lit< tt; d = lit< tt; s = lit< tt; tail = lit< tt }
