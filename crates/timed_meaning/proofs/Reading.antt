-- A run reads only the cells of the state: the output and the input position stand with the progress.
use Rattle.std.proofs.Common.{◌≡◌, ℕ, zero, suc, List, [], ◌∷◌, length, map, refl, sym, ap, ◌∙◌, Option, Some, None}
use Rattle.std.specs.Prelude.{nat_le, slice_get}
use Rattle.std.specs.List.{range_with_len}
use mathlib.Core.Path.{fun_ext}
use Rattle.operation.specs.declared.Place.TheVariants.{General, Predicate, Target, Memory}
use Rattle.operation.specs.declared.Trap.{Trap}
use Rattle.operation.specs.Effects.{effect}
use Rattle.timed_meaning.specs.declared.Cell.{Cell}
use Rattle.timed_meaning.specs.declared.Cell.TheVariants.{At, Byte}
use Rattle.timed_meaning.specs.declared.Write.{Write}
use Rattle.timed_meaning.specs.declared.TimedOp.{TimedOp}
use Rattle.timed_meaning.specs.Values.{State, is_set, landed, value_after}
use Rattle.timed_meaning.specs.Block.{Start, Act, Progress, Ran, Stopped, Ended, Trapped, fresh, act, act_of, operands, issued, run, ending, block, state_after}
use Rattle.timed_meaning.specs.declared.cells.Cells.{Cells}
use Rattle.timed_meaning.specs.declared.issue.Work.{Work}
use Rattle.timed_meaning.specs.Evaluator.{state_of, state_with, start_of, start_with, progress_of, ran_to, ended_at}

-- the same cells with another output and another position
abbrev pub with_output : State → List ℕ → ℕ → State
with_output s output position = record { general = s.general; predicates = s.predicates; targets = s.targets; memory = s.memory; output = output; position = position }

abbrev pub from_output : Start → List ℕ → ℕ → Start
from_output c output position = record { state = with_output c.state output position; input = c.input; next = c.next; limit = c.limit }

same_value : (s : State) (output : List ℕ) (position : ℕ) (ws : List Write) (x : Cell) → value_after (with_output s output position) ws x ≡ value_after s ws x
same_value s output position ws (At (General zero)) = refl
same_value s output position ws (At (General (suc n))) = refl
same_value s output position ws (At (Predicate zero)) = refl
same_value s output position ws (At (Predicate (suc n))) = refl
same_value s output position ws (At (Target n)) = refl
same_value s output position ws (At Memory) = refl
same_value s output position ws (Byte a) = refl

state_by : ℕ → Progress → (Cell → ℕ) → State
state_by size p value =
    record {
      general = map (λ n. value (At (General n))) (range_with_len 0 32);
      predicates = map (λ n. is_set (value (At (Predicate n)))) (range_with_len 0 32);
      targets = map (λ n. value (At (Target n))) (range_with_len 0 8);
      memory = map (λ a. value (Byte a)) (range_with_len 0 size);
      output = p.output;
      position = p.position;
    }

same_after : (s : State) (output : List ℕ) (position : ℕ) (p : Progress) → state_after (with_output s output position) p ≡ state_after s p
unfolding state_by
same_after s output position p = ap (state_by (length s.memory) p) (fun_ext (same_value s output position p.writes))

module _ (c : Start) (output : List ℕ) (position : ℕ) where
  act_by : TimedOp → Progress → (Cell → ℕ) → Act
  act_by k p value =
      act_of k.guarded.op value (slice_get c.input p.position) c.next
      (effect k.guarded (operands k.guarded value (length c.state.memory) (nat_le c.limit (length p.output))))

  same_act : (k : TimedOp) (p : Progress) → act (from_output c output position) k p ≡ act c k p
  unfolding act_by
  same_act k p = ap (act_by k p) (fun_ext (same_value c.state output position (landed k.at p.writes)))

reads_only_cells : (c : Start) (output : List ℕ) (position : ℕ) (ks : List TimedOp) (p : Progress) → run (from_output c output position) ks p ≡ run c ks p
reads_only_cells c output position [] p = refl
reads_only_cells c output position (k ∷ ks) p =
    ap (λ (a : Act). elim a.trap [ None ↦ run (from_output c output position) ks (issued k a p) | Some t ↦ Stopped t p ]) (same_act c output position k p)
    ∙ go (reads_only_cells c output position ks (issued k (act c k p) p)) (act c k p).trap
  where
    go : run (from_output c output position) ks (issued k (act c k p) p) ≡ run c ks (issued k (act c k p) p) → (o : Option Trap) → ◌≡◌ {A = Ran} (elim o [ None ↦ run (from_output c output position) ks (issued k (act c k p) p) | Some t ↦ Stopped t p ]) (elim o [ None ↦ run c ks (issued k (act c k p) p) | Some t ↦ Stopped t p ])
    go e None = e
    go e (Some t) = refl

-- a block that is run over its cells alone, and whose writes then land, ends as it is to
pub ended_as_defined : (m m' : Cells) (old p : Work) (begun : Progress) (input : List ℕ) (next : Option ℕ) (limit : ℕ) (ks : List TimedOp) (trap : Option Trap) →
    begun ≡ fresh (state_with m old) → ran_to trap p ≡ run (start_of m input next limit) ks begun → state_with m' p ≡ state_after (state_with m p) (progress_of p) →
    ended_at trap p.answer p.count (state_with m' p) ≡ block (start_with m old input next limit) ks
ended_as_defined m m' old p begun input next limit ks trap starts ran settled =
    go trap
    ∙ ap (ending (state_with m old)) (ran ∙ ap (run (start_of m input next limit) ks) starts ∙ sym (reads_only_cells (start_of m input next limit) old.output.items old.position ks (fresh (state_with m old))))
  where
    same : state_with m' p ≡ state_after (state_with m old) (progress_of p)
    same =
        settled
        ∙ same_after (state_of m) p.output.items p.position (progress_of p)
        ∙ sym (same_after (state_of m) old.output.items old.position (progress_of p))

    go : (o : Option Trap) → ended_at o p.answer p.count (state_with m' p) ≡ ending (state_with m old) (ran_to o p)
    go None = ap (λ s. Ended s p.answer) same
    go (Some t) = ap (λ (s : State). Trapped t p.count p.output.items s.memory) same
