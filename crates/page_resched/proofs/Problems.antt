-- What is scheduled of a block, by its delays and the list of its kinds.
use Rattle.std.proofs.Common.{◌≡◌, ℕ, ◌≤◌, List, length, map, refl, sym, ap, ◌∙◌, arith, inl, inr}
use Rattle.std.specs.Prelude.{slice_index_or, Option, ℤ}
use Rattle.std.specs.List.{range_with_len}
use mathlib.Core.Path.{fun_ext}
use Rattle.std.proofs.lemmas.Bool.{cases_lt}
use Rattle.std.proofs.Math.ListN.{get_or-eq_default}
use Rattle.std.proofs.lemmas.List.FromFn.{get_or-map-range_with_len, length-map-range_with_len}
use Rattle.operation.specs.declared.Guarded.{Guarded}
use Rattle.operation.specs.declared.UnitKind.{UnitKind}
use Rattle.operation.specs.declared.UnitKind.TheVariants as unit
use Rattle.operation.specs.declared.LatKind.{LatKind}
use Rattle.operation.specs.declared.LatKind.TheVariants as lat
use Rattle.operation.specs.Places.{unit_kind, latency_kind}
use Rattle.machine_desc.specs.Description.{Description, latency_of}
use Rattle.list_encoding.specs.Reading.{guarded_in, mnemonic_at, operation_of, halt}
use Rattle.timed_meaning.specs.declared.TimedOp.{TimedOp}
use Rattle.two_timings.specs.Timing.{timed}
use Rattle.latency_deps.specs.Timing.{ops_of, own_timing}
use Rattle.latency_deps.specs.Block.{Block, IsGood, timed_at, block_in}
use Rattle.latency_deps.specs.Delays.{latency_at}
use Rattle.latency_deps.proofs.GoodOrders.{timed_is}
use Rattle.list_sched.specs.Schedule.{Problem}
use Rattle.list_sched.specs.Given.{unit_in, kind_in, latency_in, problem_by}
use Rattle.latency_deps.specs.Delays.{delay_among}
use Rattle.page_resched.specs.Block.{problem}
use Rattle.page_resched.specs.Writing.{kinds_at}

-- no operation has the opcode 0, so that nothing is read in 0
nothing_in_zero : operation_of 0 ≡ halt
unfolding guarded_in mnemonic_at
nothing_in_zero = refl

same_problem : (n m : ℕ) (d e : ℕ → ℕ → Option ℤ) (u v : ℕ → UnitKind) (k l : ℕ → LatKind) (g : Description) → n ≡ m → d ≡ e → u ≡ v → k ≡ l →
    ◌≡◌ {A = Problem} (record { count = n; delay = d; unit = u; kind = k; machine = g }) (record { count = m; delay = e; unit = v; kind = l; machine = g })
same_problem n m d e u v k l g a b c f = cc

module _ (b : Block) (good : IsGood b) where
  abbrev n : ℕ
  n = length b.words

  abbrev kinds : List (UnitKind × LatKind)
  kinds = map (kinds_at b) (range_with_len 0 n)

  at : (k : ℕ) → slice_index_or kinds k (unit.B, lat.Branch) ≡ (unit_kind (ops_of b.words k).op, latency_kind (ops_of b.words k).op)
  at k = elim (cases_lt k n) [
    | inl lt ↦
        get_or-map-range_with_len (kinds_at b) 0 n k k (unit.B, lat.Branch) lt (omega arith)
        ∙ ap (λ (o : TimedOp). (unit_kind o.guarded.op, latency_kind o.guarded.op)) (timed_is b good k lt)
    | inr ge ↦
        get_or-eq_default kinds (unit.B, lat.Branch) (let z = length-map-range_with_len (kinds_at b) 0 n in let le : n ≤ k = ge in omega arith)
        ∙ sym (ap (λ (o : Guarded). (unit_kind o.op, latency_kind o.op)) (ap operation_of (get_or-eq_default b.words 0 ge) ∙ nothing_in_zero))
  ]

  count : length kinds ≡ n
  count = length-map-range_with_len (kinds_at b) 0 n

  -- what the planner is asked for is the block's problem
  pub scheduled : (g : Description) → problem_by (delay_among g b) kinds g ≡ problem g b
  scheduled g =
      same_problem (length kinds) n (delay_among g b) (delay_among g b) (unit_in kinds) (λ k. unit_kind (ops_of b.words k).op) (kind_in kinds)
      (λ k. latency_kind (ops_of b.words k).op) g count refl
      (fun_ext (λ k. ap (λ (x : UnitKind × LatKind). x.0) (at k)))
      (fun_ext (λ k. ap (λ (x : UnitKind × LatKind). x.1) (at k)))

  -- and the kinds say the latencies of its operations
  pub same_latencies : (g : Description) → latency_at g b ≡ latency_in kinds g
  same_latencies g = fun_ext (λ k. ap (latency_of g) (kind_is k))
    where
      kind_is : (k : ℕ) → latency_kind (timed_at b k).guarded.op ≡ kind_in kinds k
      kind_is k = elim (cases_lt k n) [
        | inl below ↦ sym (ap (λ (x : UnitKind × LatKind). x.1) (get_or-map-range_with_len (kinds_at b) 0 n k k (unit.B, lat.Branch) below (omega arith)))
        | inr above ↦
            ap (λ (c : Block). latency_kind (timed_at c k).guarded.op) good.built
            ∙ ap (λ (o : TimedOp). latency_kind o.guarded.op)
            (get_or-eq_default (block_in good.description b.words).ops (record { guarded = halt; at = 0; latency = 0 })
            (let le : n ≤ k = above in let same = length-map-range_with_len (timed (ops_of b.words) (own_timing good.description b.words)) 0 n in omega arith))
            ∙ sym (ap (λ (x : UnitKind × LatKind). x.1) (get_or-eq_default kinds (unit.B, lat.Branch) (let le : n ≤ k = above in let same = count in omega arith)))
      ]
