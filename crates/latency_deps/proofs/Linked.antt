-- The links of a block's operations: they are in order exactly where the block is, and cover its delays.
use Rattle.std.proofs.Common.{◌≡◌, ℕ, ◌+◌, ◌<◌, ◌≤◌, Bool, true, false, cond, ◌&&◌, List, length, refl, sym, ap, subst, ◌∙◌, Option, None, arith, inl, inr}
use Rattle.std.specs.Prelude.{map, ℤ, nat_lt, nat_eq}
use mathlib.Core.Path.{fun_ext}
use Rattle.std.proofs.lemmas.Bool.{cases_lt, and_parts, ltb-true, eqb-true, false_from_ne_true}
use Rattle.std.proofs.lemmas.List.{length-map}
use Rattle.std.proofs.Math.ListN.{get_or-eq_default}
use Rattle.tnk_base.proofs.Searches.{any_none}
use Rattle.operation.specs.declared.LatKind.{LatKind}
use Rattle.operation.specs.Places.{latency_kind}
use Rattle.machine_desc.specs.Description.{Description, IsDescription, latency_of}
use Rattle.list_encoding.specs.Times.{word_pace}
use Rattle.list_encoding.proofs.Bounds.{issues_rise, issues_by_end, ends_in_time}
use Rattle.block_table.specs.Rows.{Rows}
use Rattle.timed_meaning.specs.declared.TimedOp.{TimedOp}
use Rattle.serial_order.specs.SerialOrder.{first_stuck}
use Rattle.serial_order.proofs.Stuck.{same_before_same_stuck}
use Rattle.block_links.specs.declared.links.Links.{Links}
use Rattle.block_links.specs.Links.{AreLinks, is_linked, delay_along}
use Rattle.block_links.specs.Cover.{Covers}
use Rattle.dependences.specs.declared.graph.Node.{Node}
use Rattle.dependences.specs.declared.access.Access.{Access}
use Rattle.dependences.specs.Listed.{AreListed, ops_at}
use Rattle.dependences.specs.Accesses.{AreAccesses, NoneClash, access_at, is_clash}
use Rattle.dependences.specs.Linked.{AreLinked, before_among, latency_among}
use Rattle.dependences.specs.Linked.{delay_among as delay_of_ops}
use Rattle.block_links.proofs.Chains.{chains_keep_the_stuck}
use Rattle.dependences.proofs.Clashes.{clashes_land_together}
use Rattle.dependences.proofs.Together.{none_land_together}
use Rattle.dependences.proofs.Spanning.{links_span}
use Rattle.dependences.proofs.Covering.{links_cover}
use Rattle.dependences.specs.Laws.{AreSound, LandTogether}
use Rattle.latency_deps.specs.declared.block.WordOp.{WordOp}
use Rattle.dependences.specs.Before.{comes_before, delay_between, is_at_odds, both_write, both_write_at, lands_at}
use Rattle.operation.specs.Places.{destinations}
use Rattle.latency_deps.specs.Block.{Block, timed_at, block_with}
use Rattle.latency_deps.specs.Delays.{delay_in, delay_among, latency_at, AreLinksOf}
use Rattle.latency_deps.specs.declared.rules.BlockRule.TheVariants as rule
use Rattle.latency_deps.specs.Breaks.{before_by, breaks_landing, lands_with}
use Rattle.latency_deps.specs.Rules.{least_breaking}
use Rattle.latency_deps.specs.Timing.{ops_of, own_timing}
use Rattle.latency_deps.specs.Candidate.{AreTimed}
use Rattle.latency_deps.specs.Nodes.{AreNodes}
use Rattle.two_timings.specs.Timing.{timed}
use Rattle.latency_deps.proofs.Items
use Rattle.latency_deps.proofs.Orders.{op_is}
use Rattle.latency_deps.proofs.Graphs.{op_timed}
use Rattle.latency_deps.proofs.GoodOrders.{apart}
use Rattle.dependences.proofs.Places.{some_of}
use Rattle.latency_deps.proofs.Meetings.{both_at}

module _ (g : Description) (ok : IsDescription g) (words : List ℕ) (ops : List WordOp) (nodes : List Node) (end : ℕ)
    (h : AreTimed g words ops end) (are : AreNodes (latency_of g) ops nodes) where
  abbrev n : ℕ
  n = length words

  -- the operations of the nodes are those of the words
  pub same_op : (i : ℕ) → i < n → ops_at nodes i ≡ timed (ops_of words) (own_timing g words) i
  same_op i below = ap (λ (a : Node). a.timed) (Items.node_of g words ops nodes end h are i _ below)

  pub listed : AreListed (ops_at nodes) n
  listed = record {
    few = h.few;
    never_fall = λ i j less below.
        let rise = issues_rise (map word_pace words) i j (omega arith) in
        let p = ap (λ (o : TimedOp). o.at) (same_op i (omega arith)) in
        let q = ap (λ (o : TimedOp). o.at) (same_op j below) in
        omega arith;
    early = λ i below.
        let p = ap (λ (o : TimedOp). o.at) (same_op i below) in
        let few = h.few in
        omega (arith, issues_by_end (map word_pace words) i, ends_in_time words);
    late = λ i below. let r = (ok.latency (kind i)).0 in let e = lasts i below in omega arith;
    short = λ i below. let r = (ok.latency (kind i)).1 in let e = lasts i below in omega arith;
    alike = λ i j inside below e. lasts i inside ∙ ap (latency_of g) (sym (kind_is i inside) ∙ e ∙ kind_is j below) ∙ sym (lasts j below);
  }
    where
      kind : ℕ → LatKind
      kind i = latency_kind (ops_of words i).op

      lasts : (i : ℕ) → i < n → (ops_at nodes i).latency ≡ latency_of g (kind i)
      lasts i below = ap (λ (o : TimedOp). o.latency) (same_op i below)

      kind_is : (i : ℕ) → i < n → latency_kind (ops_at nodes i).guarded.op ≡ kind i
      kind_is i below = ap (λ (o : TimedOp). latency_kind o.guarded.op) (same_op i below)

  -- which operation comes before which is what it is for the block
  pub same_before : (i j : ℕ) → i < n → j < n → before_among (ops_at nodes) i j ≡ before_by (ops_of words) (own_timing g words) i j
  same_before i j inside below =
      ap (λ (o : TimedOp). comes_before i j o (ops_at nodes j)) (same_op i inside)
      ∙ ap (λ (o : TimedOp). comes_before i j (timed (ops_of words) (own_timing g words) i) o) (same_op j below)

  -- the first that is stuck is the least that breaks the rule Cycle
  pub stuck_is : (rows : Rows) → first_stuck (before_among (ops_at nodes)) n ≡ least_breaking g rows words rule.Cycle
  unfolding first_stuck
  stuck_is rows = same_before_same_stuck (before_among (ops_at nodes)) (before_by (ops_of words) (own_timing g words)) n same_before

  -- the latencies that decide delays are those of the block's operations
  abbrev b : Block
  b = block_with ops end

  of_block : (i : ℕ) → i < n → ops_at nodes i ≡ timed_at b i
  of_block i below =
      let size = Items.length_ops g words ops end h in
      same_op i below ∙ sym (op_is g words ops end h i below) ∙ op_timed ops end i (omega arith)

  size : length b.words ≡ n
  size = length-map ops (λ (o : WordOp). o.word) ∙ Items.length_ops g words ops end h

  module _ (d : Description) where
    latencies : latency_among (latency_of d) (ops_at nodes) ≡ latency_at d b
    latencies = fun_ext (λ i. elim (cases_lt i n) [
      | inl below ↦ ap (λ (o : TimedOp). latency_of d (latency_kind o.guarded.op)) (of_block i below)
      | inr above ↦
          let many = Items.length_nodes g words ops nodes end h are in
          let few = Items.length_ops g words ops end h in
          ap (λ (a : Node). latency_of d (latency_kind a.timed.guarded.op)) (get_or-eq_default nodes _ (let le : n ≤ i = above in omega arith))
          ∙ sym (ap (λ (o : TimedOp). latency_of d (latency_kind o.guarded.op))
          (get_or-eq_default b.ops _ (let le : n ≤ i = above in let same = length-map ops (λ (o : WordOp). o.timed) in omega arith)))
    ])

    same_delay : (i j : ℕ) → delay_of_ops (latency_of d) (ops_at nodes) n i j ≡ delay_among d b i j
    same_delay i j =
        go (nat_lt i n && nat_lt j n) refl
        ∙ ap (λ (m : ℕ). cond (nat_lt i m && nat_lt j m) (delay_in d b i j) None) (sym size)
      where
        go : (t : Bool) → (nat_lt i n && nat_lt j n) ≡ t → cond t (delay_between (latency_of d) i j (ops_at nodes i) (ops_at nodes j)) None ≡ cond t (delay_in d b i j) None
        go true e =
            let p = and_parts (nat_lt i n) (nat_lt j n) e in
            ap (λ (o : TimedOp). delay_between (latency_of d) i j o (ops_at nodes j)) (of_block i (ltb-true i n p.0))
            ∙ ap (λ (o : TimedOp). delay_between (latency_of d) i j (timed_at b i) o) (of_block j (ltb-true j n p.1))
        go false e = refl

  -- where no compare is at odds with itself and no accesses clash, the rule Landing is kept
  pub landing_kept : (list : List Access) → AreAccesses (ops_at nodes) n list → NoneClash list → ((i : ℕ) → i < n → is_at_odds (ops_of words i).op ≡ false) →
      (k : ℕ) → k < n → breaks_landing (ops_of words) (own_timing g words) k ≡ false
  landing_kept list all none odds k below_n =
      rw (any_none (lands_with (ops_of words) (own_timing g words) k) k (λ i less. false_from_ne_true _ (λ e. apart_from i less e)), odds k below_n) refl
    where
      apart_from : (i : ℕ) → i < k → lands_with (ops_of words) (own_timing g words) k i ≡ true → ⊥
      apart_from i less e =
          let same = same_op i (omega arith) in
          let p = and_parts (nat_eq (lands_at (timed (ops_of words) (own_timing g words) i)) (lands_at (timed (ops_of words) (own_timing g words) k))) (both_write (ops_of words i).op (ops_of words k).op) e in
          none_land_together (ops_at nodes) n list all none i k (record {
            first = omega arith;
            second = below_n;
            differ = λ q. absurd (omega arith);
            write =
                ap (λ (o : TimedOp). both_write o.guarded.op (ops_at nodes k).guarded.op) same
                ∙ ap (λ (o : TimedOp). both_write (ops_of words i).op o.guarded.op) (same_op k below_n)
                ∙ p.1;
            land = ap lands_at same ∙ eqb-true _ _ p.0 ∙ sym (ap lands_at (same_op k below_n));
          })

  -- ---- where the rule Landing is kept
  module _ (kept : (k : ℕ) → k < n → breaks_landing (ops_of words) (own_timing g words) k ≡ false) where
    none_together : (i j : ℕ) → LandTogether (ops_at nodes) n i j → ⊥
    none_together i j w =
        let both : both_write (ops_of words i).op (ops_of words j).op ≡ true =
        ap (λ (o : TimedOp). both_write o.guarded.op (ops_of words j).op) (sym (same_op i w.first))
        ∙ ap (λ (o : TimedOp). both_write (ops_at nodes i).guarded.op o.guarded.op) (sym (same_op j w.second))
        ∙ w.write in
        let some = some_of (both_write_at (ops_of words i).op (ops_of words j).op) (destinations (ops_of words j).op) both in
        apart (ops_of words) (own_timing g words) n kept i j some.place w.first w.second w.differ
        (both_at (ops_of words i).op (ops_of words j).op some.place some.among some.passes)
        (sym (ap lands_at (same_op i w.first)) ∙ w.land ∙ ap lands_at (same_op j w.second))

    module _ (list : List Access) (l : Links) (all : AreAccesses (ops_at nodes) n list) (linked : AreLinked (ops_at nodes) n list l) where
      sound : AreSound (ops_at nodes) n list l
      sound = record {
        listed = listed;
        accesses = all;
        apart = λ p inside. false_from_ne_true (is_clash (access_at list p) (access_at list (p + 1)))
            (λ e. none_together _ _ (clashes_land_together (ops_at nodes) n list all p inside e));
        linked = linked;
      }

      -- the first that is stuck by links is the least that breaks the rule Cycle
      pub stuck_by_links : (rows : Rows) → first_stuck (is_linked l) n ≡ least_breaking g rows words rule.Cycle
      stuck_by_links rows =
          chains_keep_the_stuck n (is_linked l) (before_among (ops_at nodes)) (links_span (ops_at nodes) n list l sound) ∙ stuck_is rows

      -- where none is, the links cover the block's delays
      pub links_of : first_stuck (is_linked l) n ≡ None → AreLinksOf b l
      links_of none = record {
        links = subst (AreLinks l) (sym size) linked.links;
        cover = λ d in_range.
            let ordered = sym (chains_keep_the_stuck n (is_linked l) (before_among (ops_at nodes)) (links_span (ops_at nodes) n list l sound)) ∙ none in
            subst (λ (lat : ℕ → ℕ). Covers (delay_along lat l) (delay_among d b)) (latencies d)
            (subst (λ (delay : ℕ → ℕ → Option ℤ). Covers (delay_along (latency_among (latency_of d) (ops_at nodes)) l) delay)
            (fun_ext (λ i. fun_ext (λ j. same_delay d i j)))
            (links_cover (ops_at nodes) n list l sound ordered (latency_of d) (λ k. in_range.latency k)));
      }
