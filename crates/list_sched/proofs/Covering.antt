-- Where links cover the delays of a problem, its schedule is the one by the links.
use Rattle.std.proofs.Common.{◌≡◌, ℕ, List, [], ◌∷◌, inl, inr, refl, sym, ap, subst, ◌∙◌, arith, Option, Some}
use Rattle.std.specs.Prelude.{ℤ, pos, ◌+ℤ◌, ◌≤ℤ◌}
use Rattle.std.proofs.lemmas.Int.{ints}
use Rattle.serial_order.specs.Lists.{Among}
use Rattle.block_links.specs.Cover.{Way, Covers, One, Then}
use Rattle.block_links.proofs.Chains.{chains_keep_the_stuck, covers_span}
use Rattle.list_sched.specs.Schedule.{Problem, Schedule, IsProblem, IsSchedule, Climb, Itself, From, AreHeights, IsBefore, is_before, IsReady, IsNext, CanIssue, ArePlaced}
use Rattle.list_sched.specs.Laws.{with_delays, CoveringLinksSchedule}
use Rattle.list_sched.proofs.Serial.{some_delay, both_inside}
use Rattle.list_sched.proofs.Places.{has_delay}

module _ (p : Problem) (along : ℕ → ℕ → Option ℤ) (ok : IsProblem p) (c : Covers along p.delay) where
  -- the problem by the links
  abbrev q : Problem
  q = with_delays p along

  -- a link's operations are one before the other
  linked_before : (i j : ℕ) → IsBefore q i j → IsBefore p i j
  linked_before i j t = let d = some_delay (along i j) t in let r = c.sound i j d.0 d.1 in has_delay (p.delay i j) r.0 r.1

  -- and a way leads to whatever comes after
  way_to : (i j : ℕ) → IsBefore p i j → (sum : ℤ) × Way along i j sum
  way_to i j t = let d = some_delay (p.delay i j) t in let r = c.reached i j d.0 d.1 in (r.0, r.1)

  pub by_links : IsProblem q
  by_links = record {
    some = ok.some;
    machine = ok.machine;
    few = ok.few;
    inside = λ i j d e. let r = c.sound i j d e in ok.inside i j r.0 r.1;
    short = λ i j d e. let r = c.sound i j d e in let s = ok.short i j r.0 r.1 in let le = r.2 in omega (arith, ints);
    ordered =
        chains_keep_the_stuck p.count (is_before q) (is_before p) (covers_span p.count along p.delay (λ i j t. let b = both_inside p ok i j t in (b.0, b.1)) c)
        ∙ ok.ordered;
    units = ok.units;
    one_branch = ok.one_branch;
    branch_last = λ i j b t. ok.branch_last i j b (linked_before i j t);
  }

  -- ---- heights

  module _ (h : ℕ → ℕ) (high : AreHeights q h) where
    -- a height falls along a way by its delays at the least
    falls : (i j : ℕ) (sum : ℤ) → Way along i j sum → (sum +ℤ pos (h j)) ≤ℤ pos (h i)
    falls i m sum (One j d e) = (high i (by_links.inside i j d e).0).greatest (d +ℤ pos (h j)) (From j d e)
    falls i m sum (Then k j before d w e) =
        let a = falls i k before w in
        let b = (high k (by_links.inside k j d e).0).greatest (d +ℤ pos (h j)) (From j d e) in
        omega (arith, ints)

    pub same_heights : AreHeights p h
    same_heights i lt = record { holds = holds (pos (h i)) refl (high i lt).holds; greatest = greatest }
      where
        greatest : (z : ℤ) → Climb p h i z → z ≤ℤ pos (h i)
        greatest z Itself = (high i lt).greatest z Itself
        greatest z (From j e t) = let r = c.reached i j e t in let f = falls i j r.0 r.1 in let le = r.2 in omega (arith, ints)

        holds : (z : ℤ) → z ≡ pos (h i) → Climb q h i z → Climb p h i z
        holds z same Itself = Itself
        holds z same (From j d e) =
            let r = c.sound i j d e in
            let g = greatest (r.0 +ℤ pos (h j)) (From j r.0 r.1) in
            let one : r.0 ≡ d = (let le = r.2 in omega (arith, ints)) in
            From j d (r.1 ∙ ap Some one)

  -- ---- placing

  -- what has links to those of the past is there too, and each link's delay is kept
  record IsClosed (cycle : ℕ → ℕ) (past : List ℕ) : Type 0 where
    closed : (i j : ℕ) (d : ℤ) → Among j past → along i j ≡ Some d → Among i past
    kept : (i j : ℕ) (d : ℤ) → Among j past → along i j ≡ Some d → (pos (cycle i) +ℤ d) ≤ℤ pos (cycle j)

  module _ (cycle : ℕ → ℕ) (past : List ℕ) (s : IsClosed cycle past) where
    -- so it is along ways
    back : (i j : ℕ) (sum : ℤ) → Way along i j sum → Among j past → Among i past × ((pos (cycle i) +ℤ sum) ≤ℤ pos (cycle j))
    back i m sum (One j d e) a = (s.closed i j d a e, s.kept i j d a e)
    back i m sum (Then k j before d w e) a =
        let r = back i k before w (s.closed k j d a e) in
        let b = s.kept k j d a e in
        let le = r.1 in
        (r.0, omega (arith, ints))

    -- and for one that follows on the past
    module _ (j : ℕ) (after : (k : ℕ) → IsBefore q k j → Among k past) where
      before_it : (i m : ℕ) (sum : ℤ) → m ≡ j → Way along i m sum → Among i past
      before_it i m sum e (One n d l) = after i (subst (λ x. IsBefore q i x) e (has_delay (along i n) d l))
      before_it i m sum e (Then k n before d w l) = (back i k before w (after k (subst (λ x. IsBefore q k x) e (has_delay (along k n) d l)))).0

      up_to : (t : ℕ) → ((k : ℕ) (d : ℤ) → along k j ≡ Some d → (pos (cycle k) +ℤ d) ≤ℤ pos t) → (i m : ℕ) (sum : ℤ) → m ≡ j → Way along i m sum → (pos (cycle i) +ℤ sum) ≤ℤ pos t
      up_to t f i m sum e (One n d l) = f i d (subst (λ x. along i x ≡ Some d) e l)
      up_to t f i m sum e (Then k n before d w l) =
          let l' = subst (λ x. along k x ≡ Some d) e l in
          let a = back i k before w (after k (has_delay (along k j) d l')) in
          let b = f k d l' in
          let le = a.1 in
          omega (arith, ints)

    ready_to : (i : ℕ) → IsReady q past i → IsReady p past i
    ready_to i r = record {
      inside = r.inside;
      unplaced = r.unplaced;
      after_all = λ k b. let w = way_to k i b in before_it i r.after_all k i w.0 refl w.1;
      branch_last = r.branch_last;
    }

    ready_from : (i : ℕ) → IsReady p past i → IsReady q past i
    ready_from i r = record { inside = r.inside; unplaced = r.unplaced; after_all = λ k b. r.after_all k (linked_before k i b); branch_last = r.branch_last }

    next_to : (h : ℕ → ℕ) (i : ℕ) → IsNext q h past i → IsNext p h past i
    next_to h i n = record { ready = ready_to i n.ready; first = λ k r. n.first k (ready_from k r) }

    issue_to : (i t : ℕ) → IsReady q past i → CanIssue q cycle past i t → CanIssue p cycle past i t
    issue_to i t r g = record {
      room = record { width = g.room.width; units = g.room.units };
      delays = λ k e l. let w = c.reached k i e l in let u = up_to i r.after_all t g.delays k i w.0 refl w.1 in let le = w.2 in omega (arith, ints);
      lands_last = g.lands_last;
    }

    issue_from : (i t : ℕ) → CanIssue p cycle past i t → CanIssue q cycle past i t
    issue_from i t g = record {
      room = record { width = g.room.width; units = g.room.units };
      delays = λ k d l. let r = c.sound k i d l in let b = g.delays k r.0 r.1 in let le = r.2 in omega (arith, ints);
      lands_last = g.lands_last;
    }

    closed_more : (i : ℕ) → IsReady q past i → CanIssue q cycle past i (cycle i) → IsClosed cycle (i ∷ past)
    closed_more i r g = record {
      closed = λ k j d a e. inr (elim a [ inl f ↦ r.after_all k (has_delay (along k i) d (subst (λ x. along k x ≡ Some d) (sym f) e)) | inr b ↦ s.closed k j d b e ]);
      kept = λ k j d a e. elim a [
        | inl f ↦ subst (λ x. (pos (cycle k) +ℤ d) ≤ℤ pos (cycle x)) f (g.delays k d (subst (λ x. along k x ≡ Some d) (sym f) e))
        | inr b ↦ s.kept k j d b e
      ];
    }

  placed_to : (h cycle : ℕ → ℕ) (past rest : List ℕ) → IsClosed cycle past → ArePlaced q h cycle past rest → ArePlaced p h cycle past rest
  placed_to h cycle past [] s a = tt
  placed_to h cycle past (i ∷ rest) s a = (
    next_to cycle past s h i a.0,
    record {
      holds = issue_to cycle past s i (cycle i) a.0.ready a.1.holds;
      least = λ m g. a.1.least m (issue_from cycle past s i m g);
    },
    placed_to h cycle (i ∷ past) rest (closed_more cycle past s i a.0.ready a.1.holds) a.2,
  )

  pub schedule_to : (s : Schedule) → IsSchedule q s → IsSchedule p s
  schedule_to s t = record {
    height = t.height;
    heights = same_heights t.height t.heights;
    complete = t.complete;
    placed = placed_to t.height s.cycle [] s.order (record { closed = λ i j d a. elim a [ ]; kept = λ i j d a. elim a [ ] }) t.placed;
    ends = t.ends;
    reached = t.reached;
  }

pub covering_links_schedule : CoveringLinksSchedule
covering_links_schedule p along ok c = (by_links p along ok c, schedule_to p along ok c)
