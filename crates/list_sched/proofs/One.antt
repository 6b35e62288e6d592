-- A problem has at most one schedule.
use Rattle.std.proofs.Common.{◌≡◌, ℕ, ◌+◌, ◌<◌, ◌≤◌, ◌&&◌, List, [], ◌∷◌, ◌⊎◌, inl, inr, refl, sym, ap, subst, ◌∙◌, arith}
use Rattle.std.specs.Prelude.{ℤ, pos, ◌+ℤ◌, ◌≤ℤ◌, nat_eq, nat_le, nat_lt}
use Rattle.std.proofs.lemmas.Int.{ints}
use Rattle.serial_order.specs.Lists.{Among, Earlier, EachOnce}
use Rattle.list_sched.specs.Extremes.{IsGreatest}
use Rattle.machine_desc.specs.Issue.{issuing, busy_on, same_unit}
use Rattle.serial_order.proofs.Members.{earlier_right}
use Rattle.serial_order.proofs.Earlier.{never_both}
use Rattle.serial_order.proofs.Onto.{onto, among_onto, among_right, earlier_across}
use Rattle.list_sched.proofs.Counts.{count_agree}
use Rattle.list_sched.proofs.Serial.{IsSerial, some_order}
use Rattle.list_sched.specs.Schedule.{Problem, IsBefore, IsProblem, IsNext, CanIssue, ArePlaced, AreHeights, Climb, Itself, From, latency, busy}
use Rattle.list_sched.specs.Laws.{OneSchedule}
use Rattle.machine_desc.specs.Description.{units_of}
use Rattle.list_sched.proofs.Places.{has_delay}

-- what stands later than the head of the rest stands in the rest
pub after_it : (past rest : List ℕ) (i j : ℕ) → EachOnce (onto past (i ∷ rest)) → Earlier (onto past (i ∷ rest)) i j → Among j rest
after_it past rest i j o e = elim (among_onto past (i ∷ rest) j (earlier_right (onto past (i ∷ rest)) i j e)) [
  | inl a ↦ absurd (never_both (onto past (i ∷ rest)) i j o e (earlier_across past (i ∷ rest) j i a (inl refl)))
  | inr (inl f) ↦ absurd (let g = subst (λ n. Earlier (onto past (i ∷ rest)) i n) (sym f) e in never_both (onto past (i ∷ rest)) i i o g g)
  | inr (inr a) ↦ a
]

module _ (p : Problem) (ok : IsProblem p) where
  pub climb_same : (h h' : ℕ → ℕ) (i : ℕ) → ((j : ℕ) → IsBefore p i j → h j ≡ h' j) → (z : ℤ) → Climb p h i z → Climb p h' i z
  climb_same h h' i same z Itself = Itself
  climb_same h h' i same z (From j d e) = subst (λ n. Climb p h' i (d +ℤ pos n)) (sym (same j (has_delay (p.delay i j) d e))) (From j d e)

  height_same : (h h' : ℕ → ℕ) (i : ℕ) → ((j : ℕ) → IsBefore p i j → h j ≡ h' j) → IsGreatest (Climb p h i) (pos (h i)) → IsGreatest (Climb p h' i) (pos (h' i)) → h i ≡ h' i
  height_same h h' i same g g' =
      let a = g'.greatest (pos (h i)) (climb_same h h' i same (pos (h i)) g.holds) in
      let b = g.greatest (pos (h' i)) (climb_same h' h i (λ j d. sym (same j d)) (pos (h' i)) g'.holds) in
      omega (arith, ints)

  heights_in : (order : List ℕ) → IsSerial p order → (h h' : ℕ → ℕ) → AreHeights p h → AreHeights p h' → (past rest : List ℕ) → order ≡ onto past rest → (i : ℕ) → Among i rest → h i ≡ h' i
  heights_in order s h h' g g' past [] e i a = elim a [ ]
  heights_in order s h h' g g' past (x ∷ xs) e i (inr a) = heights_in order s h h' g g' (x ∷ past) xs e i a
  heights_in order s h h' g g' past (x ∷ xs) e i (inl f) =
      let later : (j : ℕ) → IsBefore p x j → h j ≡ h' j = λ j d. heights_in order s h h' g g' (x ∷ past) xs e j (after_it past xs x j (subst EachOnce e s.each_once) (subst (λ l. Earlier l x j) e (s.kept x j d))) in
      let lt : x < p.count = (s.complete x).0 (subst (Among x) (sym e) (among_right past (x ∷ xs) x (inl refl))) in
      subst (λ n. h n ≡ h' n) f (height_same h h' x later (g x lt) (g' x lt))

  heights_same : (h h' : ℕ → ℕ) → AreHeights p h → AreHeights p h' → (i : ℕ) → i < p.count → h i ≡ h' i
  heights_same h h' g g' i lt = heights_in (some_order p ok).0 (some_order p ok).1 h h' g g' [] (some_order p ok).0 refl i (((some_order p ok).1.complete i).1 lt)

  pub can_issue_same : (cycle cycle' : ℕ → ℕ) (past : List ℕ) (i c : ℕ) → ((k : ℕ) → Among k past → cycle k ≡ cycle' k) → ((k : ℕ) → IsBefore p k i → Among k past) → CanIssue p cycle past i c → CanIssue p cycle' past i c
  can_issue_same cycle cycle' past i c same after h = record {
    room = record {
      width = let e : issuing cycle past c ≡ issuing cycle' past c = count_agree _ _ past (λ k a. ap (λ n. nat_eq n c) (same k a)) in subst (λ n. n < p.machine.width) e h.room.width;
      units = λ t from before. let e : busy_on p.unit (p.unit i) cycle (busy p) past t ≡ busy_on p.unit (p.unit i) cycle' (busy p) past t = count_agree _ _ past (λ k a. ap (λ n. (nat_le n t && nat_lt t (n + busy p k)) && same_unit (p.unit k) (p.unit i)) (same k a)) in subst (λ n. n < units_of p.machine (p.unit i)) e (h.room.units t from before);
    };
    delays = λ k d e. subst (λ n. (pos n +ℤ d) ≤ℤ pos c) (same k (after k (has_delay (p.delay k i) d e))) (h.delays k d e);
    lands_last = λ b k a. subst (λ n. n + latency p k ≤ c + latency p i) (same k a) (h.lands_last b k a);
  }

  next_same : (h h' : ℕ → ℕ) (past : List ℕ) (i j : ℕ) → ((k : ℕ) → k < p.count → h k ≡ h' k) → IsNext p h past i → IsNext p h' past j → i ≡ j
  next_same h h' past i j same a b =
      let f = a.first j b.ready in
      let g = b.first i a.ready in
      let u = same i a.ready.inside in
      let v = same j b.ready.inside in
      omega arith

  record Same (cycle cycle' : ℕ → ℕ) (rest rest' : List ℕ) : Type 0 where
    order : rest ≡ rest'
    cycles : (k : ℕ) → Among k rest → cycle k ≡ cycle' k

  -- the rest is placed in one way
  placed_same : (h h' cycle cycle' : ℕ → ℕ) → ((k : ℕ) → k < p.count → h k ≡ h' k) → (past rest rest' : List ℕ) →
      ArePlaced p h cycle past rest → ArePlaced p h' cycle' past rest' → ((k : ℕ) → Among k past → cycle k ≡ cycle' k) →
      ((k : ℕ) → k < p.count → Among k past ⊎ Among k rest) → ((k : ℕ) → k < p.count → Among k past ⊎ Among k rest') → Same cycle cycle' rest rest'
  placed_same h h' cycle cycle' same past [] [] a b agree full full' = record { order = refl; cycles = λ k m. elim m [ ] }
  placed_same h h' cycle cycle' same past [] (y ∷ ys) a b agree full full' = absurd (elim (full y b.0.ready.inside) [ inl m ↦ b.0.ready.unplaced m | inr m ↦ m ])
  placed_same h h' cycle cycle' same past (x ∷ xs) [] a b agree full full' = absurd (elim (full' x a.0.ready.inside) [ inl m ↦ a.0.ready.unplaced m | inr m ↦ m ])
  placed_same h h' cycle cycle' same past (x ∷ xs) (y ∷ ys) a b agree full full' =
      go (λ b' u v w. placed_same h h' cycle cycle' same (x ∷ past) xs ys a.2 b' u v w) (next_same h h' past x y same a.0 b.0)
    where
      go : (ArePlaced p h' cycle' (x ∷ past) ys → ((k : ℕ) → Among k (x ∷ past) → cycle k ≡ cycle' k) → ((k : ℕ) → k < p.count → Among k (x ∷ past) ⊎ Among k xs) → ((k : ℕ) → k < p.count → Among k (x ∷ past) ⊎ Among k ys) → Same cycle cycle' xs ys) → x ≡ y → Same cycle cycle' (x ∷ xs) (y ∷ ys)
      go more e = record {
        order = ap (λ n. n ∷ xs) e ∙ ap (λ l. y ∷ l) rest.order;
        cycles = λ k m. elim m [ inl f ↦ subst (λ n. cycle n ≡ cycle' n) f here | inr q ↦ rest.cycles k q ];
      }
        where
          b' : ArePlaced p h' cycle' past (x ∷ ys)
          b' = subst (λ n. ArePlaced p h' cycle' past (n ∷ ys)) (sym e) b

          here : cycle x ≡ cycle' x
          here =
              let f = a.1.least (cycle' x) (can_issue_same cycle' cycle past x (cycle' x) (λ k m. sym (agree k m)) a.0.ready.after_all b'.1.holds) in
              let g = b'.1.least (cycle x) (can_issue_same cycle cycle' past x (cycle x) agree a.0.ready.after_all a.1.holds) in
              omega arith

          rest : Same cycle cycle' xs ys
          rest = more b'.2 (λ k m. elim m [ inl f ↦ subst (λ n. cycle n ≡ cycle' n) f here | inr q ↦ agree k q ])
              (λ k lt. elim (full k lt) [ inl m ↦ inl (inr m) | inr (inl f) ↦ inl (inl f) | inr (inr q) ↦ inr q ])
              (λ k lt. elim (full' k lt) [ inl m ↦ inl (inr m) | inr (inl f) ↦ inl (inl (e ∙ f)) | inr (inr q) ↦ inr q ])

pub one_schedule : OneSchedule
one_schedule p s s' ok h h' = record {
  order = same.order;
  cycle = cycles;
  end = ends;
}
  where
    same : Same p ok s.cycle s'.cycle s.order s'.order
    same = placed_same p ok h.height h'.height s.cycle s'.cycle (heights_same p ok h.height h'.height h.heights h'.heights) [] s.order s'.order h.placed h'.placed (λ k m. elim m [ ]) (λ k lt. inr (h.complete k lt)) (λ k lt. inr (h'.complete k lt))

    cycles : (i : ℕ) → i < p.count → s.cycle i ≡ s'.cycle i
    cycles i lt = same.cycles i (h.complete i lt)

    ends : s.end ≡ s'.end
    ends =
        let r = h.reached in
        let r' = h'.reached in
        let a = h'.ends r.0 r.1 in
        let b = h.ends r'.0 r'.1 in
        let c = cycles r.0 r.1 in
        let d = cycles r'.0 r'.1 in
        omega arith
