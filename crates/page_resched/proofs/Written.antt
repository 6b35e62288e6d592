-- Each block has a form.
use Rattle.std.proofs.Common.{◌≡◌, ℕ, zero, suc, ◌+◌, ◌-◌, ◌<◌, ◌≤◌, Bool, true, false, List, [], ◌∷◌, get_or, ◌⊎◌, inl, inr, refl, sym, subst, arith}
use Rattle.std.specs.Prelude.{nat_eq}
use Rattle.std.specs.List.{list_any}
use Rattle.std.proofs.lemmas.Bool.{cases_Bool, cases_eq, cases_lt, both_ways, eqb-true, eq-eqb}
use Rattle.serial_order.specs.Lists.{Among}
use Rattle.serial_order.proofs.Members.{some_among, among_some}
use Rattle.list_sched.specs.Extremes.{IsLeast}
use Rattle.list_sched.specs.Schedule.{Problem, Schedule, IsProblem, IsSchedule}
use Rattle.list_sched.specs.Laws.{IsUsed, IsClose}
use Rattle.list_sched.proofs.Close.{schedules_are_close}
use Rattle.list_sched.proofs.Exists.{Decided, each_has_a_schedule}
use Rattle.list_sched.proofs.Places.{inside_of, placed_once}
use Rattle.page_resched.specs.Block.{problem}
use Rattle.page_resched.specs.Form.{IsLater, IsFormOf, AreForms}
use Rattle.page_resched.specs.Laws.{EachBlockHasAForm}
use Rattle.page_resched.proofs.Movable.{is_problem}
use Rattle.page_resched.specs.Writing.{word_with}
use Rattle.page_resched.proofs.Listings.{sort, some_listing}
use Rattle.page_resched.proofs.Pieces.{head_word, other_word}

-- ---- the next used cycle

module _ (p : Problem) (s : Schedule) (ok : IsProblem p) (h : IsSchedule p s) where
  close : IsClose s
  close = schedules_are_close p s ok h

  abbrev issues_at : ℕ → ℕ → Bool
  issues_at d i = nat_eq (s.cycle i) d

  decide_used : (d : ℕ) → Decided (IsUsed s d)
  decide_used d = elim (cases_Bool (list_any (issues_at d) s.order)) [
    | inl t ↦ inl (let r = some_among (issues_at d) s.order t in (r.0, r.1, eqb-true (s.cycle r.0) d r.2))
    | inr f ↦ inr (λ u. both_ways (list_any (issues_at d) s.order) f (among_some (issues_at d) s.order u.0 u.1 (eq-eqb (s.cycle u.0) d u.2)))
  ]

  before_end : (k : ℕ) → Among k s.order → s.cycle k < s.end
  before_end k a =
      let e = h.ends k (inside_of p h.height s.cycle [] s.order k h.placed a) in
      let l = (ok.machine.latency (p.kind k)).0 in
      omega arith

  -- the next one after some number of cycles, or none of these is used
  scan : (c m : ℕ) → ((d : ℕ) × (c < d) × (d ≤ c + m) × IsUsed s d × ((x : ℕ) → c < x → x < d → ¬ (IsUsed s x))) ⊎ ((x : ℕ) → c < x → x ≤ c + m → ¬ (IsUsed s x))
  scan c zero = inr (λ x lt le. absurd (omega arith))
  scan c (suc m) = elim (scan c m) [
    | inl r ↦ inl (r.0, r.1, (let q = r.2 in omega arith), r.3, r.4)
    | inr f ↦ elim (decide_used (c + suc m)) [
      | inl u ↦ inl (c + suc m, omega arith, omega arith, u, λ x lt le. f x lt (omega arith))
      | inr g ↦ inr (λ x lt le. elim (cases_eq x (c + suc m)) [ inl e ↦ (λ u. g (subst (IsUsed s) e u)) | inr ne ↦ f x lt (omega arith) ])
    ]
  ]

  record Gap (c : ℕ) : Type 0 where
    pause : ℕ
    short : pause < 32
    least : IsLeast (IsLater s c) (c + 1 + pause)

  gap : (k : ℕ) → Among k s.order → Gap (s.cycle k)
  gap k a = go (scan c (s.end - c))
    where
      c : ℕ
      c = s.cycle k

      early : c < s.end
      early = before_end k a

      go : ((d : ℕ) × (c < d) × (d ≤ c + (s.end - c)) × IsUsed s d × ((x : ℕ) → c < x → x < d → ¬ (IsUsed s x))) ⊎ ((x : ℕ) → c < x → x ≤ c + (s.end - c) → ¬ (IsUsed s x)) → Gap c
      go (inl (d, lt, le, u, none)) =
          let near : d ≤ c + 32 = close.next c d (k, a, refl) u lt none in
          let at : c + 1 + (d - c - 1) ≡ d = omega arith in
          record {
            pause = d - c - 1;
            short = omega arith;
            least = subst (IsLeast (IsLater s c)) (sym at) (record {
              holds = (lt, inl u);
              least = λ x l. elim (cases_lt x d) [
                | inl m ↦ absurd (elim l.1 [ inl v ↦ none x l.0 m v | inr e ↦ (let b = before_end u.0 u.1 in let q = u.2 in omega arith) ])
                | inr m ↦ m
              ];
            });
          }
      go (inr none) =
          let near = close.last c (k, a, refl) (λ x u. elim (cases_lt c x) [ inl lt ↦ absurd (none x lt (let b = before_end u.0 u.1 in let q = u.2 in omega arith) u) | inr le ↦ le ]) in
          let at : c + 1 + (s.end - c - 1) ≡ s.end = omega arith in
          record {
            pause = s.end - c - 1;
            short = (let q = near.1 in omega arith);
            least = subst (IsLeast (IsLater s c)) (sym at) (record {
              holds = (early, inr refl);
              least = λ x l. elim l.1 [ inl u ↦ absurd (none x l.0 (let b = before_end u.0 u.1 in let q = u.2 in omega arith) u) | inr e ↦ (let q = e in omega arith) ];
            });
          }

  -- ---- the words of listed operations

  one_word : (past : List ℕ) (k old : ℕ) → Among k s.order → (w : ℕ) × IsFormOf s past k old w
  one_word past k old a = go (cases_Bool (list_any (issues_at (s.cycle k)) past))
    where
      go : (list_any (issues_at (s.cycle k)) past ≡ true) ⊎ (list_any (issues_at (s.cycle k)) past ≡ false) → (w : ℕ) × IsFormOf s past k old w
      go (inl t) =
          let u = some_among (issues_at (s.cycle k)) past t in
          (word_with 0 0 old, other_word s past k old (λ f. f u.0 u.1 (eqb-true (s.cycle u.0) (s.cycle k) u.2)))
      go (inr t) =
          let q = gap k a in
          let next = s.cycle k + 1 + q.pause in
          let near : next ≤ s.cycle k + 32 = (let p = q.short in omega arith) in (
            word_with 1 (next - s.cycle k - 1) old,
            head_word s past k old next
                (λ i m g. both_ways (list_any (issues_at (s.cycle k)) past) t (among_some (issues_at (s.cycle k)) past i m (eq-eqb (s.cycle i) (s.cycle k) g)))
                q.least near,
          )

  all_words : (old past ks : List ℕ) → ((k : ℕ) → Among k ks → Among k s.order) → (ws : List ℕ) × AreForms old s past ks ws
  all_words old past [] a = ([], tt)
  all_words old past (k ∷ ks) a =
      let w = one_word past k (get_or old k 0) (a k (inl refl)) in
      let r = all_words old (k ∷ past) ks (λ i m. a i (inr m)) in
      (w.0 ∷ r.0, (w.1, r.1))

pub each_block_has_a_form : EachBlockHasAForm
each_block_has_a_form b g m =
    let p = problem g b in
    let ok = is_problem b g m in
    let r = each_has_a_schedule p ok in
    let s = r.0 in
    let listing = some_listing s (placed_once p r.1.height s.cycle [] s.order r.1.placed) in
    let listed = sort s.cycle s.order in
    let w = all_words p s ok r.1 b.words [] listed (λ k a. (listing.complete.same k).0 a) in
    (w.0, record { schedule = s; listed = listed; scheduled = r.1; listing = listing; forms = w.1 })
