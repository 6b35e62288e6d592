-- A block has one form at most.
use Rattle.std.proofs.Common.{◌≡◌, ◌≢◌, ℕ, ◌+◌, ◌<◌, ◌^◌, List, [], ◌∷◌, get_or, ◌⊎◌, inl, inr, refl, sym, ap, subst, ◌∙◌, arith}
use Rattle.std.specs.Prelude.{◌%◌}
use Rattle.std.proofs.lemmas.Bool.{cases_Bool, cases_eq, both_ways, eq-eqb, ne_eqb}
use Rattle.std.proofs.lemmas.Bool.Decides.{same_from_decides}
use Rattle.serial_order.specs.Lists.{Among, Earlier, EachOnce}
use Rattle.serial_order.proofs.Earlier.{same_lists, never_both, distinct, which_earlier, earlier_left}
use Rattle.serial_order.proofs.Members.{earlier_right}
use Rattle.list_encoding.specs.Bits.{bits}
use Rattle.list_encoding.specs.Word.{is_head, unit_in, pause_in}
use Rattle.list_sched.specs.Schedule.{Problem, Schedule, IsSchedule}
use Rattle.list_sched.specs.Laws.{IsUsed, SameSchedule}
use Rattle.list_sched.proofs.One.{one_schedule}
use Rattle.list_sched.proofs.Places.{inside_of, placed_once}
use Rattle.page_resched.specs.Block.{problem, IsListing}
use Rattle.page_resched.specs.Form.{IsLater, IsFormOf, AreForms}
use Rattle.page_resched.specs.Laws.{OneForm}
use Rattle.page_resched.proofs.Movable.{is_problem}

-- a word is its head mark, unit, pause and the low 54 bits
same_head : (v w : ℕ) → is_head v ≡ is_head w → bits 63 1 v ≡ bits 63 1 w
same_head v w e = go (cases_eq (bits 63 1 v) 1) (cases_eq (bits 63 1 w) 1)
  where
    go : (bits 63 1 v ≡ 1) ⊎ (bits 63 1 v ≡ 1 → ⊥) → (bits 63 1 w ≡ 1) ⊎ (bits 63 1 w ≡ 1 → ⊥) → bits 63 1 v ≡ bits 63 1 w
    go (inl a) (inl b) = a ∙ sym b
    go (inl a) (inr b) = absurd (both_ways (is_head w) (ne_eqb (bits 63 1 w) 1 b) (sym e ∙ eq-eqb (bits 63 1 v) 1 a))
    go (inr a) (inl b) = absurd (both_ways (is_head v) (ne_eqb (bits 63 1 v) 1 a) (e ∙ eq-eqb (bits 63 1 w) 1 b))
    go (inr a) (inr b) = omega arith

pub same_word : (v w : ℕ) → v < 2 ^ 64 → w < 2 ^ 64 → v % 2 ^ 54 ≡ w % 2 ^ 54 → unit_in v ≡ unit_in w → pause_in v ≡ pause_in w → is_head v ≡ is_head w → v ≡ w
same_word v w a b low unit pause head =
    let h = same_head v w head in
    omega arith

-- two schedules of a problem
module _ (p : Problem) (s s' : Schedule) (h : IsSchedule p s) (h' : IsSchedule p s') (same : SameSchedule p.count s s') where
  abbrev n : ℕ
  n = p.count

  inside : (i : ℕ) → Among i s.order → i < n
  inside i a = inside_of p h.height s.cycle [] s.order i h.placed a

  inside' : (i : ℕ) → Among i s'.order → i < n
  inside' i a = inside_of p h'.height s'.cycle [] s'.order i h'.placed a

  used_to : (c : ℕ) → IsUsed s c → IsUsed s' c
  used_to c u = (u.0, subst (Among u.0) same.order u.1, sym (same.cycle u.0 (inside u.0 u.1)) ∙ u.2)

  used_from : (c : ℕ) → IsUsed s' c → IsUsed s c
  used_from c u = (u.0, subst (Among u.0) (sym same.order) u.1, same.cycle u.0 (inside' u.0 u.1) ∙ u.2)

  later_to : (c d : ℕ) → IsLater s c d → IsLater s' c d
  later_to c d l = (l.0, elim l.1 [ inl u ↦ inl (used_to d u) | inr e ↦ inr (e ∙ same.end) ])

  later_from : (c d : ℕ) → IsLater s' c d → IsLater s c d
  later_from c d l = (l.0, elim l.1 [ inl u ↦ inl (used_from d u) | inr e ↦ inr (e ∙ sym same.end) ])

  -- ---- listings

  listed_same : (l l' : List ℕ) → IsListing s l → IsListing s' l' → l ≡ l'
  listed_same l l' a a' = same_lists l l' a.complete.each_once a'.complete.each_once to from kept
    where
      to : (k : ℕ) → Among k l → Among k l'
      to k m = (a'.complete.same k).1 (subst (Among k) same.order ((a.complete.same k).0 m))

      from : (k : ℕ) → Among k l' → Among k l
      from k m = (a.complete.same k).1 (subst (Among k) (sym same.order) ((a'.complete.same k).0 m))

      never : (i j : ℕ) → Earlier l i j → Earlier l' j i → ⊥
      never i j e f =
          let ci = same.cycle i (inside i ((a.complete.same i).0 (earlier_left l i j e))) in
          let cj = same.cycle j (inside j ((a.complete.same j).0 (earlier_right l i j e))) in
          elim (a.sorted i j e) [
            | inl lt ↦ elim (a'.sorted j i f) [ inl gt ↦ omega arith | inr q ↦ (let t = q.0 in omega arith) ]
            | inr q ↦ elim (a'.sorted j i f) [
              | inl gt ↦ (let t = q.0 in omega arith)
              | inr r ↦ never_both s.order i j once q.1 (subst (λ o. Earlier o j i) (sym same.order) r.1)
            ]
          ]
        where
          once : EachOnce s.order
          once = placed_once p h.height s.cycle [] s.order h.placed

      kept : (i j : ℕ) → Earlier l i j → Earlier l' i j
      kept i j e = elim (which_earlier l' i j (to i (earlier_left l i j e)) (to j (earlier_right l i j e))) [
        | inl q ↦ absurd (distinct l i j a.complete.each_once e q)
        | inr (inl q) ↦ q
        | inr (inr q) ↦ absurd (never i j e q)
      ]

  -- ---- words

  module _ (past : List ℕ) (k o w w' : ℕ) (all : (i : ℕ) → Among i past → i < n) (lt : k < n) (f : IsFormOf s past k o w) (f' : IsFormOf s' past k o w') where
    heads_same : is_head w ≡ is_head w'
    heads_same = same_from_decides {P = (i : ℕ) → Among i past → s.cycle i ≢ s.cycle k} (is_head w) (is_head w') f.head (
      λ t i a e. f'.head.0 t i a (sym (same.cycle i (all i a)) ∙ e ∙ same.cycle k lt),
      λ q. f'.head.1 (λ i a e. q i a (same.cycle i (all i a) ∙ e ∙ sym (same.cycle k lt))),
    )

    pauses_same : pause_in w ≡ pause_in w'
    pauses_same = elim (cases_Bool (is_head w)) [
      | inr t ↦ f.no_pause t ∙ sym (f'.no_pause (sym heads_same ∙ t))
      | inl t ↦
          (let a = f.pause t in
          let b = f'.pause (sym heads_same ∙ t) in
          let c = same.cycle k lt in
          let up = a.least (s'.cycle k + 1 + pause_in w') (subst (λ m. IsLater s m (s'.cycle k + 1 + pause_in w')) (sym c) (later_from (s'.cycle k) (s'.cycle k + 1 + pause_in w') b.holds)) in
          let down = b.least (s.cycle k + 1 + pause_in w) (subst (λ m. IsLater s' m (s.cycle k + 1 + pause_in w)) c (later_to (s.cycle k) (s.cycle k + 1 + pause_in w) a.holds)) in
          omega arith)
    ]

    words_same : w ≡ w'
    words_same = same_word w w' f.word f'.word (f.alike.operation ∙ sym f'.alike.operation) (f.alike.unit ∙ sym f'.alike.unit) pauses_same heads_same

  forms_same : (old past ks ws ws' : List ℕ) → ((i : ℕ) → Among i past → i < n) → ((i : ℕ) → Among i ks → i < n) → AreForms old s past ks ws → AreForms old s' past ks ws' → ws ≡ ws'
  forms_same old past [] [] [] a b f f' = refl
  forms_same old past [] [] (v ∷ vs) a b f f' = elim f' [ ]
  forms_same old past [] (w ∷ ws) ws' a b f f' = elim f [ ]
  forms_same old past (k ∷ ks) [] ws' a b f f' = elim f [ ]
  forms_same old past (k ∷ ks) (w ∷ ws) [] a b f f' = elim f' [ ]
  forms_same old past (k ∷ ks) (w ∷ ws) (v ∷ vs) a b f f' =
      ap (λ x. x ∷ ws) (words_same past k (get_or old k 0) w v a (b k (inl refl)) f.0 f'.0)
      ∙ ap (λ l. v ∷ l) (forms_same old (k ∷ past) ks ws vs (λ i m. elim m [ inl e ↦ subst (λ x. x < n) e (b k (inl refl)) | inr q ↦ a i q ]) (λ i m. b i (inr m)) f.1 f'.1)

pub one_form : OneForm
one_form b g new new' m f f' =
    let p = problem g b in
    let same = one_schedule p f.schedule f'.schedule (is_problem b g m) f.scheduled f'.scheduled in
    let listed = listed_same p f.schedule f'.schedule f.scheduled f'.scheduled same f.listed f'.listed f.listing f'.listing in
    forms_same p f.schedule f'.schedule f.scheduled f'.scheduled same b.words [] f.listed new new' (λ i a. elim a [ ])
    (λ i a. inside_of p f.scheduled.height f.schedule.cycle [] f.schedule.order i f.scheduled.placed ((f.listing.complete.same i).0 a))
    f.forms (subst (λ l. AreForms b.words f'.schedule [] l new') (sym listed) f'.forms)
