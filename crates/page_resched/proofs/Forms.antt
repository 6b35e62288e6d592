-- The words of a form have the cycles and the end of the schedule.
use Rattle.std.proofs.Common.{◌≡◌, ◌≢◌, ℕ, suc, ◌+◌, ◌-◌, ◌<◌, ◌≤◌, Bool, true, false, List, [], ◌∷◌, ◌++◌, length, get_or, take, drop, ◌⊎◌, inl, inr, refl, sym, ap, subst, ◌∙◌, arith, map}
use Rattle.std.proofs.lemmas.Bool.{cases_eq, both_ways}
use Rattle.std.proofs.lemmas.List.{take_all, drop_more, length-drop}
use Rattle.std.proofs.lemmas.Grind.{common_steps}
use Rattle.serial_order.specs.Lists.{Among, Earlier}
use Rattle.list_encoding.specs.Word.{is_head, pause_in}
use Rattle.list_encoding.specs.Times.{word_pace, issue_cycles, block_end}
use Rattle.list_encoding.proofs.Issues.{Timed, timed_head, timed_other}
use Rattle.list_sched.specs.Extremes.{IsLeast}
use Rattle.list_sched.specs.Schedule.{Problem, Schedule, IsProblem, IsSchedule}
use Rattle.list_sched.specs.Laws.{IsUsed}
use Rattle.serial_order.proofs.Onto.{onto, among_right, among_onto, earlier_across, earlier_onto}
use Rattle.list_sched.proofs.Places.{inside_of}
use Rattle.list_sched.proofs.Close.{schedules_are_close}
use Rattle.page_resched.specs.Block.{IsListing}
use Rattle.page_resched.specs.Form.{IsLater, IsFormOf, AreForms}

-- the first of what is left of a list
pub record Next (words : List ℕ) (k w : ℕ) (ws : List ℕ) : Type 0 where
  pub there : k < length words
  pub here : get_or words k 0 ≡ w
  pub left : drop (k + 1) words ≡ ws

length_left : (words : List ℕ) (k : ℕ) → length (drop k words) ≡ length words - k
length_left words k = length-drop k words

pub next_of : (words : List ℕ) (k w : ℕ) (ws : List ℕ) → drop k words ≡ w ∷ ws → Next words k w ws
next_of words k w ws e =
    let n : length (drop k words) ≡ suc (length ws) = ap length e in
    let there : k < length words = let l = length_left words k in omega arith in
    let both : get_or words k 0 ∷ drop (k + 1) words ≡ w ∷ ws = sym (drop_more words k 0 there) ∙ e in
    record { there = there; here = cc; left = cc }

module _ (p : Problem) (s : Schedule) (listed old words : List ℕ) (ok : IsProblem p) (h : IsSchedule p s) (ls : IsListing s listed) where
  -- what is listed earlier issues no later
  no_later : (past rest : List ℕ) → listed ≡ onto past rest → (i k : ℕ) → Earlier (onto past rest) i k → s.cycle i ≤ s.cycle k
  no_later past rest e i k q = elim (ls.sorted i k (subst (λ l. Earlier l i k) (sym e) q)) [ inl f ↦ omega arith | inr f ↦ (let g = f.0 in omega arith) ]

  before_end : (k : ℕ) → Among k s.order → s.cycle k < s.end
  before_end k a =
      let i = inside_of p h.height s.cycle [] s.order k h.placed a in
      let e = h.ends k i in
      let l = (ok.machine.latency (p.kind k)).0 in
      omega arith

  -- the past issues no later than now, and now is its last used cycle
  record IsNow (past : List ℕ) (now next : ℕ) : Type 0 where
    last : (i : ℕ) → Among i past → s.cycle i ≤ now
    used : (i : ℕ) × Among i past × (s.cycle i ≡ now)
    later : IsLeast (IsLater s now) next

  -- a used cycle is that of a listed operation
  listed_used : (past rest : List ℕ) → listed ≡ onto past rest → (c : ℕ) → IsUsed s c → (i : ℕ) × (Among i past ⊎ Among i rest) × (s.cycle i ≡ c)
  listed_used past rest e c u = (u.0, among_onto past rest u.0 (subst (Among u.0) e ((ls.complete.same u.0).1 u.1)), u.2)

  used_listed : (past rest : List ℕ) → listed ≡ onto past rest → (i : ℕ) → Among i rest → Among i s.order
  used_listed past rest e i a = (ls.complete.same i).0 (subst (Among i) (sym e) (among_right past rest i a))

  -- after the last word comes the end
  ends : (past : List ℕ) (now next : ℕ) → listed ≡ onto past [] → IsNow past now next → next ≡ s.end
  ends past now next e n = elim n.later.holds.1 [
    | inl u ↦ absurd (let i = listed_used past [] e next u in elim i.1 [ inl a ↦ (let l = n.last i.0 a in let m = n.later.holds.0 in let q = i.2 in omega arith) | inr a ↦ elim a [ ] ])
    | inr f ↦ f
  ]

  -- the next word's cycle is the present one or the next used one
  module _ (past ks : List ℕ) (k now next : ℕ) (e : listed ≡ onto past (k ∷ ks)) (n : IsNow past now next) where
    not_before : now ≤ s.cycle k
    not_before =
        let l = no_later past (k ∷ ks) e n.used.0 k (earlier_across past (k ∷ ks) n.used.0 k n.used.1 (inl refl)) in
        let q = n.used.2 in
        omega arith

    next_used : now < s.cycle k → next ≡ s.cycle k
    next_used lt =
        let here = used_listed past (k ∷ ks) e k (inl refl) in
        let up = n.later.least (s.cycle k) (lt, inl (k, here, refl)) in
        let down : s.cycle k ≤ next = elim n.later.holds.1 [
          | inl u ↦ (let i = listed_used past (k ∷ ks) e next u in let q = i.2 in elim i.1 [
            | inl a ↦ absurd (let l = n.last i.0 a in let m = n.later.holds.0 in omega arith)
            | inr (inl f) ↦ (let g = ap s.cycle f in omega arith)
            | inr (inr a) ↦ (let l = no_later past (k ∷ ks) e k i.0 (earlier_onto past (k ∷ ks) k i.0 (inl (refl, a))) in omega arith)
          ])
          | inr f ↦ (let b = before_end k here in omega arith)
        ] in
        omega arith

    all_apart : now < s.cycle k → (i : ℕ) → Among i past → s.cycle i ≢ s.cycle k
    all_apart lt i a = let l = n.last i a in omega arith

    -- a word with the head mark begins the next used cycle
    at_head : (w : ℕ) → IsFormOf s past k (get_or old k 0) w → is_head w ≡ true → now < s.cycle k
    at_head w f t = let q = n.used.2 in let d = (f.head.0 t) n.used.0 n.used.1 in let l = not_before in omega arith

    at_tail : (w : ℕ) → IsFormOf s past k (get_or old k 0) w → is_head w ≡ false → now ≡ s.cycle k
    at_tail w f t = elim (cases_eq now (s.cycle k)) [
      | inl q ↦ q
      | inr q ↦ absurd (let l = not_before in both_ways (is_head w) t (f.head.1 (all_apart (omega arith))))
    ]

  -- the times of all words, where the rest issues as scheduled
  record AreTimes (at ks : List ℕ) : Type 0 where
    cycles : issue_cycles (map word_pace words) ≡ at ++ map s.cycle ks
    end : block_end (map word_pace words) ≡ s.end

  one_more : (at ks : List ℕ) (k c : ℕ) → c ≡ s.cycle k → AreTimes (at ++ c ∷ []) ks → AreTimes at (k ∷ ks)
  one_more at ks k c e t =
      let moved : (at ++ c ∷ []) ++ map s.cycle ks ≡ at ++ (c ∷ map s.cycle ks) = grind (arith, common_steps) in
      record { cycles = t.cycles ∙ moved ∙ ap (λ n. at ++ (n ∷ map s.cycle ks)) e; end = t.end }

  none_left : (k : ℕ) → drop k words ≡ [] → take k words ≡ words
  none_left k e = take_all k words (let l = length_left words k in let z : length (drop k words) ≡ 0 = ap length e in omega arith)

  walk : (past ks ws : List ℕ) (now next k : ℕ) (at : List ℕ) → listed ≡ onto past ks → AreForms old s past ks ws → IsNow past now next →
      drop k words ≡ ws → Timed words k now next at → AreTimes at ks
  walk past [] [] now next k at e f n left t =
      let all = none_left k left in
      record {
        cycles = sym (t.cycles ∙ ap (λ l. issue_cycles (map word_pace l)) all) ∙ grind (arith, common_steps);
        end = sym (t.ends ∙ ap (λ l. block_end (map word_pace l)) all) ∙ ends past now next e n;
      }
  walk past [] (w ∷ ws) now next k at e f n left t = elim f [ ]
  walk past (i ∷ ks) [] now next k at e f n left t = elim f [ ]
  walk past (i ∷ ks) (w ∷ ws) now next k at e f n left t = go (λ a b m at' l u. walk (i ∷ past) ks ws a b (k + 1) at' e f.1 m l u) (is_head w) refl
    where
      nx : Next words k w ws
      nx = next_of words k w ws left

      go : ((a b : ℕ) → IsNow (i ∷ past) a b → (at' : List ℕ) → drop (k + 1) words ≡ ws → Timed words (k + 1) a b at' → AreTimes at' ks) → (b : Bool) → is_head w ≡ b → AreTimes at (i ∷ ks)
      go more true u =
          let lt = at_head past ks i now next e n w f.0 u in
          let same = next_used past ks i now next e n lt in
          let there : is_head (get_or words k 0) ≡ true = ap is_head nx.here ∙ u in
          let timed = timed_head words k now next at t nx.there there in
          let pause : next + (1 + pause_in (get_or words k 0)) ≡ s.cycle i + 1 + pause_in w = ap (λ v. next + (1 + pause_in v)) nx.here ∙ (omega arith) in
          one_more at ks i next same (more next (s.cycle i + 1 + pause_in w) (record {
            last = λ j a. elim a [ inl g ↦ (let q = ap s.cycle g in omega arith) | inr b ↦ (let l = n.last j b in omega arith) ];
            used = (i, inl refl, sym same);
            later = subst (λ c. IsLeast (IsLater s c) (s.cycle i + 1 + pause_in w)) (sym same) (f.0.pause u);
          }) (at ++ next ∷ []) nx.left (subst (λ m. Timed words (k + 1) next m (at ++ next ∷ [])) pause timed))
      go more false u =
          let same = at_tail past ks i now next e n w f.0 u in
          let there : is_head (get_or words k 0) ≡ false = ap is_head nx.here ∙ u in
          one_more at ks i now same (more now next (record {
            last = λ j a. elim a [ inl g ↦ (let q = ap s.cycle g in omega arith) | inr b ↦ n.last j b ];
            used = (i, inl refl, sym same);
            later = n.later;
          }) (at ++ now ∷ []) nx.left (timed_other words k now next at t nx.there there))

  -- the first word
  start : (l ws : List ℕ) → listed ≡ l → words ≡ ws → AreForms old s [] l ws → AreTimes [] l
  start [] ws e v f = absurd (subst (Among 0) e ((ls.complete.same 0).1 (h.complete 0 ok.some)))
  start (k ∷ ks) [] e v f = elim f [ ]
  start (k ∷ ks) (w ∷ ws) e v f = one_more [] ks k 0 (sym zero_first) (walk (k ∷ []) ks ws 0 (1 + pause_in w) 1 (0 ∷ []) e f.1 now nx.left timed)
    where
      zero_first : s.cycle k ≡ 0
      zero_first =
          let u = (schedules_are_close p s ok h).first in
          let i = listed_used [] (k ∷ ks) e 0 u in
          let q = i.2 in
          elim i.1 [
            | inl a ↦ elim a [ ]
            | inr (inl g) ↦ ap s.cycle g ∙ q
            | inr (inr a) ↦ (let l = no_later [] (k ∷ ks) e k i.0 (inl (refl, a)) in omega arith)
          ]

      head : is_head w ≡ true
      head = f.0.head.1 (λ i a. elim a [ ])

      nx : Next words 0 w ws
      nx = next_of words 0 w ws v

      now : IsNow (k ∷ []) 0 (1 + pause_in w)
      now = record {
        last = λ i a. elim a [ inl g ↦ (let q = ap s.cycle g in let z = zero_first in omega arith) | inr m ↦ elim m [ ] ];
        used = (k, inl refl, zero_first);
        later =
            let q : s.cycle k + 1 + pause_in w ≡ 1 + pause_in w = (let z = zero_first in omega arith) in
            subst (λ c. IsLeast (IsLater s c) (1 + pause_in w)) zero_first (subst (IsLeast (IsLater s (s.cycle k))) q (f.0.pause head));
      }

      nothing : Timed words 0 0 0 []
      nothing = record { cycles = refl; last = refl; ends = refl; early = omega arith }

      timed : Timed words 1 0 (1 + pause_in w) (0 ∷ [])
      timed =
          let q : 0 + (1 + pause_in (get_or words 0 0)) ≡ 1 + pause_in w = ap (λ v. 0 + (1 + pause_in v)) nx.here ∙ (omega arith) in
          subst (λ m. Timed words 1 0 m (0 ∷ [])) q (timed_head words 0 0 0 [] nothing nx.there (ap is_head nx.here ∙ head))

-- the times of the words of a form
pub record TimesAre (s : Schedule) (listed words : List ℕ) : Type 0 where
  pub cycles : issue_cycles (map word_pace words) ≡ map s.cycle listed
  pub end : block_end (map word_pace words) ≡ s.end

pub times_are : (p : Problem) (s : Schedule) (listed old words : List ℕ) → IsProblem p → IsSchedule p s → IsListing s listed → AreForms old s [] listed words → TimesAre s listed words
times_are p s listed old words ok h ls f = let r = start p s listed old words ok h ls listed words refl refl f in record { cycles = r.cycles; end = r.end }
