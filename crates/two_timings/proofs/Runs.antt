-- What each operation of a timing does, and where its run ends.
use Rattle.timed_meaning.specs.declared.Answer.TheVariants.{GoOn}
use Rattle.std.proofs.Common.{◌≡◌, ℕ, true, false, cond, List, [], ◌∷◌, ◌⊎◌, inl, inr, refl, sym, ap, subst, ◌∙◌, Option, Some, None, arith, map, length}
use Rattle.std.specs.Prelude.{nat_eq, nat_le, slice_get}
use Rattle.std.proofs.lemmas.Bool.{ne_eqb, eq-eqb}
use Rattle.operation.specs.declared.Guarded.{Guarded}
use Rattle.operation.specs.declared.Trap.{Trap}
use Rattle.timed_meaning.specs.Values.{value_at}
use Rattle.timed_meaning.specs.Block.{Start, Progress, Act, Ran, Through, Stopped, fresh, act, operands, issued, run}
use Rattle.serial_order.specs.Lists.{Among, EachOnce}
use Rattle.two_timings.specs.Timing.{Timing, timed, lands}
use Rattle.serial_order.proofs.Onto.{onto}
use Rattle.two_timings.proofs.Fronts.{Stand}
use Rattle.two_timings.proofs.Acts.{IsActOf}
use Rattle.two_timings.proofs.Folds.{folded, put_out, take_in, answer_by}
use Rattle.two_timings.proofs.Values.{gathered}

module _ (ops : ℕ → Guarded) (t : Timing) (c : Start) where
  -- what has been done when these operations have issued, the latest first, and each has done what acts says
  abbrev pub progress : (ℕ → Act) → List ℕ → Progress
  progress acts ks =
      record {
        count = length ks;
        writes = gathered acts (lands ops t) ks;
        output = folded put_out acts c.state.output ks;
        position = folded take_in acts c.state.position ks;
        answer = folded answer_by acts GoOn ks;
      }

  -- the same with another count
  abbrev counted : (ℕ → Act) → List ℕ → ℕ → Progress
  counted acts ks n = record (progress acts ks) { count = n }

  next_progress :
      (acts : ℕ → Act) (k : ℕ) (ks : List ℕ) → issued (timed ops t k) (acts k) (progress acts ks) ≡ progress acts (k ∷ ks)
  next_progress acts k ks = ap (counted acts (k ∷ ks)) (omega arith)

  -- each of the listed operations does what acts says, when the earlier ones have issued
  abbrev pub Does : (ℕ → Act) → List ℕ → List ℕ → Type 0
  Does acts past [] = Unit {0}
  Does acts past (k ∷ ks) = (acts k ≡ act c (timed ops t k) (progress acts past)) × Does acts (k ∷ past) ks

  pub does_at : (acts : ℕ → Act) (past rest : List ℕ) → Does acts [] (onto past rest) → Does acts past rest
  does_at acts [] rest d = d
  does_at acts (x ∷ xs) rest d = (does_at acts xs (x ∷ rest) d).1

  -- ---- what the operation of a number does in a run that goes on past traps

  abbrev act_at : Progress → ℕ → Act
  act_at p k = act c (timed ops t k) p

  abbrev found : Progress → List ℕ → ℕ → Act
  found p [] k = act_at p k
  found p (j ∷ js) k = cond (nat_eq k j) (act_at p k) (found (issued (timed ops t j) (act_at p j) p) js k)

  abbrev pub acts_of : ℕ → Act
  acts_of k = found (fresh c.state) t.listed k

  act_is : (p : Progress) (k : ℕ) → IsActOf (ops k) (act_at p k)
  act_is p k =
      record {
        value = value_at c.state p.writes (t.at k);
        byte = slice_get c.input p.position;
        next = c.next;
        operands = operands (ops k) (value_at c.state p.writes (t.at k)) (length c.state.memory) (nat_le c.limit (length p.output));
        is = refl;
      }

  found_is : (p : Progress) (l : List ℕ) (k : ℕ) → IsActOf (ops k) (found p l k)
  found_is p [] k = act_is p k
  found_is p (j ∷ js) k =
      elim (nat_eq k j) as (λ b. IsActOf (ops k) (cond b (act_at p k) (found (issued (timed ops t j) (act_at p j) p) js k))) [
        | true ↦ act_is p k
        | false ↦ found_is (issued (timed ops t j) (act_at p j) p) js k
      ]

  pub acts_are : (k : ℕ) → IsActOf (ops k) (acts_of k)
  acts_are k = found_is (fresh c.state) t.listed k

  found_does :
      (p : Progress) (past l : List ℕ) → EachOnce l → progress acts_of past ≡ p →
      ((k : ℕ) → Among k l → acts_of k ≡ found p l k) → Does acts_of past l
  found_does p past [] o e h = tt
  found_does p past (j ∷ js) o e h =
      let q : Progress = issued (timed ops t j) (act_at p j) p in
      let here : acts_of j ≡ act_at p j = h j (inl refl) ∙ ap (λ b. cond b (act_at p j) (found q js j)) (eq-eqb j j refl) in
      let next : progress acts_of (j ∷ past) ≡ q =
      sym (next_progress acts_of j past) ∙ ap (λ a. issued (timed ops t j) a (progress acts_of past)) here ∙ ap (issued (timed ops t j) (act_at p j)) e in (
        here ∙ ap (act c (timed ops t j)) (sym e),
        found_does q (j ∷ past) js o.1 next (λ k a. h k (inr a) ∙ ap (λ b. cond b (act_at p k) (found q js k)) (ne_eqb k j (λ f. o.0 (subst (λ n. Among n js) f a)))),
      )

  pub acts_do : EachOnce t.listed → Does acts_of [] t.listed
  acts_do o = found_does (fresh c.state) [] t.listed o refl (λ k a. refl)

  -- ---- the run up to the first trap

  abbrev ran : (ℕ → Act) → List ℕ → List ℕ → Ran
  ran acts past l = run c (map (timed ops t) l) (progress acts past)

  abbrev step_on : ℕ → List ℕ → Progress → Act → Ran
  step_on k ks p a = elim a.trap [ None ↦ run c (map (timed ops t) ks) (issued (timed ops t k) a p) | Some x ↦ Stopped x p ]

  -- the next operation issues, or stops the run
  one_step :
      (acts : ℕ → Act) (past : List ℕ) (k : ℕ) (ks : List ℕ) → acts k ≡ act_at (progress acts past) k → (o : Option Trap) →
      (acts k).trap ≡ o →
      ran acts past (k ∷ ks) ≡ elim o [ None ↦ ran acts (k ∷ past) ks | Some x ↦ Stopped x (progress acts past) ]
  one_step acts past k ks d o e =
      ap (step_on k ks (progress acts past)) (sym d)
      ∙ ap (λ q. elim (acts k).trap [ None ↦ run c (map (timed ops t) ks) q | Some x ↦ Stopped x (progress acts past) ]) (next_progress acts k past)
      ∙ ap (λ u. elim u [ None ↦ ran acts (k ∷ past) ks | Some x ↦ Stopped x (progress acts past) ]) e

  -- none of the operations left traps, and all issue
  pub record RunsThrough (acts : ℕ → Act) (past l : List ℕ) : Type 0 where
    pub none : (k : ℕ) → Among k l → (acts k).trap ≡ None
    pub is : ran acts past l ≡ Through (progress acts (onto l past))

  -- one is the first to trap
  pub record StopsAt (acts : ℕ → Act) (past l : List ℕ) : Type 0 where
    pub by : ℕ
    pub stand : Stand (onto past l) by
    pub trap : Trap
    pub traps : (acts by).trap ≡ Some trap
    pub none : (k : ℕ) → Among k stand.past → (acts k).trap ≡ None
    pub is : ran acts past l ≡ Stopped trap (progress acts stand.past)

  ends_from :
      (acts : ℕ → Act) (past l : List ℕ) → ((k : ℕ) → Among k past → (acts k).trap ≡ None) → Does acts past l →
      RunsThrough acts past l ⊎ StopsAt acts past l
  ends_from acts past [] n d = inl (record { none = λ k a. elim a [ ]; is = refl })
  ends_from acts past (k ∷ ks) n d = go (λ m. ends_from acts (k ∷ past) ks m d.1) (acts k).trap refl
    where
      one : (acts k).trap ≡ None → (i : ℕ) → Among i (k ∷ past) → (acts i).trap ≡ None
      one e i (inl f) = subst (λ m. (acts m).trap ≡ None) f e
      one e i (inr a) = n i a

      more :
          (acts k).trap ≡ None → RunsThrough acts (k ∷ past) ks ⊎ StopsAt acts (k ∷ past) ks →
          RunsThrough acts past (k ∷ ks) ⊎ StopsAt acts past (k ∷ ks)
      more e (inl r) =
          inl (record {
            none = λ i a. elim a [ inl f ↦ subst (λ m. (acts m).trap ≡ None) f e | inr b ↦ r.none i b ];
            is = one_step acts past k ks d.0 None e ∙ r.is;
          })
      more e (inr s) =
          inr (record { by = s.by; stand = s.stand; trap = s.trap; traps = s.traps; none = s.none; is = one_step acts past k ks d.0 None e ∙ s.is })

      go :
          (((i : ℕ) → Among i (k ∷ past) → (acts i).trap ≡ None) → RunsThrough acts (k ∷ past) ks ⊎ StopsAt acts (k ∷ past) ks) →
          (o : Option Trap) → (acts k).trap ≡ o → RunsThrough acts past (k ∷ ks) ⊎ StopsAt acts past (k ∷ ks)
      go f None e = more e (f (one e))
      go f (Some x) e =
          inr (record {
            by = k;
            stand = record { past = past; rest = ks; split = refl };
            trap = x;
            traps = e;
            none = n;
            is = one_step acts past k ks d.0 (Some x) e;
          })

  pub run_ends : (acts : ℕ → Act) → Does acts [] t.listed → RunsThrough acts [] t.listed ⊎ StopsAt acts [] t.listed
  run_ends acts d = ends_from acts [] t.listed (λ k a. elim a [ ]) d
