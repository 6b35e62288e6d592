-- One more operation is placed, by facts on the operations placed so far in any order.
use Rattle.std.proofs.Common.{◌≡◌, ℕ, List, [], ◌∷◌, ◌++◌, inl, inr, refl, sym, subst, arith}
use Rattle.std.specs.Prelude.{nat_eq}
use Rattle.serial_order.specs.Lists.{Among, EachOnce}
use Rattle.list_sched.specs.Extremes.{IsLeast}
use Rattle.machine_desc.specs.Issue.{keeps_busy}
use Rattle.serial_order.proofs.Onto.{onto, among_left, among_onto}
use Rattle.list_sched.proofs.Counts.{count_within}
use Rattle.list_sched.specs.Schedule.{Problem, IsProblem, IsReady, IsNext, CanIssue, ArePlaced, busy}
use Rattle.list_sched.proofs.Places.{placed_once}
use Rattle.list_sched.proofs.One.{can_issue_same}

-- two lists of the same numbers, each once
pub record AreSame (a b : List ℕ) : Type 0 where
  pub first : EachOnce a
  pub second : EachOnce b
  pub to : (k : ℕ) → Among k a → Among k b
  pub from : (k : ℕ) → Among k b → Among k a

once_onto : (xs ys : List ℕ) → EachOnce xs → EachOnce ys → ((k : ℕ) → Among k xs → ¬ (Among k ys)) → EachOnce (onto xs ys)
once_onto [] ys o q d = q
once_onto (x ∷ xs) ys o q d = once_onto xs (x ∷ ys) o.1 (d x (inl refl), q) (λ k a b. elim b [ inl e ↦ o.0 (subst (λ n. Among n xs) (sym e) a) | inr m ↦ d k (inr a) m ])

-- a list and its reverse
pub turned : (l : List ℕ) → EachOnce l → AreSame l (onto l [])
turned l o = record {
  first = o;
  second = once_onto l [] o tt (λ k a b. b);
  to = λ k a. among_left l [] k a;
  from = λ k a. elim (among_onto l [] k a) [ inl b ↦ b | inr b ↦ elim b [ ] ];
}

module _ (p : Problem) (a b : List ℕ) (s : AreSame a b) where
  ready_to : (i : ℕ) → IsReady p a i → IsReady p b i
  ready_to i r = record {
    inside = r.inside;
    unplaced = λ m. r.unplaced (s.from i m);
    after_all = λ k d. s.to k (r.after_all k d);
    branch_last = λ q k lt ne. s.to k (r.branch_last q k lt ne);
  }

  ready_from : (i : ℕ) → IsReady p b i → IsReady p a i
  ready_from i r = record {
    inside = r.inside;
    unplaced = λ m. r.unplaced (s.to i m);
    after_all = λ k d. s.from k (r.after_all k d);
    branch_last = λ q k lt ne. s.from k (r.branch_last q k lt ne);
  }

  pub next_to : (h : ℕ → ℕ) (i : ℕ) → IsNext p h a i → IsNext p h b i
  next_to h i n = record { ready = ready_to i n.ready; first = λ k r. n.first k (ready_from k r) }

  issue_to : (cycle : ℕ → ℕ) (i c : ℕ) → CanIssue p cycle a i c → CanIssue p cycle b i c
  issue_to cycle i c q = record {
    room = record {
      width = let w = q.room.width in let m = count_within (λ k. nat_eq (cycle k) c) b a s.second s.from in omega arith;
      units = λ t from before. let w = q.room.units t from before in let m = count_within (keeps_busy p.unit (p.unit i) cycle (busy p) t) b a s.second s.from in omega arith;
    };
    delays = q.delays;
    lands_last = λ u k m. q.lands_last u k (s.from k m);
  }

flipped : (a b : List ℕ) → AreSame a b → AreSame b a
flipped a b s = record { first = s.second; second = s.first; to = s.from; from = s.to }

pub least_to : (p : Problem) (a b : List ℕ) → AreSame a b → (cycle : ℕ → ℕ) (i c : ℕ) → IsLeast (CanIssue p cycle a i) c → IsLeast (CanIssue p cycle b i) c
least_to p a b s cycle i c l = record { holds = issue_to p a b s cycle i c l.holds; least = λ m q. l.least m (issue_to p b a (flipped a b s) cycle i m q) }

placed_on : (p : Problem) (h cycle : ℕ → ℕ) (past rest : List ℕ) (i : ℕ) → ArePlaced p h cycle past rest → IsNext p h (onto rest past) i → IsLeast (CanIssue p cycle (onto rest past) i) (cycle i) → ArePlaced p h cycle past (rest ++ i ∷ [])
placed_on p h cycle past [] i a n l = (n, l, tt)
placed_on p h cycle past (k ∷ ks) i a n l = (a.0, a.1, placed_on p h cycle (k ∷ past) ks i a.2 n l)

-- the operation that comes next is placed after those of the order
pub placed_push : (p : Problem) (h cycle : ℕ → ℕ) (order : List ℕ) (i : ℕ) → ArePlaced p h cycle [] order → IsNext p h order i → IsLeast (CanIssue p cycle order i) (cycle i) → ArePlaced p h cycle [] (order ++ i ∷ [])
placed_push p h cycle order i a n l =
    let s = turned order (placed_once p h cycle [] order a) in
    placed_on p h cycle [] order i a (next_to p order (onto order []) s h i n) (least_to p order (onto order []) s cycle i (cycle i) l)

-- what is placed stays so where its cycles do
pub placed_agree : (p : Problem) → IsProblem p → (h cycle cycle' : ℕ → ℕ) (past rest : List ℕ) → ((k : ℕ) → Among k past → cycle k ≡ cycle' k) → ((k : ℕ) → Among k rest → cycle k ≡ cycle' k) → ArePlaced p h cycle past rest → ArePlaced p h cycle' past rest
placed_agree p ok h cycle cycle' past [] e f a = tt
placed_agree p ok h cycle cycle' past (i ∷ rest) e f a = (
  a.0,
  subst (IsLeast (CanIssue p cycle' past i)) (f i (inl refl)) (record {
    holds = can_issue_same p ok cycle cycle' past i (cycle i) e a.0.ready.after_all a.1.holds;
    least = λ m q. a.1.least m (can_issue_same p ok cycle' cycle past i m (λ k b. sym (e k b)) a.0.ready.after_all q);
  }),
  placed_agree p ok h cycle cycle' (i ∷ past) rest (λ k b. elim b [ inl g ↦ subst (λ n. cycle n ≡ cycle' n) g (f i (inl refl)) | inr c ↦ e k c ]) (λ k b. f k (inr b)) a.2,
)
