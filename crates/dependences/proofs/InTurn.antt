-- The list is in turn: what its places say of two accesses to one place.
use Rattle.std.proofs.Common.{◌≡◌, ℕ, ◌<◌, ◌≤◌, List, length, inl, inr, sym, ap, arith}
use Rattle.std.proofs.lemmas.Bool.{cases_order}
use Rattle.timed_meaning.specs.declared.TimedOp.{TimedOp}
use Rattle.dependences.specs.declared.access.Access.{Access}
use Rattle.dependences.specs.Accesses.{access_at, IsInTurn, AreAccesses}

-- an access that isn't behind another one
record NotBehind (a b : Access) : Type 0 where
  by_place : a.place ≤ b.place
  by_time : a.place ≡ b.place → a.time ≤ b.time
  by_number : a.place ≡ b.place → a.time ≡ b.time → a.number ≤ b.number

not_behind : (a b : Access) → IsInTurn a b → NotBehind a b
not_behind a b (inl p) = record { by_place = omega arith; by_time = λ e. omega arith; by_number = λ e f. omega arith }
not_behind a b (inr (e, inl t)) = record { by_place = omega arith; by_time = λ e. omega arith; by_number = λ e f. omega arith }
not_behind a b (inr (e, inr (f, m))) = record { by_place = omega arith; by_time = λ e. omega arith; by_number = λ e f. m }

module _ (ops : ℕ → TimedOp) (n : ℕ) (list : List Access) (are : AreAccesses ops n list) where
  turn : (p q : ℕ) → p < q → q < length list → NotBehind (access_at list p) (access_at list q)
  turn p q lt inside = not_behind (access_at list p) (access_at list q) (are.in_turn p q lt inside)

  pub not_later : (p q : ℕ) → p < q → q < length list → (access_at list p).place ≡ (access_at list q).place →
      (access_at list p).time ≤ (access_at list q).time
  not_later p q lt inside e = (turn p q lt inside).by_time e

  pub not_above : (p q : ℕ) → p < q → q < length list → (access_at list p).place ≡ (access_at list q).place →
      (access_at list p).time ≡ (access_at list q).time → (access_at list p).number ≤ (access_at list q).number
  not_above p q lt inside e f = (turn p q lt inside).by_number e f

  -- all between two accesses to a place are to it
  pub between : (p k q : ℕ) → p < k → k < q → q < length list → (access_at list p).place ≡ (access_at list q).place →
      (access_at list p).place ≡ (access_at list k).place
  between p k q after before inside e =
      let a = (turn p k after (omega arith)).by_place in
      let b = (turn k q before inside).by_place in
      omega arith

  -- and the earlier one stands first
  pub earlier_first : (p q : ℕ) → p < length list → q < length list → (access_at list p).place ≡ (access_at list q).place →
      (access_at list p).time < (access_at list q).time → p < q
  earlier_first p q low high e lt = elim (cases_order p q) [
    | inl same ↦ absurd (let f = ap (λ k. (access_at list k).time) same in omega arith)
    | inr (inl before) ↦ before
    | inr (inr behind) ↦ absurd (let t = not_later q p behind low (sym e) in omega arith)
  ]
