-- Each program has the number of the first that is the same.
use Rattle.std.proofs.Common.{◌≡◌, ◌<◌, ◌≤◌, ◌⊎◌, inl, inr, ℕ, List, [], ◌∷◌, ◌++◌, length, length-append, refl, sym, subst, Some, arith}
use Rattle.std.specs.Prelude.{slice_get}
use Rattle.std.proofs.lemmas.Bool.{cases_lt}
use Rattle.std.proofs.lemmas.Option.{slice_get_within}
use Rattle.page_fault.specs.declared.Loaded.{Loaded}
use Rattle.contexts.specs.declared.Setup.{Setup}
use Rattle.contexts.specs.declared.seat.Seat as code
use Rattle.contexts.specs.Standing.{AreSame, IsFirstSame, IsBegun, AreBegun}
use Rattle.contexts.proofs.Lists.{of_more}

-- of a program that is among some, the first that is the same is among them
pub first_within : (programs : List Loaded) (p : Loaded) (n c : ℕ) → slice_get programs c ≡ Some p → IsFirstSame programs p n → n < length programs
first_within programs p n c at h = go (cases_lt n (length programs))
  where
    within : c < length programs
    within = slice_get_within programs c p at

    go : (n < length programs) ⊎ (length programs ≤ n) → n < length programs
    go (inl lt) = lt
    go (inr ge) = let w = within in absurd (h.first c p (omega arith) at (record { image = refl; generation = refl }))

-- no program before it is the same, with one more behind them neither
first_of_more : (programs : List Loaded) (p q : Loaded) (n : ℕ) → IsFirstSame programs p n →
    (m : ℕ) (r : Loaded) → m < n → slice_get (programs ++ q ∷ []) m ≡ Some r → AreSame r p → ⊥
first_of_more programs p q n h m r lt at same = go (of_more programs q m r at)
  where
    go : ((m < length programs) × (slice_get programs m ≡ Some r)) ⊎ ((m ≡ length programs) × (r ≡ q)) → ⊥
    go (inl (below, there)) = h.first m r lt there same
    go (inr (end, own)) = let within = h.within in omega arith

-- one more program behind those of which a program is one
pub stays_first : (programs : List Loaded) (p q : Loaded) (n c : ℕ) → slice_get programs c ≡ Some p → IsFirstSame programs p n → IsFirstSame (programs ++ q ∷ []) p n
stays_first programs p q n c at h = record {
  within = let more = length-append programs (q ∷ []) in let within = h.within in omega arith;
  same = λ r e. go r (of_more programs q n r e);
  first = first_of_more programs p q n h;
}
  where
    go : (r : Loaded) → ((n < length programs) × (slice_get programs n ≡ Some r)) ⊎ ((n ≡ length programs) × (r ≡ q)) → AreSame r p
    go r (inl (below, there)) = h.same r there
    go r (inr (end, own)) = let below = first_within programs p n c at h in absurd (omega arith)

-- the program itself behind them
pub own_first : (programs : List Loaded) (p : Loaded) (n : ℕ) → IsFirstSame programs p n → IsFirstSame (programs ++ p ∷ []) p n
own_first programs p n h = record {
  within = let more = length-append programs (p ∷ []) in let within = h.within in omega arith;
  same = λ r e. go r (of_more programs p n r e);
  first = first_of_more programs p p n h;
}
  where
    go : (r : Loaded) → ((n < length programs) × (slice_get programs n ≡ Some r)) ⊎ ((n ≡ length programs) × (r ≡ p)) → AreSame r p
    go r (inl (below, there)) = h.same r there
    go r (inr (end, own)) = subst (λ (q : Loaded). AreSame q p) (sym own) (record { image = refl; generation = refl })

-- none is begun
pub none_begun : AreBegun [] [] []
none_begun = record { as_many = refl; own = refl; each = λ c given seat p e f g. absurd (let no : ⊥ = cc in no) }

-- one more is begun behind some
pub one_more : (setups : List Setup) (seats : List code.Seat) (programs : List Loaded) (given : Setup) (seat : code.Seat) (p : Loaded) →
    AreBegun setups seats programs → IsBegun given seat p → IsFirstSame programs p seat.program →
    AreBegun (setups ++ given ∷ []) (seats ++ seat ∷ []) (programs ++ p ∷ [])
one_more setups seats programs given seat p all begun number = record {
  as_many = let a = length-append setups (given ∷ []) in let b = length-append seats (seat ∷ []) in let m = all.as_many in omega arith;
  own = let a = length-append setups (given ∷ []) in let b = length-append programs (p ∷ []) in let m = all.own in omega arith;
  each = λ c x s q e f g. go c x s q (of_more setups given c x e) (of_more seats seat c s f) (of_more programs p c q g);
}
  where
    go : (c : ℕ) (x : Setup) (s : code.Seat) (q : Loaded) →
        ((c < length setups) × (slice_get setups c ≡ Some x)) ⊎ ((c ≡ length setups) × (x ≡ given)) →
        ((c < length seats) × (slice_get seats c ≡ Some s)) ⊎ ((c ≡ length seats) × (s ≡ seat)) →
        ((c < length programs) × (slice_get programs c ≡ Some q)) ⊎ ((c ≡ length programs) × (q ≡ p)) →
        IsBegun x s q × IsFirstSame (programs ++ p ∷ []) q s.program
    go c x s q (inl (k, e)) (inl (l, f)) (inl (m, g)) =
        let own = all.each c x s q e f g in (own.0, stays_first programs q p s.program c g own.1)
    go c x s q (inr (k, e)) (inr (l, f)) (inr (m, g)) = (
      subst (λ (x : Setup). IsBegun x s q) (sym e) (subst (λ (s : code.Seat). IsBegun given s q) (sym f) (subst (IsBegun given seat) (sym g) begun)),
      subst (λ (q : Loaded). IsFirstSame (programs ++ p ∷ []) q s.program) (sym g)
          (subst (λ (s : code.Seat). IsFirstSame (programs ++ p ∷ []) p s.program) (sym f) (own_first programs p seat.program number)),
    )
    go c x s q (inl (k, e)) (inr (l, f)) h = let m = all.as_many in absurd (omega arith)
    go c x s q (inr (k, e)) (inl (l, f)) h = let m = all.as_many in absurd (omega arith)
    go c x s q (inl (k, e)) (inl (l, f)) (inr (m, g)) = let n = all.own in absurd (omega arith)
    go c x s q (inr (k, e)) (inr (l, f)) (inl (m, g)) = let n = all.own in absurd (omega arith)
