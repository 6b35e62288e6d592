-- Programs of blocks that end alike mean the same.
use Rattle.timed_meaning.specs.declared.Answer.{Answer}
use Rattle.timed_meaning.specs.declared.Answer.TheVariants.{GoOn, GoTo, Stop}
use Rattle.std.proofs.Common.{◌≡◌, ℕ, zero, suc, ◌+◌, ◌-◌, true, false, cond, List, [], ◌∷◌, ◌++◌, refl, sym, ap, subst, ◌∙◌, Option, Some, None, length}
use Rattle.std.specs.Prelude.{nat_eq, find, replicate}
use Rattle.std.specs.List.{AllZip}
use Rattle.operation.specs.declared.TrapKind.TheVariants.{BadTarget}
use Rattle.operation.specs.declared.End.TheVariants as end
use Rattle.timed_meaning.specs.Values.{State}
use Rattle.timed_meaning.specs.Block.{Start, Ending, Ended, Trapped, block}
use Rattle.timed_meaning.specs.Program.{Block, Program, Next, Goes, Ends, Meaning, first_state, block_at, goes_to, follows, advance, mean_from, mean, after}
use Rattle.two_timings.specs.Timing.{timed_ops}
use Rattle.two_timings.specs.Law.{EndsAlike, AreAlikeBlocks, AreAlikeButForTimes, ProgramsMeanTheSame}
use Rattle.two_timings.proofs.TwoTimings.{timings_that_agree_do_the_same}

-- both find nothing, or two such blocks
abbrev BothFind : Option Block → Option Block → Type 0
BothFind None None = Unit {0}
BothFind (Some a) (Some b) = AreAlikeBlocks a b
BothFind None (Some b) = ⊥
BothFind (Some a) None = ⊥

find_both :
    (xs ys : List Block) (e : ℕ) → AllZip AreAlikeBlocks xs ys →
    BothFind (find (λ b. nat_eq b.entry e) xs) (find (λ b. nat_eq b.entry e) ys)
find_both [] [] e h = tt
find_both [] (b ∷ bs) e h = elim h [ ]
find_both (a ∷ xs) [] e h = elim h [ ]
find_both (a ∷ xs) (b ∷ ys) e h =
    let rest = find_both xs ys e h.1 in
    let fx = find (λ b. nat_eq b.entry e) xs in
    let fy = find (λ b. nat_eq b.entry e) ys in
    subst (λ n. BothFind (cond (nat_eq a.entry e) (Some a) fx) (cond (nat_eq n e) (Some b) fy)) h.0.entry
    (elim (nat_eq a.entry e) as (λ t. BothFind (cond t (Some a) fx) (cond t (Some b) fy)) [ true ↦ h.0 | false ↦ rest ])

module _ (p q : Program) (alike : AreAlikeButForTimes p q) (input : List ℕ) (limit : ℕ) where
  block_both : (e : ℕ) → BothFind (block_at p e) (block_at q e)
  block_both e = find_both p.blocks q.blocks e alike.blocks

  -- ---- one block

  abbrev to_block : ℕ → ℕ → State → Option Block → Next
  to_block from to s f = elim f [
    | None ↦ Ends (end.Trapped (record { kind = BadTarget; block = from; detail = to })) 1 s.output s.memory
    | Some b ↦ Goes to s
  ]

  goes_same : (from to : ℕ) (s : State) → goes_to p from to s ≡ goes_to q from to s
  goes_same from to s = go (block_at p to) (block_at q to) (block_both to)
    where
      go : (f g : Option Block) → BothFind f g → to_block from to s f ≡ to_block from to s g
      go None None h = refl
      go (Some a) (Some b) h = refl
      go None (Some b) h = elim h [ ]
      go (Some a) None h = elim h [ ]

  follows_one :
      (from : ℕ) (next : Option ℕ) (s : State) (x : Answer) →
      follows p from next (Ended s x) ≡ follows q from next (Ended s x)
  follows_one from next s GoOn = refl
  follows_one from next s (GoTo to) = goes_same from to s
  follows_one from next s (Stop code) = refl

  follows_same :
      (from : ℕ) (next : Option ℕ) (a b : List ℕ) (e f : Ending) → EndsAlike a b e f →
      follows p from next e ≡ follows q from next f
  follows_same from next a b (Ended s x) (Ended t y) h = let f = h.0 in let g = h.1 in follows_one from next s x ∙ cc
  follows_same from next a b (Trapped t k out mem) (Trapped u j out' mem') h = let f = h.0 in let g = h.2 in let i = h.3 in cc
  follows_same from next a b (Ended s x) (Trapped u j out' mem') h = elim h [ ]
  follows_same from next a b (Trapped t k out mem) (Ended s x) h = elim h [ ]

  abbrev start : State → Option ℕ → Start
  start s next = record { state = s; input = input; next = next; limit = limit }

  abbrev through : Program → ℕ → State → Option Block → Next
  through r entry s f = elim f [ None ↦ Goes entry s | Some b ↦ follows r entry b.next (block (start s b.next) b.ops) ]

  advance_same : (entry : ℕ) (s : State) → advance p input limit entry s ≡ advance q input limit entry s
  advance_same entry s = go (block_at p entry) (block_at q entry) (block_both entry)
    where
      go : (f g : Option Block) → BothFind f g → through p entry s f ≡ through q entry s g
      go None None h = refl
      go (Some a) (Some b) h =
          let same = timings_that_agree_do_the_same h.ops h.order h.first h.second h.agree (start s a.next) in
          ap (λ ks. follows p entry a.next (block (start s a.next) ks)) h.first_ops
          ∙ follows_same entry a.next h.first.listed h.second.listed (block (start s a.next) (timed_ops h.ops h.first)) (block (start s a.next) (timed_ops h.ops h.second)) same
          ∙ ap (λ ks. follows q entry a.next (block (start s a.next) ks)) (sym h.second_ops)
          ∙ ap (λ n. follows q entry n (block (start s n) b.ops)) h.next
      go None (Some b) h = elim h [ ]
      go (Some a) None h = elim h [ ]

  -- ---- a run

  abbrev onward : Program → ℕ → ℕ → Next → Meaning
  onward r n k x = elim x [
    | Goes to s ↦ mean_from r input limit n (k + 1) to s
    | Ends e j out mem ↦ record { end = e; blocks = k + j; output = out; memory = mem }
  ]

  mean_same : (n k entry : ℕ) (s : State) → mean_from p input limit n k entry s ≡ mean_from q input limit n k entry s
  mean_same zero k entry s = refl
  mean_same (suc n) k entry s = ap (onward p n k) (advance_same entry s) ∙ go (mean_same n (k + 1)) (advance q input limit entry s)
    where
      go :
          ((to : ℕ) (t : State) → mean_from p input limit n (k + 1) to t ≡ mean_from q input limit n (k + 1) to t) →
          (x : Next) → onward p n k x ≡ onward q n k x
      go f (Goes to t) = f to t
      go f (Ends e j out mem) = refl

  abbrev state_of : ℕ → List ℕ → State
  state_of memory init =
      record {
        general = replicate 32 0;
        predicates = true ∷ replicate 31 false;
        targets = replicate 8 0;
        memory = init ++ replicate (memory - length init) 0;
        output = [];
        position = 0;
      }

  first_same : first_state p ≡ first_state q
  first_same = ap (λ m. state_of m p.init) alike.memory ∙ ap (state_of q.memory) alike.init

  abbrev go_on : Program → Option (State × ℕ) → Option (State × ℕ)
  go_on r o = elim o [
    | None ↦ None
    | Some at ↦ elim (advance r input limit at.1 at.0) [ Goes entry s ↦ Some (s, entry) | Ends e k out mem ↦ None ]
  ]

  after_same : (n : ℕ) → after p input limit n ≡ after q input limit n
  after_same zero = ap (λ s. Some (s, p.entry)) first_same ∙ ap (λ e. Some (first_state q, e)) alike.entry
  after_same (suc n) = ap (go_on p) (after_same n) ∙ go (after q input limit n)
    where
      go : (o : Option (State × ℕ)) → go_on p o ≡ go_on q o
      go None = refl
      go (Some at) = ap (λ x. elim x [ Goes entry s ↦ Some (s, entry) | Ends e k out mem ↦ None ]) (advance_same at.1 at.0)

  meaning_same : (n : ℕ) → mean p input limit n ≡ mean q input limit n
  meaning_same n =
      mean_same n 0 p.entry (first_state p)
      ∙ ap (mean_from q input limit n 0 p.entry) first_same
      ∙ ap (λ e. mean_from q input limit n 0 e (first_state q)) alike.entry

pub programs_alike_mean_the_same : ProgramsMeanTheSame
programs_alike_mean_the_same p q alike input limit n = (meaning_same p q alike input limit n, after_same p q alike input limit n)
