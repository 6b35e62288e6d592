-- A context has the meaning of its image's program.
use Rattle.std.proofs.Common.{◌≡◌, ℕ, zero, suc, ◌+◌, ◌-◌, ◌<◌, ◌≤◌, Bool, true, false, cond, List, [], ◌∷◌, refl, sym, ap, subst, ◌∙◌, Option, Some, None, arith}
use Rattle.std.specs.Prelude.{find, nat_lt, option_map}
use Rattle.std.proofs.lemmas.Bool.{ltb-true, ltb-false}
use Rattle.std.proofs.lemmas.Option.{MatchOption-at_some}
use Rattle.operation.specs.declared.End.{End}
use Rattle.operation.specs.declared.End.TheVariants as end
use Rattle.operation.specs.declared.TrapKind.TheVariants.{BadTarget}
use Rattle.timed_meaning.specs.declared.TimedOp.{TimedOp}
use Rattle.timed_meaning.specs.declared.Answer.{Answer}
use Rattle.timed_meaning.specs.declared.Answer.TheVariants.{GoOn, GoTo, Stop}
use Rattle.timed_meaning.specs.Values.{State}
use Rattle.timed_meaning.specs.Block.{Start, Ran, Through, Stopped, Ending, Ended, Trapped, fresh, run, ending, block, state_after}
use Rattle.timed_meaning.specs.Program.{Block, Program, Next, Goes, Ends, Meaning, first_state, block_at, follows, advance, after, mean, mean_from}
use Rattle.timed_meaning.proofs.Afterwards.{stands, stands_from, after-suc, goes_on_from_after_lem, ends_by_its_bound_lem}
use Rattle.block_steps.specs.Steps.{Moment, Outcome, Going, AtEnd, AtTrap, at_entry, start_in, next_issue, step as block_step}
use Rattle.block_steps.specs.Laws.{IsInOrder, IsWhole, IsMomentOf, BeginsAsMeant, ComesAsMeant, StepsAsMeant, LandsWhole}
use Rattle.context_system.specs.Context.{Setup, Context, running, opened, end_by_bound, behind_block, behind_step, played_on, turn}
use Rattle.context_system.specs.Turns.{turns}
use Rattle.context_system.specs.Meant.{come_to}
use Rattle.context_system.proofs.Setups.{turn_keeps}

-- the next MultiOp issues later
pub next_is_later : (t n : ℕ) (ks : List TimedOp) → next_issue t ks ≡ Some n → t < n
next_is_later t n [] h = absurd (let no : ⊥ = cc in no)
next_is_later t n (k ∷ ks) h = go (next_is_later t n ks) (nat_lt t k.at) refl h
  where
    go : (next_issue t ks ≡ Some n → t < n) → (b : Bool) → nat_lt t k.at ≡ b →
        option_map (λ (k : TimedOp). k.at) (cond b (Some k) (find (λ k. nat_lt t k.at) ks)) ≡ Some n → t < n
    go ih true e h = let same : k.at ≡ n = cc in let lt : t < k.at = ltb-true t k.at e in omega arith
    go ih false e h = ih h

-- a state that a block ends with is a state of the machine
ended_whole : LandsWhole → (c : Start) (ks : List TimedOp) (s : State) (a : Answer) → block c ks ≡ Ended s a → IsWhole s
ended_whole lands c ks s a h = go (run c ks (fresh c.state)) h
  where
    go : (r : Ran) → ending c.state r ≡ Ended s a → IsWhole s
    go (Through p) e = let same : state_after c.state p ≡ s = cc in subst IsWhole same (lands c.state p)
    go (Stopped t p) e = absurd (let no : ⊥ = cc in no)

-- what follows a block goes on from the moment behind it, or ends with its output and memory
abbrev Lands : Moment → Next → Type 0
Lands m (Goes to s) = (s ≡ m.state) × IsWhole m.state
Lands m (Ends e k output memory) = (output ≡ m.state.output) × (memory ≡ m.state.memory)

module _ (p : Program) where
  follows_lands : (from : ℕ) (next : Option ℕ) (m : Moment) (a : Answer) → IsWhole m.state → Lands m (follows p from next (Ended m.state a))
  follows_lands from None m GoOn w = (refl, w)
  follows_lands from (Some to) m GoOn w = (refl, w)
  follows_lands from next m (GoTo to) w =
      elim (block_at p to) as (λ o. Lands m (elim o [ None ↦ Ends (end.Trapped (record { kind = BadTarget; block = from; detail = to })) 1 m.state.output m.state.memory | Some b ↦ Goes to m.state ]))
      [ None ↦ (refl, refl) | Some b ↦ (refl, w) ]
  follows_lands from next m (Stop code) w = (refl, refl)

-- ---- one context

-- what a setup needs for its context to be played
pub record IsFit (s : Setup) : Type 0 where
  pub in_order : (entry : ℕ) (b : Block) → block_at (running s) entry ≡ Some b → IsInOrder b
  pub some : 0 < s.bound

-- the state and the entry when so many blocks have ended, as it runs
abbrev reaches : Setup → ℕ → Option (State × ℕ)
reaches s n = after (running s) s.input s.limit n

-- it is inside a block that begins when so many blocks have ended
pub record IsOn (x : Context) : Type 0 where
  pub begun : State
  pub reached : reaches x.setup x.blocks ≡ Some (begun, x.entry)
  pub below : x.blocks < x.setup.bound
  pub whole : IsWhole begun
  pub inside : (b : Block) → block_at (running x.setup) x.entry ≡ Some b → IsMomentOf x.setup.input x.setup.limit b begun x.moment
  pub at_first : x.moment.clock ≡ 0 → x.moment.state ≡ begun

-- it stands as its program's meaning says, by its end
abbrev pub Stands : Option End → Context → Type 0
Stands None x = IsOn x
Stands (Some e) x = come_to x e ≡ mean (running x.setup) x.setup.input x.setup.limit x.setup.bound

-- the run of the rest, by what comes of the next block
abbrev rest : Setup → ℕ → ℕ → Next → Meaning
rest z n k x = elim x [
  | Goes to s ↦ mean_from (running z) z.input z.limit n (k + 1) to s
  | Ends e j out mem ↦ record { end = e; blocks = k + j; output = out; memory = mem }
]

same_meaning : (e : End) (k : ℕ) (out out' mem mem' : List ℕ) → out ≡ out' → mem ≡ mem' →
    ◌≡◌ {A = Meaning} (record { end = e; blocks = k; output = out'; memory = mem' }) (record { end = e; blocks = k; output = out; memory = mem })
same_meaning e k out out' mem mem' a b = cc

module _ (begins : BeginsAsMeant) (steps : StepsAsMeant) (lands : LandsWhole) where
  -- behind a block the context is on at the next one, or has ended as the program does
  behind : (x : Context) (m : Moment) (next : Next) (h : IsOn x) → IsFit x.setup →
      advance (running x.setup) x.setup.input x.setup.limit x.entry h.begun ≡ next → Lands m next → m ≡ at_entry m.state m.cycles →
      Stands (behind_block x m next).end (behind_block x m next)
  behind x m (Goes to s) h fit comes at restarted = go (nat_lt (x.blocks + 1) x.setup.bound) refl
    where
      z : Setup
      z = x.setup

      reached : reaches x.setup (x.blocks + 1) ≡ Some (m.state, to)
      reached =
          let one : x.blocks + 1 ≡ suc x.blocks = omega arith in
          ap (λ (n : ℕ). reaches x.setup n) one
          ∙ after-suc (running x.setup) x.setup.input x.setup.limit x.blocks
          ∙ ap (stands_from (running x.setup) x.setup.input x.setup.limit) h.reached
          ∙ ap stands comes
          ∙ ap (λ (s : State). Some (s, to)) at.0

      go : (b : Bool) → nat_lt (x.blocks + 1) x.setup.bound ≡ b →
          Stands (cond b None (Some end.Bound)) (record x { entry = to; moment = m; blocks = x.blocks + 1; end = end_by_bound x.setup.bound (x.blocks + 1) })
      go true e = record {
        begun = m.state;
        reached = reached;
        below = ltb-true (x.blocks + 1) x.setup.bound e;
        whole = at.1;
        inside = λ b found. subst (λ (n : Moment). IsMomentOf x.setup.input x.setup.limit b m.state n) (sym restarted)
            (begins x.setup.input x.setup.limit b m.state m.cycles (fit.in_order to b found) at.1);
        at_first = λ _. refl;
      }
      go false e =
          let above : x.setup.bound ≤ x.blocks + 1 = ltb-false (x.blocks + 1) x.setup.bound e in
          let below : x.blocks < x.setup.bound = h.below in
          let all : x.blocks + 1 ≡ x.setup.bound = omega arith in
          let there : reaches x.setup x.setup.bound ≡ Some (m.state, to) = ap (λ (n : ℕ). reaches x.setup n) (sym all) ∙ reached in
          let law : mean (running x.setup) x.setup.input x.setup.limit x.setup.bound ≡ record { end = end.Bound; blocks = x.setup.bound; output = m.state.output; memory = m.state.memory } =
          MatchOption-at_some _ _ (m.state, to) there (ends_by_its_bound_lem (running x.setup) x.setup.input x.setup.limit x.setup.bound) in
          ap (λ (n : ℕ). let r : Meaning = record { end = end.Bound; blocks = n; output = m.state.output; memory = m.state.memory } in r) all ∙ sym law
  behind x m (Ends e k output memory) h fit comes at restarted =
      let below : x.blocks < x.setup.bound = h.below in
      let n : ℕ = x.setup.bound - suc x.blocks in
      let parts : x.setup.bound ≡ x.blocks + suc n = omega arith in
      same_meaning e (x.blocks + k) output m.state.output memory m.state.memory at.0 at.1
      ∙ ap (rest x.setup n x.blocks) (sym comes)
      ∙ sym (goes_on_from_after_lem (running x.setup) x.setup.input x.setup.limit x.blocks (suc n) h.begun x.entry h.reached)
      ∙ ap (λ (n : ℕ). mean (running x.setup) x.setup.input x.setup.limit n) (sym parts)

  -- what comes of the present block, when it is over
  pub advanced : (x : Context) (s : State) (b : Block) → block_at (running x.setup) x.entry ≡ Some b →
      (e : Ending) → block (start_in x.setup.input x.setup.limit b s) b.ops ≡ e →
      advance (running x.setup) x.setup.input x.setup.limit x.entry s ≡ follows (running x.setup) x.entry b.next e
  advanced x s b found e ends =
      ap (λ (o : Option Block). elim o [ None ↦ Goes x.entry s | Some b ↦ follows (running x.setup) x.entry b.next (block (record { state = s; input = x.setup.input; next = b.next; limit = x.setup.limit }) b.ops) ]) found
      ∙ ap (follows (running x.setup) x.entry b.next) ends

  same_block : (b c : Block) (o : Option Block) → o ≡ Some b → o ≡ Some c → b ≡ c
  same_block b c o h k = cc

  -- behind a MultiOp
  stepped : (x : Context) (b : Block) (h : IsOn x) → IsFit x.setup → x.end ≡ None → block_at (running x.setup) x.entry ≡ Some b →
      (r : Moment × Outcome) → ComesAsMeant x.setup.input x.setup.limit b h.begun x.moment r → Stands (behind_step x b r).end (behind_step x b r)
  stepped x b h fit none found (m, Going) comes =
      let later : x.moment.clock < m.clock = next_is_later x.moment.clock m.clock b.ops comes.1 in
      let on : IsOn (record x { moment = m }) = record {
        begun = h.begun;
        reached = h.reached;
        below = h.below;
        whole = h.whole;
        inside = λ c other. subst (λ (c : Block). IsMomentOf x.setup.input x.setup.limit c h.begun m) (same_block b c (block_at (running x.setup) x.entry) found other) comes.0;
        at_first = λ first. absurd (omega arith);
      } in
      subst (λ (o : Option End). Stands o (record x { moment = m })) (sym none) on
  stepped x b h fit none found (m, AtEnd a) comes =
      let whole : IsWhole m.state = ended_whole lands (start_in x.setup.input x.setup.limit b h.begun) b.ops m.state a comes.0 in
      behind x m (follows (running x.setup) x.entry b.next (Ended m.state a)) h fit
      (advanced x h.begun b found (Ended m.state a) comes.0)
      (follows_lands (running x.setup) x.entry b.next m a whole)
      (again m comes.1)
    where
      again : {n : ℕ} (m : Moment) → m ≡ at_entry m.state n → m ≡ at_entry m.state m.cycles
      again {n} m e = e ∙ ap (at_entry m.state) (sym (ap (λ (m : Moment). m.cycles) e))
  stepped x b h fit none found (m, AtTrap t k) comes =
      behind x m (follows (running x.setup) x.entry b.next (Trapped t k m.state.output m.state.memory)) h fit
      (advanced x h.begun b found (Trapped t k m.state.output m.state.memory) comes.0)
      (refl, refl)
      (again m comes.1)
    where
      again : {n : ℕ} (m : Moment) → m ≡ at_entry m.state n → m ≡ at_entry m.state m.cycles
      again {n} m e = e ∙ ap (at_entry m.state) (sym (ap (λ (m : Moment). m.cycles) e))

  played : (x : Context) → IsOn x → IsFit x.setup → x.end ≡ None → Stands (played_on x).end (played_on x)
  played x h fit none = go (block_at (running x.setup) x.entry) refl
    where
      go : (o : Option Block) → block_at (running x.setup) x.entry ≡ o →
          let y : Context = elim o [ None ↦ x | Some b ↦ behind_step x b (block_step x.setup.input x.setup.limit b x.moment) ] in Stands y.end y
      go None e = subst (λ (o : Option End). Stands o x) (sym none) h
      go (Some b) e =
          stepped x b h fit none e (block_step x.setup.input x.setup.limit b x.moment)
          (steps x.setup.input x.setup.limit b h.begun x.moment (fit.in_order x.entry b e) h.whole (h.inside b e))

  pub turn_stands : (x : Context) → IsFit x.setup → Stands x.end x → Stands (turn x).end (turn x)
  turn_stands x fit h = go x.end refl h
    where
      go : (o : Option End) → x.end ≡ o → Stands o x → let y : Context = elim o [ None ↦ played_on x | Some e ↦ x ] in Stands y.end y
      go None e on = played x on fit e
      go (Some e) same on = h

  pub turns_stand : (n : ℕ) (x : Context) → IsFit x.setup → Stands x.end x → Stands (turns n x).end (turns n x)
  turns_stand zero x fit h = h
  turns_stand (suc n) x fit h = turns_stand n (turn x) (subst IsFit (sym (turn_keeps x)) fit) (turn_stands x fit h)

  first_whole : (p : Program) → IsWhole (first_state p)
  first_whole p = record { general = refl; predicates = refl; targets = refl; zero = refl; truth = refl }

  pub opened_stands : (s : Setup) → IsFit s → Stands None (opened s)
  opened_stands s fit = record {
    begun = first_state (running s);
    reached = refl;
    below = fit.some;
    whole = first_whole (running s);
    inside = λ b found. begins s.input s.limit b (first_state (running s)) 0 (fit.in_order s.formed.entry b found) (first_whole (running s));
    at_first = λ _. refl;
  }
