-- What a script does to a core is what it does to the system that the core holds.
use Rattle.std.proofs.Common.{◌≡◌, ◌<◌, ℕ, zero, suc, ◌+◌, List, [], ◌∷◌, ◌++◌, length, take, get_or, map, Option, Some, None, refl, sym, ap, subst, ◌∙◌, append_assoc, arith}
use Rattle.std.specs.Prelude.{slice_get, All, IfSome}
use Rattle.std.proofs.lemmas.List.{append-nil, take_more, length-map}
use Rattle.tnk_base.specs.declared.Key.{Key}
use Rattle.operation.specs.declared.End.{End}
use Rattle.block_steps.specs.Steps.{Moment}
use Rattle.image_format.specs.Image.{page_count}
use Rattle.page_fault.specs.declared.Loaded.{Loaded}
use Rattle.context_system.specs.Context.{Context}
use Rattle.context_system.specs.System.{System, program_number}
use Rattle.contexts.specs.Core.{Seat, Contexts, IsSeated, Holds, RunsStill}
use Rattle.event_script.specs.declared.reading.Line.{Line}
use Rattle.event_script.specs.declared.reading.Line.TheVariants.{Turn, Evict, Drop, Prefetch, Look}
use Rattle.event_script.specs.Script.{IsFor, IsPage}
use Rattle.tinker_texts.specs.Looks.{look_line, ended_line}
use Rattle.run_report.specs.Script.{key_in, behind_line, behind_script, look_at, shown_by, looks}
use Rattle.run_report.specs.Seats.{AreFor, seat_look, shown_of}
use Rattle.run_report.proofs.Cores.{there, seated}

-- ---- one line

-- what stands at a place within a list
pub at_index : {X : Type 0} (xs : List X) (c : ℕ) → c < length xs → (x : X) × (slice_get xs c ≡ Some x)
at_index [] c lt = absurd (omega arith)
at_index (x ∷ xs) zero lt = (x, refl)
at_index (x ∷ xs) (suc c) lt = at_index xs c (omega arith)

same_key : (a b n m : ℕ) → a ≡ b → n ≡ m → let j : Key = record { program = a; page = n } in let k : Key = record { program = b; page = m } in j ≡ k
same_key a b n m e f = cc

-- the key of a page, by the seat of its context
pub key_is : (core : Contexts) (s : System) → Holds core s → (c p : ℕ) (k : Key) → c < length core.seats →
    IfSome (slice_get core.seats c) (λ seat. k.program ≡ seat.program) → k.page ≡ p → key_in s.contexts c p ≡ k
key_is core s h c p k lt program page = go (slice_get core.seats c) refl (slice_get s.contexts c) refl program
  where
    go : (o : Option Seat) → slice_get core.seats c ≡ o → (x : Option Context) → slice_get s.contexts c ≡ x → IfSome o (λ seat. k.program ≡ seat.program) →
        key_in s.contexts c p ≡ k
    go None e x f same = absurd (let here = at_index core.seats c lt in let other = here.1 in let no : ⊥ = cc in no)
    go (Some seat) e None f same = absurd (let y = there s.contexts core.seats c seat (sym h.seats) e in let other = y.1 in let no : ⊥ = cc in no)
    go (Some seat) e (Some x) f same =
        let own = seated core s h c seat x e f in
        ap (λ (o : Option Context). let j : Key = elim o [
          | None ↦ record { program = c; page = p }
          | Some y ↦ record { program = program_number s.contexts y.setup; page = p }
        ] in j) f
        ∙ same_key (program_number s.contexts x.setup) k.program p k.page (own.1.number ∙ sym same) (sym page)

-- a look, by the seat and by the context
same_look : (c : ℕ) (xs : List Context) (own : Loaded) (seat : Seat) (x : Context) → IsSeated xs own seat x → seat_look c seat ≡ look_at c x
same_look c xs own seat x h = go x.end seat.end h.end
  where
    go : (o e : Option End) → o ≡ e →
        let s : List ℕ = elim e [ None ↦ look_line c seat.entry seat.moment.clock (length seat.moment.state.output) seat.moment.state.general | Some e ↦ ended_line c ] in
        let t : List ℕ = elim o [ None ↦ look_line c x.entry x.moment.clock (length x.moment.state.output) x.moment.state.general | Some e ↦ ended_line c ] in s ≡ t
    go None None is =
        ap (λ (m : Moment). look_line c seat.entry m.clock (length m.state.output) m.state.general) (sym h.moment)
        ∙ ap (λ n. look_line c n x.moment.clock (length x.moment.state.output) x.moment.state.general) (sym h.entry)
    go None (Some e) is = absurd (let none : ⊥ = cc in none)
    go (Some o) None is = absurd (let none : ⊥ = cc in none)
    go (Some o) (Some e) is = refl

pub shows_line : (core : Contexts) (s : System) → Holds core s → (line : Line) → shown_of core.seats line ≡ shown_by s line
shows_line core s h (Turn c n) = refl
shows_line core s h (Evict c p) = refl
shows_line core s h (Drop c p) = refl
shows_line core s h (Prefetch c p) = refl
shows_line core s h (Look c) = go (slice_get core.seats c) refl (slice_get s.contexts c) refl
  where
    go : (o : Option Seat) → slice_get core.seats c ≡ o → (x : Option Context) → slice_get s.contexts c ≡ x →
        let a : List ℕ = elim o [ None ↦ [] | Some seat ↦ seat_look c seat ] in
        let b : List ℕ = elim x [ None ↦ [] | Some y ↦ look_at c y ] in a ≡ b
    go None e None f = refl
    go None e (Some x) f = absurd (let y = there core.seats s.contexts c x h.seats f in let other = y.1 in let no : ⊥ = cc in no)
    go (Some seat) e None f = absurd (let y = there s.contexts core.seats c seat (sym h.seats) e in let other = y.1 in let no : ⊥ = cc in no)
    go (Some seat) e (Some x) f = let own = seated core s h c seat x e f in same_look c s.contexts own.0 seat x own.1

-- ---- all lines

one_line_behind : (s : System) (lines : List Line) (line : Line) → behind_script s (lines ++ line ∷ []) ≡ behind_line (behind_script s lines) line
one_line_behind s [] line = refl
one_line_behind s (l ∷ lines) line = one_line_behind (behind_line s l) lines line

one_look_more : (s : System) (lines : List Line) (line : Line) → looks s (lines ++ line ∷ []) ≡ looks s lines ++ shown_by (behind_script s lines) line
one_look_more s [] line = append-nil (shown_by s line)
one_look_more s (l ∷ lines) line =
    ap (λ t. shown_by s l ++ t) (one_look_more (behind_line s l) lines line)
    ∙ sym (append_assoc (shown_by s l) (looks (behind_line s l) lines) (shown_by (behind_script (behind_line s l) lines) line))

-- some lines were played on a core, and their looks stand behind a text
pub record IsPlayed (old : Contexts) (before : List ℕ) (lines : List Line) (new : Contexts) (text : List ℕ) : Type 0 where
  pub kept : RunsStill old new
  pub each : (s : System) → Holds old s → Holds new (behind_script s lines) × (text ≡ before ++ looks s lines)

pub none_played : (old : Contexts) (before : List ℕ) → IsPlayed old before [] old before
none_played old before = record { kept = record { contexts = refl; programs = refl }; each = λ s h. (h, sym (append-nil before)) }

pub one_line_more : (old : Contexts) (before : List ℕ) (lines : List Line) (k : ℕ) (d : Line) (core new : Contexts) (text text' : List ℕ) →
    k < length lines → IsPlayed old before (take k lines) core text → text' ≡ text ++ shown_of core.seats (get_or lines k d) →
    ((s : System) → Holds core s → Holds new (behind_line s (get_or lines k d))) → RunsStill core new → IsPlayed old before (take (k + 1) lines) new text'
one_line_more old before lines k d core new text text' lt h shown held kept = record {
  kept = record { contexts = kept.contexts ∙ h.kept.contexts; programs = kept.programs ∙ h.kept.programs };
  each = λ s from.
      let so = h.each s from in
      let line : Line = get_or lines k d in
      let now : take (k + 1) lines ≡ take k lines ++ line ∷ [] = take_more lines k d lt in (
        subst (λ ls. Holds new (behind_script s ls)) (sym now)
            (subst (Holds new) (sym (one_line_behind s (take k lines) line)) (held (behind_script s (take k lines)) so.0)),
        shown ∙ ap (λ t. t ++ shown_of core.seats line) so.1
            ∙ ap (λ t. (before ++ looks s (take k lines)) ++ t) (shows_line core (behind_script s (take k lines)) so.0 line)
            ∙ append_assoc before (looks s (take k lines)) (shown_by (behind_script s (take k lines)) line)
            ∙ ap (λ t. before ++ t) (sym (one_look_more s (take k lines) line))
            ∙ ap (λ ls. before ++ looks s ls) (sym now),
      );
}

-- lines that are about a core's contexts are so of one that has them still, each by itself
pub line_is_for : (old core : Contexts) (lines : List Line) (k : ℕ) (d : Line) → AreFor old lines → RunsStill old core → k < length lines →
    AreFor core (get_or lines k d ∷ [])
line_is_for old core lines k d h kept lt = (
  ap length kept.programs ∙ h.0 ∙ sym kept.contexts,
  only (IsFor (map (λ (p : Loaded). page_count p.image) core.loading.programs)) (get_or lines k d)
      (subst (λ (ps : List Loaded). IsFor (map (λ (p : Loaded). page_count p.image) ps) (get_or lines k d)) (sym kept.programs) (h.1 k d lt)),
)
  where
    only : {X : Type 0} (P : X → Type 0) (x : X) → P x → All P (x ∷ [])
    only P x h zero d lt = h
    only P x h (suc k) d lt = absurd (omega arith)

-- a page event's context is one of the core's
pub has_context : (core : Contexts) (line : Line) (c p : ℕ) → AreFor core (line ∷ []) →
    (IsFor (map (λ (p : Loaded). page_count p.image) core.loading.programs) line → IsPage (map (λ (p : Loaded). page_count p.image) core.loading.programs) c p) →
    c < length core.seats
has_context core line c p h is =
    let here = is (h.1 0 line (omega arith)) in
    let below = here.context in
    let many = length-map core.loading.programs (λ (p : Loaded). page_count p.image) in
    let same = h.0 in omega arith
