-- What contexts have come to when turns have gone round until all have ended.
use Rattle.std.proofs.Common.{◌≡◌, ℕ, suc, ◌*◌, List, [], ◌∷◌, ◌++◌, length, Option, Some, None, refl, sym, ap, subst, ◌∙◌, arith}
use Rattle.std.specs.Prelude.{Bool, slice_get, slice_index_or, option_map, All, IsSome}
use Rattle.std.proofs.lemmas.Option.{slice_get_within, get_or_from_slice_get}
use Rattle.operation.specs.declared.End.{End}
use Rattle.timed_meaning.specs.Program.{Meaning}
use Rattle.context_system.specs.Context.{Setup, Context}
use Rattle.context_system.specs.declared.Event.{Event}
use Rattle.context_system.specs.System.{System, step, play, rounds}
use Rattle.context_system.specs.Meant.{IsReady, IsAsMeant, TakesItsCycles, ContextsAreAsMeant, CyclesAreCounted, AllEnd}
use Rattle.context_system.proofs.Setups.{play_has, opened_have}
use Rattle.tinker_words.specs.declared.settings.Number.TheVariants.{Frames, Saved, Bound}
use Rattle.tinker_words.specs.Settings.{Settings, number}
use Rattle.tinker_texts.specs.Report.{part, cycles_line}
use Rattle.event_script.specs.declared.reading.Line.{Line}
use Rattle.run_report.specs.Script.{events_of, behind_line, behind_script}
use Rattle.run_report.specs.Run.{texts_from, meant_part, context_part, context_cycles, begun, played}
use Rattle.run_report.proofs.Texts.{texts_same}

-- a context that has ended, as its part of the report, and its cycles
abbrev pub part_of : (dump : Bool) → ℕ → Context → List ℕ
part_of dump i x = elim x.end [ None ↦ [] | Some e ↦ part i dump e x.blocks x.moment.state.output x.moment.state.memory ]

abbrev pub cycles_of : ℕ → Context → List ℕ
cycles_of i x = cycles_line i x.moment.cycles

play_append : (s : System) (es fs : List Event) → play s (es ++ fs) ≡ play (play s es) fs
play_append s [] fs = refl
play_append s (e ∷ es) fs = play_append (step s e) es fs

ended_part : (dump : Bool) (n : ℕ) (s : Setup) (x : Context) → IsAsMeant s x → IsSome x.end → part_of dump n x ≡ context_part n dump s
unfolding context_part
ended_part dump n s x meant some = go x.end refl some
  where
    go : (o : Option End) → x.end ≡ o → IsSome o →
        let t : List ℕ = elim o [ None ↦ [] | Some e ↦ part n dump e x.blocks x.moment.state.output x.moment.state.memory ] in t ≡ context_part n dump s
    go None e h = absurd (let clash : ⊥ = cc in clash)
    go (Some e) is h = ap (λ (m : Meaning). meant_part n dump m) (meant.ended e is)

ended_cycles : (n : ℕ) (s : Setup) (x : Context) → TakesItsCycles s x → IsSome x.end → cycles_of n x ≡ context_cycles n s
unfolding context_cycles
ended_cycles n s x takes some = go x.end refl some
  where
    go : (o : Option End) → x.end ≡ o → IsSome o → cycles_of n x ≡ context_cycles n s
    go None e h = absurd (let clash : ⊥ = cc in clash)
    go (Some e) is h = ap (cycles_line n) (takes.ended e is)

at : (P : Context → Type 0) (xs : List Context) (c : ℕ) (x : Context) → All P xs → slice_get xs c ≡ Some x → P x
at P xs c x all h =
    let same : slice_index_or xs c x ≡ x = get_or_from_slice_get xs c x x h in
    subst P same (all c x (slice_get_within xs c x h))

as_many : (xs : List Context) (setups : List Setup) → ((c : ℕ) → option_map (λ (x : Context). x.setup) (slice_get xs c) ≡ slice_get setups c) →
    length xs ≡ length setups
as_many [] [] h = refl
as_many [] (s ∷ ss) h = absurd (let k = h 0 in let none : ⊥ = cc in none)
as_many (x ∷ xs) [] h = absurd (let k = h 0 in let none : ⊥ = cc in none)
as_many (x ∷ xs) (s ∷ ss) h = ap suc (as_many xs ss (λ c. h (suc c)))

-- a script plays some events
pub script_events : (s : System) (lines : List Line) → (es : List Event) × (behind_script s lines ≡ play s es)
script_events s [] = ([], refl)
script_events s (line ∷ lines) =
    let rest = script_events (behind_line s line) lines in
    (events_of s.contexts line ++ rest.0, rest.1 ∙ sym (play_append s (events_of s.contexts line) rest.0))

module _ (s : Settings) (lines : List Line) (setups : List Setup) (ready : All IsReady setups) (bounds : All (λ x. x.bound ≡ number s Bound) setups) where
  -- all events: those of the script, and the rounds behind it
  abbrev script : List Event
  script = (script_events (begun s setups) lines).0

  abbrev events : List Event
  events = script ++ rounds (length setups) (512 * number s Bound)

  abbrev pub end : System
  end = play (begun s setups) events

  pub is_behind : play (behind_script (begun s setups) lines) (rounds (length setups) (512 * number s Bound)) ≡ end
  is_behind =
      ap (λ (t : System). play t (rounds (length setups) (512 * number s Bound))) (script_events (begun s setups) lines).1
      ∙ sym (play_append (begun s setups) script (rounds (length setups) (512 * number s Bound)))

  pub is_played : end ≡ played s lines setups
  unfolding played
  is_played = sym is_behind

  pub many : length end.contexts ≡ length setups
  many = as_many end.contexts setups (play_has setups (begun s setups) events (record { each = opened_have setups })).each

  pub many_behind : length (behind_script (begun s setups) lines).contexts ≡ length setups
  many_behind =
      ap (λ (t : System). length t.contexts) (script_events (begun s setups) lines).1
      ∙ as_many (play (begun s setups) script).contexts setups (play_has setups (begun s setups) script (record { each = opened_have setups })).each

  module _ (ends : AllEnd) where
    all_ended : All (λ x. IsSome x.end) end.contexts
    all_ended =
        ends setups ready (number s Frames) (number s Saved) script (number s Bound)
        (λ i x lt. let e : (slice_index_or setups i x).bound ≡ number s Bound = bounds i x lt in omega arith)

    pub parts_are : ContextsAreAsMeant → (dump : Bool) → texts_from (part_of dump) 0 end.contexts ≡ texts_from (λ i x. context_part i dump x) 0 setups
    parts_are meant dump =
        texts_same (part_of dump) (λ i x. context_part i dump x) end.contexts setups 0 many
        (λ c x y found given n. ended_part dump n y x
        (meant setups ready (number s Frames) (number s Saved) events c y x given found)
        (at (λ x. IsSome x.end) end.contexts c x all_ended found))

    pub cycles_are : CyclesAreCounted → texts_from cycles_of 0 end.contexts ≡ texts_from context_cycles 0 setups
    cycles_are counted =
        texts_same cycles_of context_cycles end.contexts setups 0 many
        (λ c x y found given n. ended_cycles n y x
        (counted setups ready (number s Frames) (number s Saved) events c y x given found)
        (at (λ x. IsSome x.end) end.contexts c x all_ended found))
