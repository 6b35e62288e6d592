-- How a command comes from step to step.
use Rattle.std.proofs.Common.{ℕ, ◌+◌, ◌≡◌, List, [], ◌∷◌, ◌++◌, length, take, Option, Some, None, refl, sym, subst, ◌∙◌, ap, Result, Ok, Err, ◌≤◌, ◌<◌, option_map, if◌then◌else◌, IsErr, IsErrAnd}
use Rattle.std.proofs.lemmas.Bool.{le-ltb, lt-ltb}
use Rattle.tnk_base.specs.declared.host.Asked.{Asked}
use Rattle.tnk_base.specs.declared.host.Asked.TheVariants.{Fetch}
use Rattle.tnk_base.specs.Host.{Files, Shown}
use Rattle.image_format.specs.Image.{Image}
use Rattle.image_check.specs.Units.{first_lacking}
use Rattle.machine_desc.specs.Description.{Description}
use Rattle.context_system.specs.Context.{Setup as Context}
use Rattle.tinker_words.specs.Settings.{Settings}
use Rattle.tinker_texts.specs.Refusals.{too_long_text}
use Rattle.tinker_top.specs.declared.steps.Said.{Said}
use Rattle.tinker_top.specs.declared.steps.Stop.{Stop}
use Rattle.tinker_top.specs.declared.steps.Stop.TheVariants.{Refused, Fault, Memory}
use Rattle.tinker_top.specs.Outcome.{Outcome, after, says, refused, fetched, fetching}
use Rattle.tinker_top.specs.Command.{if_it_has_units, run_of}
use Rattle.tinker_top.specs.Top.{asked_too}
use Rattle.event_script.specs.declared.reading.Line.{Line}
use Rattle.tinker_top.specs.Steps.{Leads, Begins, ComesTo, GivesTo, IsDecided, IsMoved, IsRun, IsEnding, MayKeep}
use Rattle.tinker_top.proofs.Calls.{asked_too-none, asked_too-append, after-after, first_behind}

-- no call was made
pub leads_to_itself : (o : Outcome) (old : Shown) → Leads o o old old
leads_to_itself o old = record { calls = []; same = refl; made = asked_too-none old.asked }

pub leads_to_same : (o p : Outcome) (old new : Shown) → o ≡ p → new.asked ≡ old.asked → Leads o p old new
leads_to_same o p old new same stays = record { calls = []; same = same; made = stays ∙ asked_too-none old.asked }

-- one call was made
pub leads_by : (call : Asked) (o p : Outcome) (old new : Shown) → o ≡ after (call ∷ []) p → new.asked ≡ asked_too (call ∷ []) old.asked → Leads o p old new
leads_by call o p old new same made = record { calls = call ∷ []; same = same; made = made }

pub leads_on : (o p q : Outcome) (old mid new : Shown) → Leads o p old mid → Leads p q mid new → Leads o q old new
leads_on o p q old mid new h k =
    record {
      calls = h.calls ++ k.calls;
      same = h.same ∙ (ap (after h.calls) k.same ∙ after-after h.calls k.calls q);
      made = k.made ∙ (ap (λ m. asked_too k.calls m) h.made ∙ asked_too-append h.calls k.calls old.asked);
    }

pub begins_on : (o p : Outcome) (old mid new : Shown) → Leads o p old mid → Begins p mid new → Begins o old new
begins_on o p old mid new h k =
    record {
      count = length h.calls + k.count;
      made = first_behind k.count h.calls p.steps old.asked mid.asked new.asked h.made k.made
          ∙ ap (λ (x : Outcome). asked_too (take (length h.calls + k.count) x.steps) old.asked) (sym h.same);
    }

pub begins_with_none : (o : Outcome) (old new : Shown) → new.asked ≡ old.asked → Begins o old new
begins_with_none o old new stays = record { count = 0; made = stays ∙ asked_too-none old.asked }

-- it was stopped behind some calls
pub begun : (o p : Outcome) (old new : Shown) → Leads o p old new → Begins o old new
begun o p old new h = begins_on o p old new new h (begins_with_none p new new refl)

-- a step gave a value, and the rest came from it
pub comes_on : {V X : Type 0} (view : V → X) (step : (X → Outcome) → Outcome) (next : X → Outcome) (v : V) (old mid new : Shown) (r : Result Said Stop) →
    GivesTo view step (Ok v) old mid → ComesTo (next (view v)) r mid new → ComesTo (step next) r old new
comes_on view step next v old mid new (Ok said) g h = (h.0, h.1, leads_on _ _ _ old mid new (g next) h.2)
comes_on view step next v old mid new (Err (Refused line)) g h = leads_on _ _ _ old mid new (g next) h
comes_on view step next v old mid new (Err Fault) g h = begins_on _ _ old mid new (g next) h
comes_on view step next v old mid new (Err Memory) g h = begins_on _ _ old mid new (g next) h

-- a step stopped the command
pub stops : {V X : Type 0} (view : V → X) (step : (X → Outcome) → Outcome) (next : X → Outcome) (s : Stop) (old new : Shown) →
    GivesTo view step (Err s) old new → ComesTo (step next) (Err s) old new
stops view step next (Refused line) old new g = g next
stops view step next Fault old new g = g next
stops view step next Memory old new g = g next

-- an error that was handed on
pub passed_on : {V : Type 0} (r : Result V Stop) (s : Stop) → IsErr r × IsErrAnd r (λ e. e ≡ s) → r ≡ Err s
passed_on (Ok v) s h = absurd (let k : ⊥ = h.1 in k)
passed_on (Err e) s h = ap Err h.1

-- a step within a step stopped the command
pub stops_within : {V X W Y : Type 0} (view : V → X) (step : (X → Outcome) → Outcome) (outer : W → Y) (inner : (Y → Outcome) → X → Outcome) (s : Stop) (old new : Shown) →
    GivesTo view step (Err s) old new → GivesTo outer (λ next. step (inner next)) (Err s) old new
stops_within view step outer inner (Refused line) old new g = λ next. g (inner next)
stops_within view step outer inner Fault old new g = λ next. g (inner next)
stops_within view step outer inner Memory old new g = λ next. g (inner next)

-- a step gave a value, and the rest of the step came from it
pub gives_on : {V X W Y : Type 0} (view : V → X) (step : (X → Outcome) → Outcome) (outer : W → Y) (inner : (Y → Outcome) → X → Outcome) (v : V) (r : Result W Stop) (old mid new : Shown) →
    GivesTo view step (Ok v) old mid → GivesTo outer (λ next. inner next (view v)) r mid new → GivesTo outer (λ next. step (inner next)) r old new
gives_on view step outer inner v (Ok w) old mid new g h = λ next. leads_on _ _ _ old mid new (g (inner next)) (h next)
gives_on view step outer inner v (Err (Refused line)) old mid new g h = λ next. leads_on _ _ _ old mid new (g (inner next)) (h next)
gives_on view step outer inner v (Err Fault) old mid new g h = λ next. begins_on _ _ old mid new (g (inner next)) (h next)
gives_on view step outer inner v (Err Memory) old mid new g h = λ next. begins_on _ _ old mid new (g (inner next)) (h next)

-- a step was decided without a call
pub decided_gives : {V X : Type 0} (view : V → X) (step : (X → Outcome) → Outcome) (r : Result V Stop) (old : Shown) → IsDecided view step r → GivesTo view step r old old
decided_gives view step (Ok v) old h = λ next. leads_to_same _ _ old old (h next) refl
decided_gives view step (Err (Refused line)) old h = λ next. leads_to_same _ _ old old (h next) refl
decided_gives view step (Err Fault) old h = absurd h
decided_gives view step (Err Memory) old h = λ next. begins_with_none _ old old refl

-- a file that was fetched, and one that is too long
pub fetched_whole : (files : Files) (name : List ℕ) (limit : ℕ) (bytes : List ℕ) (next : List ℕ → Outcome) → files name ≡ Some bytes → length bytes ≤ limit →
    fetching files name limit next ≡ after (Fetch name limit ∷ []) (next bytes)
fetched_whole files name limit bytes next h within =
    ap (after (Fetch name limit ∷ [])) (ap (fetched name limit next) h
    ∙ ap (λ b. if b then refused name (too_long_text limit) else next bytes) (le-ltb limit (length bytes) within))

pub fetched_long : (files : Files) (name : List ℕ) (limit n : ℕ) (next : List ℕ → Outcome) → limit < n → option_map length (files name) ≡ Some n →
    fetching files name limit next ≡ after (Fetch name limit ∷ []) (refused name (too_long_text limit))
fetched_long files name limit n next above h = ap (after (Fetch name limit ∷ [])) (go (files name) h)
  where
    go : (file : Option (List ℕ)) → option_map length file ≡ Some n → fetched name limit next file ≡ refused name (too_long_text limit)
    go None e = absurd (let k : ⊥ = cc in k)
    go (Some bytes) e =
        let same : length bytes ≡ n = cc in
        ap (λ b. if b then refused name (too_long_text limit) else next bytes) (lt-ltb limit (length bytes) (rw same above))

-- an image was moved without a call
pub moved_comes : (name out : List ℕ) (image : Image) (g : Description) (r : Result Said Stop) (old : Shown) → IsMoved name out image g r → ComesTo (if_it_has_units name out image g (first_lacking image g)) r old old
moved_comes name out image g (Ok said) old h = (if_it_has_units name out image g (first_lacking image g), h, leads_to_itself _ old)
moved_comes name out image g (Err (Refused line)) old h = leads_to_same _ _ old old h refl
moved_comes name out image g (Err Fault) old h = absurd h
moved_comes name out image g (Err Memory) old h = begins_with_none _ old old refl

-- a command that keeps nothing ends with its text
pub says_ending : (said : Said) (text : List ℕ) → said.kept ≡ None → said.text.items ≡ text → IsEnding said (says 0 text)
says_ending said text none same = record { kept = None; keeps = subst (λ k. MayKeep k None) (sym none) tt; same = ap (says 0) (sym same) }

-- contexts that ran were stopped without a call
pub run_stops : (s : Settings) (contexts : List Context) (lines : List Line) (why : Stop) (old : Shown) → IsRun s contexts lines (Err why) →
    ComesTo (run_of s contexts lines) (Err why) old old
run_stops s contexts lines (Refused line) old h = leads_to_same _ _ old old h refl
run_stops s contexts lines Fault old h = absurd h
run_stops s contexts lines Memory old h = begins_with_none _ old old refl
