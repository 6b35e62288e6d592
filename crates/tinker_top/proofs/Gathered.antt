-- Contexts are fetched one after another.
use Rattle.std.proofs.Common.{◌≡◌, ℕ, zero, suc, ◌+◌, List, [], ◌∷◌, ◌++◌, length, length-append, map, drop, Ok, Err, Some, refl, sym, ap, subst, ◌∙◌, append_assoc, arith}
use Rattle.std.specs.Prelude.{slice_get, All}
use mathlib.Core.Path.{fun_ext}
use Rattle.tnk_base.specs.Host.{Files, Shown, Stands, HasCause}
use Rattle.image_format.specs.Image.{page_count}
use Rattle.image_resched.specs.Laws.{Forms}
use Rattle.context_system.specs.Context.{Setup as Context}
use Rattle.contexts.specs.declared.Setup.{Setup as Given}
use Rattle.tinker_words.specs.Settings.{Settings}
use Rattle.tinker_words.specs.Words.{NamedContext}
use Rattle.tinker_top.specs.declared.steps.Stop.{Stop}
use Rattle.tinker_top.specs.declared.steps.Stop.TheVariants.{Refused, Fault, Memory}
use Rattle.tinker_top.specs.Outcome.{Outcome}
use Rattle.tinker_top.specs.Command.{with_context, with_contexts, pages_of}
use Rattle.run_report.specs.Setups.{HasBound, as_given, all_given, page_counts}
use Rattle.tinker_top.specs.Steps.{Reads, Leads, GivesTo, HasGiven}
use Rattle.tinker_top.proofs.Onward.{leads_to_itself, leads_on, leads_to_same, begins_on}

-- what the next of some contexts does, and then the rest
abbrev behind : Forms → Settings → List NamedContext → Files → (List Context → Outcome) → Context → Outcome
behind forms s rest files next x = with_contexts forms s rest files (λ xs. next (x ∷ xs))

-- the rest of a command, behind some contexts
abbrev pub joined : Forms → List Given → (List Context → Outcome) → List Context → Outcome
joined forms setups next xs = next (map (as_given forms) setups ++ xs)

-- the first k of some contexts were fetched, and the host was only read
pub record AreFetched (s : Settings) (named : List NamedContext) (k : ℕ) (setups : List Given) (old new : Shown) : Type 0 where
  pub stands : Stands old new
  pub faults : new.faults ≡ old.faults
  pub count : length setups ≡ k
  pub bounds : All (HasBound s) setups
  pub leads : (forms : Forms) (files : Files) → old.files ≡ Some files → (next : List Context → Outcome) →
      Leads (with_contexts forms s named files next) (with_contexts forms s (drop k named) files (joined forms setups next)) old new

pub none_fetched : (s : Settings) (named : List NamedContext) (old : Shown) → AreFetched s named 0 [] old old
none_fetched s named old = record {
  stands = record { files = refl; out = refl };
  faults = refl;
  count = refl;
  bounds = λ k d lt. absurd (omega arith);
  leads = λ forms files told next. leads_to_itself (with_contexts forms s named files next) old;
}

drop_at : (named : List NamedContext) (k : ℕ) (n : NamedContext) → slice_get named k ≡ Some n → drop k named ≡ n ∷ drop (k + 1) named
drop_at [] k n h = absurd (let no : ⊥ = cc in no)
drop_at (m ∷ named) zero n h = let same : m ≡ n = cc in ap (λ x. x ∷ named) same
drop_at (m ∷ named) (suc k) n h = let more : suc (k + 1) ≡ suc k + 1 = omega arith in drop_at named k n h ∙ ap (λ j. n ∷ drop j (m ∷ named)) more

map_push : (forms : Forms) (setups : List Given) (x : Given) → map (as_given forms) (setups ++ x ∷ []) ≡ map (as_given forms) setups ++ as_given forms x ∷ []
map_push forms [] x = refl
map_push forms (y ∷ setups) x = ap (λ l. as_given forms y ∷ l) (map_push forms setups x)

all_pushed : {X : Type 0} (P : X → Type 0) (xs : List X) (x : X) → All P xs → P x → All P (xs ++ x ∷ [])
all_pushed P [] x all h zero d lt = h
all_pushed P [] x all h (suc k) d lt = absurd (omega arith)
all_pushed P (y ∷ xs) x all h zero d lt = all 0 d (omega arith)
all_pushed P (y ∷ xs) x all h (suc k) d lt = all_pushed P xs x (λ i e l. all (suc i) e (omega arith)) h k d (omega arith)

module _ (s : Settings) (named : List NamedContext) (k : ℕ) (n : NamedContext) (setups : List Given) (old mid new : Shown) (at : slice_get named k ≡ Some n)
    (h : AreFetched s named k setups old mid) where
  next_is : (forms : Forms) (files : Files) (next : List Context → Outcome) →
      with_contexts forms s (drop k named) files (joined forms setups next) ≡ with_context forms s n files (behind forms s (drop (k + 1) named) files (joined forms setups next))
  next_is forms files next = ap (λ l. with_contexts forms s l files (joined forms setups next)) (drop_at named k n at)

  -- one more
  pub one_more_fetched : (x : Given) → ((forms : Forms) → HasGiven (as_given forms) (λ files. with_context forms s n files) (Ok x) mid new) → HasBound s x → Stands mid new →
      new.faults ≡ mid.faults → AreFetched s named (k + 1) (setups ++ x ∷ []) old new
  one_more_fetched x given bound stands faults = record {
    stands = record { files = stands.files ∙ h.stands.files; out = stands.out ∙ h.stands.out };
    faults = faults ∙ h.faults;
    count = let m = h.count in let l = length-append setups (x ∷ []) in omega arith;
    bounds = all_pushed (HasBound s) setups x h.bounds bound;
    leads = λ forms files told next.
        let g = as_given forms x in
        let rest = behind forms s (drop (k + 1) named) files (joined forms setups next) in
        let same : (λ xs. joined forms setups next (g ∷ xs)) ≡ joined forms (setups ++ x ∷ []) next =
        fun_ext (λ xs. ap next (sym (append_assoc (map (as_given forms) setups) (g ∷ []) xs) ∙ ap (λ l. l ++ xs) (sym (map_push forms setups x)))) in
        leads_on _ _ _ old mid new
        (leads_on _ _ _ old mid mid (h.leads forms files told next) (leads_to_same _ (with_context forms s n files rest) mid mid (next_is forms files next) refl))
        (leads_on _ _ _ mid new new (given forms files (h.stands.files ∙ told) rest)
        (leads_to_same _ _ new new (ap (with_contexts forms s (drop (k + 1) named) files) same) refl));
  }

  -- or that one stops the command
  pub stops_there : (forms : Forms) (files : Files) → old.files ≡ Some files → (why : Stop) →
      GivesTo (as_given forms) (with_context forms s n files) (Err why) mid new → GivesTo (all_given forms) (with_contexts forms s named files) (Err why) old new
  stops_there forms files told (Refused line) g = λ next.
      leads_on _ _ _ old mid new (leads_on _ _ _ old mid mid (h.leads forms files told next) (leads_to_same _ _ mid mid (next_is forms files next) refl))
      (g (behind forms s (drop (k + 1) named) files (joined forms setups next)))
  stops_there forms files told Fault g = λ next.
      begins_on _ _ old mid new (leads_on _ _ _ old mid mid (h.leads forms files told next) (leads_to_same _ _ mid mid (next_is forms files next) refl))
      (g (behind forms s (drop (k + 1) named) files (joined forms setups next)))
  stops_there forms files told Memory g = λ next.
      begins_on _ _ old mid new (leads_on _ _ _ old mid mid (h.leads forms files told next) (leads_to_same _ _ mid mid (next_is forms files next) refl))
      (g (behind forms s (drop (k + 1) named) files (joined forms setups next)))

-- what was only read before
pub reads_behind : (old mid new : Shown) (F : Type 0) → Stands old mid → mid.faults ≡ old.faults → Reads mid new F → Reads old new F
reads_behind old mid new F stands faults r = record {
  stands = record { files = r.stands.files ∙ stands.files; out = r.stands.out ∙ stands.out };
  cause = subst (λ n. HasCause n new.faults F) faults r.cause;
}

-- the numbers of pages of their images
pub pages_are : (forms : Forms) (setups : List Given) → pages_of (map (as_given forms) setups) ≡ page_counts setups
pages_are forms [] = refl
pages_are forms (x ∷ xs) = ap (λ l. page_count x.image ∷ l) (pages_are forms xs)
