-- How a command ends: what was done behind its steps, and what was done in all.
use Rattle.std.proofs.Common.{ℕ, ◌+◌, ◌≡◌, inl, inr, List, [], ◌∷◌, ◌++◌, length, take, Option, Some, None, refl, sym, ◌∙◌, ap, subst, append_assoc, length-append, arith}
use Rattle.tnk_base.specs.declared.host.Asked.TheVariants.{Put, Keep}
use Rattle.tnk_base.specs.Host.{Files, Shown, Stands, Holds, IsLeftBut, grown, noted, NotedOr, GrowsByPart}
use Rattle.tinker_top.specs.Outcome.{Outcome, Kept, HasContent, ends, says, calls_of, keep_call, last_call}
use Rattle.tinker_top.specs.Top.{IsDone, IsPartOf, IsLeft, asked_too}
use Rattle.tinker_top.specs.declared.steps.Said.{Said}
use Rattle.tinker_top.specs.declared.steps.Keeping.{Keeping}
use Rattle.tinker_top.specs.Steps.{Leads, Begins, IsKeeping, MayKeep, IsEnding}
use Rattle.tinker_top.proofs.Calls.{grown-all, grown-none, asked_too-none, asked_too-append, first_of_more, first_behind}

-- the put
pub whole_part : (bytes : List ℕ) (out out' : Option (List ℕ)) → out' ≡ grown bytes out → GrowsByPart bytes out out'
whole_part bytes out out' h = (length bytes, h ∙ grown-all bytes out)

pub put_part : (Excuse : Type 0) (status : ℕ) (text : List ℕ) (old new : Shown) →
    new.files ≡ old.files → GrowsByPart text old.out new.out → NotedOr Excuse Put old.asked new.asked → IsPartOf (says status text) old new
put_part Excuse status text old new same part (inl e) =
    record { made = 1; calls = e; text = part; others = same; stands = λ _. same; kept = λ _. tt }
put_part Excuse status text old new same part (inr e) =
    record { made = 0; calls = e.1 ∙ asked_too-none old.asked; text = part; others = same; stands = λ _. same; kept = λ _. tt }

-- the keep, and then the put
module _ (k : Kept) (status : ℕ) (text : List ℕ) (old mid new : Shown) (bytes : List ℕ) (content : HasContent k.content bytes) (holds : Holds mid.files k.name bytes)
    (left : IsLeftBut k.name old.files mid.files) (stays : mid.out ≡ old.out) (noted_it : mid.asked ≡ noted (Keep k.name) old.asked) where
  pub keep_then_done : (given : ℕ) → IsDone (says status text) given mid new → IsDone (ends (Some k) status text) given old new
  keep_then_done given h =
      record {
        status = h.status;
        text = h.text ∙ ap (grown text) stays;
        calls = h.calls ∙ (ap (λ m. asked_too (Put ∷ []) m) noted_it ∙ asked_too-append (Keep k.name ∷ []) (Put ∷ []) old.asked);
        kept = (bytes, content, rw h.others holds);
        others = rw h.others left;
      }

  pub keep_then_part : IsPartOf (says status text) mid new → IsPartOf (ends (Some k) status text) old new
  keep_then_part h =
      record {
        made = 1 + h.made;
        calls = first_behind h.made (Keep k.name ∷ []) (Put ∷ []) old.asked mid.asked new.asked noted_it h.calls;
        text = (h.text.0, h.text.1 ∙ ap (grown (take h.text.0 text)) stays);
        others = rw h.others left;
        stands = λ none. absurd (let k : ⊥ = omega arith in k);
        kept = λ _. (bytes, content, rw h.others holds);
      }

-- the keep was refused: it may have been asked, and may have changed the file
refused_part : (Excuse : Type 0) (k : Kept) (status : ℕ) (text : List ℕ) (old new : Shown) → IsLeftBut k.name old.files new.files →
    new.out ≡ old.out → NotedOr (Excuse × (new.files ≡ old.files)) (Keep k.name) old.asked new.asked → IsPartOf (ends (Some k) status text) old new
refused_part Excuse k status text old new left stays (inl e) =
    record {
      made = 1;
      calls = e;
      text = (0, stays ∙ grown-none old.out);
      others = left;
      stands = λ few. absurd (let k : ⊥ = omega arith in k);
      kept = λ many. absurd (let k : ⊥ = omega arith in k);
    }
refused_part Excuse k status text old new left stays (inr e) =
    record {
      made = 0;
      calls = e.1 ∙ asked_too-none old.asked;
      text = (0, stays ∙ grown-none old.out);
      others = left;
      stands = λ few. e.0.1;
      kept = λ many. absurd (let k : ⊥ = omega arith in k);
    }

pub keep_part : (Excuse : Type 0) (name : List ℕ) (k : Kept) → name ≡ k.name → (status : ℕ) (text : List ℕ) (old new : Shown) → IsLeftBut name old.files new.files →
    new.out ≡ old.out → NotedOr (Excuse × (new.files ≡ old.files)) (Keep name) old.asked new.asked → IsPartOf (ends (Some k) status text) old new
keep_part Excuse name k named status text old new left stays asked =
    refused_part Excuse k status text old new (subst (λ n. IsLeftBut n old.files new.files) named left) stays
    (subst (λ n. NotedOr (Excuse × (new.files ≡ old.files)) (Keep n) old.asked new.asked) named asked)

-- the steps, and then the end
module _ (o rest : Outcome) (old mid new : Shown) (leads : Leads o rest old mid) (stands : Stands old mid) where
  pub then_done : (status : ℕ) → IsDone rest status mid new → IsDone o status old new
  then_done status h =
      subst (λ x. IsDone x status old new) (sym leads.same)
      (record {
        status = h.status;
        text = h.text ∙ ap (grown rest.text) stands.out;
        calls = h.calls ∙ (ap (λ m. asked_too (calls_of rest) m) leads.made ∙ (asked_too-append leads.calls (calls_of rest) old.asked
            ∙ ap (λ calls. asked_too calls old.asked) (sym (append_assoc leads.calls rest.steps (keep_call rest.kept ++ last_call rest.status)))));
        kept = h.kept;
        others = subst (λ f. IsLeft rest.kept f new.files) stands.files h.others;
      })

  pub then_part : IsPartOf rest mid new → IsPartOf o old new
  then_part h =
      subst (λ x. IsPartOf x old new) (sym leads.same)
      (record {
        made = length leads.calls + h.made;
        calls = first_behind h.made leads.calls (calls_of rest) old.asked mid.asked new.asked leads.made h.calls
            ∙ ap (λ calls. asked_too (take (length leads.calls + h.made) calls) old.asked) (sym (append_assoc leads.calls rest.steps (keep_call rest.kept ++ last_call rest.status)));
        text = (h.text.0, h.text.1 ∙ ap (grown (take h.text.0 rest.text)) stands.out);
        others = subst (λ f. IsLeft rest.kept f new.files) stands.files h.others;
        stands = λ few. h.stands (omega (arith, length-append leads.calls rest.steps)) ∙ stands.files;
        kept = λ many. h.kept (omega (arith, length-append leads.calls rest.steps));
      })

-- it was stopped on its way: nothing was kept or put out
none_left : (k : Option Kept) (old new : Option Files) → new ≡ old → IsLeft k old new
none_left None old new e = e
none_left (Some k) None new e = subst (λ f. IsLeftBut k.name None f) (sym e) tt
none_left (Some k) (Some files) new e = subst (λ f. IsLeftBut k.name (Some files) f) (sym e) (λ other differs. refl)

pub stopped_part : (o : Outcome) (old new : Shown) → Begins o old new → Stands old new → IsPartOf o old new
stopped_part o old new h stands =
    let r = first_of_more h.count o.steps (keep_call o.kept ++ last_call o.status) in
    record {
      made = r.0;
      calls = h.made ∙ ap (λ calls. asked_too calls old.asked) (sym r.1.1);
      text = (0, stands.out ∙ grown-none old.out);
      others = none_left o.kept old.files new.files stands.files;
      stands = λ few. stands.files;
      kept = λ many. absurd (let k : ⊥ = omega (arith, r.1.0) in k);
    }

-- what a command ends with, by the file that it keeps
pub ends_kept : (said : Said) (keeping : Keeping) (o : Outcome) → said.kept ≡ Some keeping → IsEnding said o → (k : Kept) × IsKeeping keeping k × (o ≡ ends (Some k) 0 said.text.items)
ends_kept said keeping o some e = go e.kept (subst (λ s. MayKeep s e.kept) some e.keeps) e.same
  where
    go : (kept : Option Kept) → MayKeep (Some keeping) kept → o ≡ ends kept 0 said.text.items → (k : Kept) × IsKeeping keeping k × (o ≡ ends (Some k) 0 said.text.items)
    go None m same = absurd m
    go (Some k) m same = (k, m, same)

pub ends_unkept : (said : Said) (o : Outcome) → said.kept ≡ None → IsEnding said o → o ≡ says 0 said.text.items
ends_unkept said o none e = go e.kept (subst (λ s. MayKeep s e.kept) none e.keeps) e.same
  where
    go : (kept : Option Kept) → MayKeep None kept → o ≡ ends kept 0 said.text.items → o ≡ says 0 said.text.items
    go None m same = same
    go (Some k) m same = absurd m
