-- What is fetched is the page in its form.
use Rattle.std.proofs.Common.{◌≡◌, ℕ, Bool, true, false, List, refl, sym, ap, subst, ◌∙◌, ◌↔◌, Option, Some, None}
use Rattle.std.specs.Prelude.{not, IsTrue, All, slice_get}
use Rattle.tnk_base.specs.declared.Key.{Key}
use Rattle.machine_desc.specs.Description.{Description, IsDescription}
use Rattle.machine_desc.specs.Same.{are_same}
use Rattle.machine_desc.specs.Value.{description_of}
use Rattle.machine_desc.proofs.SameNumbers.{same_iff}
use Rattle.image_check.specs.Blocks.{page_of}
use Rattle.page_resched.specs.Form.{IsFormOfPage}
use Rattle.paging.specs.Pages.{under}
use Rattle.paging.proofs.Kept.{found}
use Rattle.page_cache.specs.Cache.{Cache}
use Rattle.page_fault.specs.declared.Loaded.{Loaded}
use Rattle.page_fault.specs.declared.fetching.Source.TheVariants.{Saved, Own, Rescheduled}
use Rattle.page_fault.specs.Loading.{HasForm, runs_elsewhere}
use Rattle.page_fault.specs.Fetching.{IsFetched}

-- a test of two descriptions for equality is that of their numbers
pub tested : (own d g : Description) (b : Bool) → IsDescription own → IsDescription g → d ≡ own → IsTrue b ↔ (d ≡ g) → not b ≡ not (are_same own g)
tested own d g b ok fine from h = ap not (go b (are_same own g) (λ t. (same_iff own g ok fine).1 (sym from ∙ h.0 t)) (λ t. h.1 (from ∙ (same_iff own g ok fine).0 t)))
  where
    go : (b c : Bool) → (b ≡ true → c ≡ true) → (c ≡ true → b ≡ true) → b ≡ c
    go true c f g = sym (f refl)
    go false true f g = g refl
    go false false f g = refl

-- where a program is, it is there that a key's page runs
elsewhere_is : (programs : List Loaded) (k : Key) (p : Loaded) → slice_get programs k.program ≡ Some p →
    runs_elsewhere programs k ≡ not (are_same p.image.description (description_of p.chosen))
elsewhere_is programs k p e =
    ap (λ (o : Option Loaded). let b : Bool = elim o [ None ↦ false | Some p ↦ not (are_same p.image.description (description_of p.chosen)) ] in b) e

module _ (programs : List Loaded) (cache : Cache) (k : Key) (words : List ℕ) (p : Loaded) (at : slice_get programs k.program ≡ Some p) (none : under k cache.saved ≡ None)
    (form : IsFormOfPage p.image.description (description_of p.chosen) (page_of p.image k.page) words) (moved : Bool) (is : moved ≡ not (are_same p.image.description (description_of p.chosen))) where
  pub own_fetched : moved ≡ false → IsFetched programs cache (record { key = k; words = words }) Own
  own_fetched e = record {
    form = record { program = p; there = at; form = form };
    came = (none, elsewhere_is programs k p at ∙ sym is ∙ e);
  }

  pub other_fetched : moved ≡ true → IsFetched programs cache (record { key = k; words = words }) Rescheduled
  other_fetched e = record {
    form = record { program = p; there = at; form = form };
    came = (none, elsewhere_is programs k p at ∙ sym is ∙ e);
  }

pub saved_fetched : (programs : List Loaded) (cache : Cache) (k : Key) (words new : List ℕ) → All (HasForm programs) cache.saved → under k cache.saved ≡ Some (record { key = k; words = words }) → new ≡ words →
    IsFetched programs cache (record { key = k; words = new }) Saved
saved_fetched programs cache k words new all at same =
    subst (λ (w : List ℕ). IsFetched programs cache (record { key = k; words = w }) Saved) (sym same)
    (record { form = found (HasForm programs) k cache.saved (record { key = k; words = words }) all at; came = at })
