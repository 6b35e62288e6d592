-- The operations that were read of frames: at first of none, and then of one more.
use Rattle.std.proofs.Common.{◌≡◌, ℕ, zero, suc, ◌<◌, List, [], ◌∷◌, length, map, sym, ap, subst, ◌∙◌, inl, inr, Option, Some, None, arith}
use Rattle.std.specs.Prelude.{All, IfSome, IsSome, slice_get, slice_set, slice_index_or}
use Rattle.std.specs.List.{AllClonesOf}
use Rattle.tnk_base.specs.declared.Key.{Key}
use Rattle.machine_desc.specs.Value.{description_of}
use Rattle.machine_desc.specs.declared.Mdes.{Mdes}
use Rattle.timed_meaning.specs.declared.TimedOp.{TimedOp}
use Rattle.latency_deps.specs.Page as of_blocks
use Rattle.image_format.specs.Image.{Image}
use Rattle.image_check.specs.Blocks.{page_of}
use Rattle.block_ops.specs.Page.{ArePageOps}
use Rattle.paging.specs.Pages.{Page}
use Rattle.page_fault.specs.declared.Loaded.{Loaded}
use Rattle.page_fault.specs.Loading.{HasForm}
use Rattle.contexts.specs.declared.pages.Operations.{Operations}
use Rattle.contexts.specs.Standing.{Read, AreOf, read_of}

-- clones of a frame that wasn't read weren't
pub all_unread : (clones : Operations → Operations → Type 0) (x : Operations) → x.key ≡ None → ((y : Operations) → clones x y → y.key ≡ x.key) →
    (xs : List Operations) → AllClonesOf clones x xs → All (λ (r : Read). r.key ≡ None) (map read_of xs)
all_unread clones x unread same [] h k d lt = absurd (omega arith)
all_unread clones x unread same (y ∷ ys) h zero d lt = elim h.0 [ inl e ↦ ap (λ (o : Operations). o.key) e ∙ unread | inr c ↦ same y c ∙ unread ]
all_unread clones x unread same (y ∷ ys) h (suc k) d lt = all_unread clones x unread same ys h.1 k d (omega arith)

module _ (P : Read → Type 0) where
  -- what holds of all frames holds of all when it holds of one that is written
  pub all_set : (xs : List Operations) (f : ℕ) (x : Operations) → All P (map read_of xs) → P (read_of x) → All P (map read_of (slice_set xs f x))
  all_set [] f x all own k d lt = absurd (omega arith)
  all_set (y ∷ ys) zero x all own zero d lt = own
  all_set (y ∷ ys) zero x all own (suc k) d lt = all (suc k) d lt
  all_set (y ∷ ys) (suc f) x all own zero d lt = all zero d (omega arith)
  all_set (y ∷ ys) (suc f) x all own (suc k) d lt = all_set ys f x (λ i e below. all (suc i) e (omega arith)) own k d (omega arith)

  -- so it holds of that one
  pub set_there : (xs : List Operations) (f : ℕ) (x : Operations) → P (read_of x) → IfSome (slice_get (map read_of (slice_set xs f x)) f) P
  set_there [] f x own = tt
  set_there (y ∷ ys) zero x own = own
  set_there (y ∷ ys) (suc f) x own = set_there ys f x own

  pub all_at : (xs : List Operations) (f : ℕ) (d : Operations) → f < length xs → All P (map read_of xs) → P (read_of (slice_index_or xs f d))
  all_at [] f d lt all = absurd (omega arith)
  all_at (y ∷ ys) zero d lt all = all zero (read_of d) (omega arith)
  all_at (y ∷ ys) (suc f) d lt all = all_at ys f d (omega arith) (λ i e below. all (suc i) e (omega arith))

-- the operations of a page of a program in its form are those of its key
pub read_are : (programs : List Loaded) (key : Key) (o : Option Page) (p : Option Loaded) (chosen : Mdes) (image : Image) (good : of_blocks.Page) (words : List ℕ)
    (ops : List TimedOp) (ends : List ℕ) → IsSome o → IfSome o (λ page. page.key ≡ key) → IfSome o (HasForm programs) → IfSome o (λ page. page.words ≡ words) →
    slice_get programs key.program ≡ p → IfSome p (λ p. p.chosen ≡ chosen) → IfSome p (λ p. p.image ≡ image) → good ≡ page_of image key.page →
    ArePageOps (description_of chosen) good words ops ends → AreOf programs key (record { key = Some key; ops = ops; ends = ends })
read_are programs key None p chosen image good words ops ends some is form same at one two built h = absurd (let none : ⊥ = cc in none)
read_are programs key (Some page) None chosen image good words ops ends some is form same at one two built h =
    let there : slice_get programs key.program ≡ Some form.program = ap (λ (k : Key). slice_get programs k.program) (sym is) ∙ form.there in
    absurd (let clash : ⊥ = cc in clash)
read_are programs key (Some page) (Some p) chosen image good words ops ends some is form same at one two built h = record {
  page = page;
  key = is;
  form = form;
  program = p;
  there = at;
  ops = subst (λ (ws : List ℕ). ArePageOps (description_of p.chosen) (page_of p.image key.page) ws ops ends) (sym same)
      (subst (λ (m : Mdes). ArePageOps (description_of m) (page_of p.image key.page) words ops ends) (sym one)
      (subst (λ (i : Image). ArePageOps (description_of chosen) (page_of i key.page) words ops ends) (sym two)
      (subst (λ (q : of_blocks.Page). ArePageOps (description_of chosen) q words ops ends) built h)));
}
