use Rattle.std.proofs.Common.{◌≡◌, ◌<◌, ℕ, false, List, length, map, refl, sym, ap, subst, ◌∙◌, Option, Some, None, arith}
use Rattle.std.specs.Prelude.{All, IfSome, not, slice_get, slice_set}
use Rattle.std.specs.Option.{option_eq}
use Rattle.std.proofs.lemmas.Bool.{not-false}
use Rattle.std.proofs.lemmas.List.{length-map}
use Rattle.tnk_base.specs.declared.Key.{Key}
use Rattle.tnk_base.specs.contracts.KeyPartialEq.TheImpl.{eq-value}
use Rattle.page_fault.specs.declared.Loaded.{Loaded}
use Rattle.paging.proofs.Keys.{same_key_is}
use Rattle.contexts.specs.declared.pages.Operations.{Operations}
use Rattle.contexts.specs.Standing.{Read, AreOf, read_of}
use Rattle.contexts.proofs.Frames.{all_set, set_there, all_at, read_are}
use Rattle.contexts.proofs.pages.Pages.read.Goals as goal
use Rattle.contexts.proofs.pages.Pages.read.Goals.{then-ne, else-ne}

one_key : (a b : Key) → Some a ≡ Some b → a ≡ b
one_key a b e = cc

-- the operations of a frame are of the key that it has
has_key : (programs : List Loaded) (key : Key) (r : Read) → r.key ≡ Some key → AreOf programs key r → (k : Key) → r.key ≡ Some k → AreOf programs k r
has_key programs key r is of k e = subst (λ (j : Key). AreOf programs j r) (one_key key k (sym is ∙ e)) of

same : (o : Option Key) (k : Key) → false ≡ not (option_eq eq-value.it o (Some k)) → o ≡ Some k
same None k e = absurd (let clash : ⊥ = cc in clash)
same (Some j) k e = ap (λ (i : Key). Some i) (same_key_is j k (not-false (eq-value.it j k) (sym e)))

-- what holds of the frame that is written: its operations are those of the key
record IsRead (programs : List Loaded) (key : Key) (items new : List Operations) (f : ℕ) : Type 0 where
  frame : Operations
  written : new ≡ slice_set items f frame
  has : frame.key ≡ Some key
  of : AreOf programs key (read_of frame)

module _ (c : goal.Joined-ne) where
  abbrev programs : List Loaded
  programs = c.args.loader.now.programs

  abbrev items : List Operations
  items = c.self.inside.frames.items

  abbrev Own : Read → Type 0
  Own r = (k : Key) → r.key ≡ Some k → AreOf programs k r

  own : c.args.self.now ≡ map read_of items
  own = sym c.self.view_is

  all : All Own (map read_of items)
  all = subst (λ (rs : List Read). All Own rs) own c.requires.read

  inside : c.number.result < length items
  inside =
      let size = length-map items read_of in
      let below : c.args.slot.frame < length (map read_of items) = subst (λ (rs : List Read). c.args.slot.frame < length rs) own c.requires.frame in
      let same : c.number.result ≡ c.args.slot.frame = c.number.ensures in
      omega arith

  facts : IsRead programs c.args.key items c.if-ne.self-inside.frames.items c.number.result
  facts = elim c.if-ne.branch [
    | then-ne w ↦ record {
      frame = record { key = Some c.args.key; ops = w.time_page.new.ops; ends = w.time_page.new.ends };
      written = ap (λ x. x.frames.items) w.self-inside-is;
      has = refl;
      of = read_are programs c.args.key _ _ w.chosen.result.now w.image.result.now w.page.result.now w.words.result.now
          w.time_page.new.ops w.time_page.new.ends c.requires.some c.requires.stands w.words.ensures.form w.words.ensures.words
          refl w.chosen.ensures w.image.ensures w.page.ensures w.time_page.ensures;
    }
    | else-ne w ↦ (
        let is : c.index_mut-frame.result.now.key ≡ Some c.args.key = same c.index_mut-frame.result.now.key c.args.key w.if-ne.ensures in
        record {
          frame = c.index_mut-frame.result.now;
          written = ap (λ x. x.frames.items) w.self-inside-is;
          has = is;
          of = subst (λ (o : Operations). Own (read_of o)) (sym c.index_mut-frame.ensures.value) (all_at Own items c.number.result _ inside all) c.args.key is;
        }
        )
  ]

  own_key : Own (read_of facts.frame)
  own_key = has_key programs c.args.key (read_of facts.frame) facts.has facts.of

pub returns-clause-read : goal.returns-clause-read
returns-clause-read c =
    subst (λ (xs : List Operations). All (Own c) (map read_of xs)) (sym (facts c).written)
    (all_set (Own c) (items c) c.number.result (facts c).frame (all c) (own_key c))

pub returns-clause-now : goal.returns-clause-now
returns-clause-now c =
    let of : IfSome (slice_get (map read_of (slice_set (items c) c.number.result (facts c).frame)) c.number.result) (AreOf (programs c) c.args.key) =
    set_there (AreOf (programs c) c.args.key) (items c) c.number.result (facts c).frame (facts c).of in
    subst (λ (xs : List Operations). IfSome (slice_get (map read_of xs) c.args.slot.frame) (AreOf (programs c) c.args.key)) (sym (facts c).written)
    (subst (λ (n : ℕ). IfSome (slice_get (map read_of (slice_set (items c) c.number.result (facts c).frame)) n) (AreOf (programs c) c.args.key)) c.number.ensures of)
