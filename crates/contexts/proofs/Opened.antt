-- A core at its start.
use Rattle.std.proofs.Common.{◌≡◌, ◌<◌, ◌≤◌, ℕ, Bool, true, false, ◌&&◌, List, length, map, Result, Ok, Err, IsErr, IsErrAnd, Some, None, refl, sym, ap, subst, ◌∙◌, arith}
use Rattle.std.specs.Prelude.{slice_get, All, bytes_eq, MatchResult}
use Rattle.std.proofs.lemmas.List.{length-map}
use Rattle.std.proofs.lemmas.Option.{slice_get_within}
use Rattle.machine_desc.specs.Description.{Description}
use Rattle.machine_desc.specs.declared.Mdes.{Mdes}
use Rattle.machine_desc.specs.Ranges.{in_description}
use Rattle.machine_desc.specs.Same.{are_same}
use Rattle.machine_desc.specs.Value.{description_of}
use Rattle.image_format.specs.Image.{Image}
use Rattle.image_format.specs.Bytes.{bytes_of}
use Rattle.image_format.specs.Laws.{ReadsBack}
use Rattle.image_check.specs.Accepted.{IsAccepted}
use Rattle.image_check.specs.Units.{HasUnits}
use Rattle.image_check.specs.Blocks.{rows_of, timed_block}
use Rattle.image_resched.specs.Laws.{IsMovable, Forms, AreForms}
use Rattle.block_steps.specs.Steps.{Moment, at_entry}
use Rattle.cycle_sim.specs.Machine.{start_state, IsReady}
use Rattle.cycle_sim.specs.Laws.{ReadyAtEntry}
use Rattle.page_fault.specs.declared.Loaded.{Loaded}
use Rattle.page_fault.specs.Loading.{HaveUnits, opened as no_page}
use Rattle.context_system.specs.Context as system
use Rattle.context_system.specs.System.{share_program, program_number, first}
use Rattle.context_system.specs.Meant as meant
use Rattle.contexts.specs.declared.Setup.{Setup}
use Rattle.contexts.specs.declared.cores.OpenFault.{OpenFault}
use Rattle.contexts.specs.declared.cores.OpenFault.TheVariants.{NoMemory}
use Rattle.contexts.specs.declared.seat.Seat as code
use Rattle.contexts.specs.Core.{Seat, IsSeated, Holds, IsSetup, AreSetups, IsOpenFault, Runs as RunsSetups}
use Rattle.contexts.specs.Standing.{Read, AreRead, IsPlace, StandsIn, AreSame, IsFirstSame, IsBegun, AreBegun, IsCore, seat_of, contexts_of}
use Rattle.contexts.proofs.Lists.{there_is, at_place, same_by_places, all_by_places, mapped_at, at_mapped, zip_length, zip_at, zip_mapped, position_is}
use Rattle.contexts.proofs.Numbered.{first_within}
use Rattle.contexts.proofs.Systems.{shares_itself, shared_image}
use Rattle.contexts.proofs.Formed.{formed_entry, formed_memory, formed_init}

-- an image that was accepted, and a description that has its units
pub can_run : (image : Image) (chosen : Mdes) → IsAccepted image → HasUnits image (description_of chosen) → IsMovable image (description_of chosen)
can_run image m accepted units =
    record { accepted = accepted; machine = in_description m.width m.units m.latencies m.busy_times m.in_range; units = units }

-- a setup of the definitions for one that is given, where a function gives images in other generations
abbrev pub setup_in : Forms → Setup → system.Setup
setup_in forms given = record {
  image = given.image;
  generation = description_of given.chosen;
  formed = forms given.image (description_of given.chosen);
  input = given.input.items;
  limit = given.limit;
  bound = given.bound;
}

-- ---- one context

module _ (given : Setup) (seat : code.Seat) (p : Loaded) (b : IsBegun given seat p) (s : system.Setup) (is : IsSetup given s) where
  moment_is : (system.opened s).moment ≡ seat.machine.moment
  moment_is =
      let memory : s.formed.memory ≡ given.image.memory = formed_memory s.image s.generation s.formed is.formed ∙ ap (λ (i : Image). i.memory) is.image in
      let init : s.formed.init ≡ given.image.init = formed_init s.image s.generation s.formed is.formed ∙ ap (λ (i : Image). i.init) is.image in
      ap (λ n. at_entry (start_state n s.formed.init) 0) memory ∙ ap (λ l. at_entry (start_state given.image.memory l) 0) init ∙ sym b.moment

  seated : (xs : List system.Context) → program_number xs s ≡ seat.program → IsSeated xs p (seat_of seat) (system.opened s)
  seated xs number = record {
    image = is.image ∙ sym b.image;
    generation = is.generation ∙ ap description_of (sym b.chosen);
    formed = is.formed;
    input = is.input ∙ sym b.input;
    limit = is.limit ∙ sym b.limit;
    bound = is.bound ∙ sym b.bound;
    number = number;
    entry = formed_entry s.image s.generation s.formed is.formed ∙ ap (λ (i : Image). i.entry) is.image ∙ sym b.entry;
    moment = moment_is;
    blocks = sym b.blocks;
    end = sym b.end;
  }

  stands : ReadyAtEntry → 0 < given.bound → StandsIn seat (system.opened s)
  stands ready some = record {
    place = subst (λ (i : Image). IsPlace (rows_of i) seat.place) (sym is.image) b.place;
    running = b.running;
    ready = subst (λ n. IsReady (timed_block s.formed b.place.row) n seat.machine.moment) (sym b.first)
        (subst (λ (n : Moment). IsReady (timed_block s.formed b.place.row) 0 n) (sym b.moment)
        (ready (timed_block s.formed b.place.row) (start_state given.image.memory given.image.init) 0));
    below = let e = b.blocks in let f = b.bound in omega arith;
  }

-- ---- all of them

module _ (setups : List Setup) (seats : List code.Seat) (programs : List Loaded) (begun : AreBegun setups seats programs)
    (units : All (λ s. HasUnits s.image (description_of s.chosen)) setups) where
  given_at : (c : ℕ) (seat : code.Seat) → slice_get seats c ≡ Some seat → (given : Setup) × (slice_get setups c ≡ Some given)
  given_at c seat at = let m = begun.as_many in let lt = slice_get_within seats c seat at in there_is setups c (omega arith)

  program_at : (c : ℕ) (seat : code.Seat) → slice_get seats c ≡ Some seat → (p : Loaded) × (slice_get programs c ≡ Some p)
  program_at c seat at = let m = begun.as_many in let n = begun.own in let lt = slice_get_within seats c seat at in there_is programs c (omega arith)

  seat_at : (c : ℕ) (given : Setup) → slice_get setups c ≡ Some given → (seat : code.Seat) × (slice_get seats c ≡ Some seat)
  seat_at c given at = let m = begun.as_many in let lt = slice_get_within setups c given at in there_is seats c (omega arith)

  pub movable : All (λ s. IsMovable s.image (description_of s.chosen)) setups
  movable = all_by_places (λ (s : Setup). IsMovable s.image (description_of s.chosen)) setups (λ c given at.
      let seat = seat_at c given at in
      let p = program_at c seat.0 seat.1 in
      can_run given.image given.chosen (begun.each c given seat.0 p.0 at seat.1 p.1).0.accepted
      (at_place (λ (s : Setup). HasUnits s.image (description_of s.chosen)) setups c given units at))

  -- the programs have their units
  pub programs_have_units : HaveUnits programs
  programs_have_units = all_by_places (λ (p : Loaded). HasUnits p.image (description_of p.chosen)) programs (λ c p at.
      let m = begun.as_many in
      let n = begun.own in
      let lt = slice_get_within programs c p at in
      let seat = there_is seats c (omega arith) in
      let given = given_at c seat.0 seat.1 in
      let b = (begun.each c given.0 seat.0 p given.1 seat.1 at).0 in
      subst (λ (i : Image). HasUnits i (description_of p.chosen)) (sym b.image)
      (subst (λ (m : Mdes). HasUnits given.0.image (description_of m)) (sym b.chosen)
      (at_place (λ (s : Setup). HasUnits s.image (description_of s.chosen)) setups c given.0 units given.1)))

  -- the core runs the setups' images
  pub runs_setups : (frames saved : ℕ) → RunsSetups setups (contexts_of seats (no_page programs frames saved))
  runs_setups frames saved = record {
    contexts = length-map seats seat_of ∙ begun.as_many;
    images = same_by_places (map (λ (p : Loaded). p.image) programs) (map (λ (s : Setup). s.image) setups)
        (length-map programs (λ (p : Loaded). p.image) ∙ begun.own ∙ sym (length-map setups (λ (s : Setup). s.image)))
        (λ c i j e f.
        let p = mapped_at (λ (p : Loaded). p.image) programs c i e in
        let given = mapped_at (λ (s : Setup). s.image) setups c j f in
        let seat = seat_at c given.0 given.1 in
        p.2 ∙ (begun.each c given.0 seat.0 p.0 given.1 seat.1 p.1).0.image ∙ sym given.2);
  }

  module _ (ss : List system.Setup) (are : AreSetups setups ss) where
    -- a setup's image and generation are those of its program
    runs : (c : ℕ) (given : Setup) (seat : code.Seat) (p : Loaded) (s : system.Setup) → slice_get setups c ≡ Some given → slice_get seats c ≡ Some seat →
        slice_get programs c ≡ Some p → slice_get ss c ≡ Some s → (s.image ≡ p.image) × (s.generation ≡ description_of p.chosen)
    runs c given seat p s a b d e =
        let is = zip_at IsSetup setups ss are c given s a e in
        let own = (begun.each c given seat p a b d).0 in (is.image ∙ sym own.image, is.generation ∙ ap description_of (sym own.chosen))

    can_move : (c : ℕ) (given : Setup) (s : system.Setup) → slice_get setups c ≡ Some given → slice_get ss c ≡ Some s → IsMovable s.image s.generation
    can_move c given s a e =
        let is = zip_at IsSetup setups ss are c given s a e in
        subst (λ (i : Image). IsMovable i s.generation) (sym is.image)
        (subst (λ (g : Description). IsMovable given.image g) (sym is.generation)
        (at_place (λ (s : Setup). IsMovable s.image (description_of s.chosen)) setups c given movable a))

    -- what belongs to a place of the setups of the definitions
    record IsAt (c : ℕ) (s : system.Setup) : Type 0 where
      given : Setup
      seat : code.Seat
      p : Loaded
      setup_at : slice_get setups c ≡ Some given
      seat_at : slice_get seats c ≡ Some seat
      program_at : slice_get programs c ≡ Some p

    is_at : (c : ℕ) (s : system.Setup) → slice_get ss c ≡ Some s → IsAt c s
    is_at c s e =
        let many = zip_length IsSetup setups ss are in
        let lt = slice_get_within ss c s e in
        let m = begun.as_many in
        let n = begun.own in
        let given = there_is setups c (omega arith) in
        let seat = there_is seats c (omega arith) in
        let p = there_is programs c (omega arith) in
        record { given = given.0; seat = seat.0; p = p.0; setup_at = given.1; seat_at = seat.1; program_at = p.1 }

    module _ (reads : ReadsBack) (c : ℕ) (s : system.Setup) (e : slice_get ss c ≡ Some s) (a : IsAt c s) where
      number : IsFirstSame programs a.p a.seat.program
      number = (begun.each c a.given a.seat a.p a.setup_at a.seat_at a.program_at).1

      own : (s.image ≡ a.p.image) × (s.generation ≡ description_of a.p.chosen)
      own = runs c a.given a.seat a.p s a.setup_at a.seat_at a.program_at e

      shares : (r : system.Setup) (q : Loaded) → (r.image ≡ q.image) × (r.generation ≡ description_of q.chosen) → AreSame q a.p → share_program r s ≡ true
      shares r q is same =
          ap (λ (i : Image). bytes_eq (bytes_of i) (bytes_of s.image) && are_same r.generation s.generation) (is.0 ∙ same.image ∙ sym own.0)
          ∙ ap (λ (g : Description). bytes_eq (bytes_of s.image) (bytes_of s.image) && are_same g s.generation) (is.1 ∙ same.generation ∙ sym own.1)
          ∙ shares_itself s (can_move c a.given s a.setup_at e)

      shares_not : (m : ℕ) (r : system.Setup) → m < a.seat.program → slice_get ss m ≡ Some r → share_program r s ≡ false
      shares_not m r lt at = go (share_program r s) refl
        where
          go : (t : Bool) → share_program r s ≡ t → t ≡ false
          go false is = refl
          go true is =
              let b = is_at m r at in
              let other = runs m b.given b.seat b.p r b.setup_at b.seat_at b.program_at at in
              let same = shared_image reads r s (can_move m b.given r b.setup_at at) (can_move c a.given s a.setup_at e) is in
              absurd (number.first m b.p lt b.program_at (record { image = sym other.0 ∙ same.0 ∙ own.0; generation = sym other.1 ∙ same.1 ∙ own.1 }))

      number_is : program_number (map system.opened ss) s ≡ a.seat.program
      number_is =
          let n = a.seat.program in
          let lt : n < length programs = first_within programs a.p n c a.program_at number in
          let many = zip_length IsSetup setups ss are in
          let k = begun.own in
          let r = there_is ss n (omega arith) in
          let b = is_at n r.0 r.1 in
          let other = runs n b.given b.seat b.p r.0 b.setup_at b.seat_at b.program_at r.1 in
          position_is (λ (x : system.Context). share_program x.setup s) (map system.opened ss) n (system.opened r.0) (at_mapped system.opened ss n r.0 r.1)
          (shares r.0 b.p other (number.same b.p b.program_at))
          (λ m y below at.
          let z = mapped_at system.opened ss m y at in
          subst (λ (y : system.Context). share_program y.setup s ≡ false) (sym z.2) (shares_not m z.0 below z.1))

    module _ (reads : ReadsBack) (frames saved : ℕ) where
      pub holds : Holds (contexts_of seats (no_page programs frames saved)) (first ss frames saved)
      holds = record {
        seats = length-map seats seat_of ∙ begun.as_many ∙ zip_length IsSetup setups ss are ∙ sym (length-map ss system.opened);
        programs = begun.own ∙ zip_length IsSetup setups ss are ∙ sym (length-map ss system.opened);
        each = each;
        paging = refl;
      }
        where
          each : (c : ℕ) (p : Loaded) (t : Seat) (x : system.Context) → slice_get programs c ≡ Some p → slice_get (map seat_of seats) c ≡ Some t →
              slice_get (map system.opened ss) c ≡ Some x → IsSeated (map system.opened ss) p t x
          each c p t x e f g =
              let seat = mapped_at seat_of seats c t f in
              let s = mapped_at system.opened ss c x g in
              let given = given_at c seat.0 seat.1 in
              let a : IsAt c s.0 = record { given = given.0; seat = seat.0; p = p; setup_at = given.1; seat_at = seat.1; program_at = e } in
              subst (λ (t : Seat). IsSeated (map system.opened ss) p t x) (sym seat.2)
              (subst (λ (x : system.Context). IsSeated (map system.opened ss) p (seat_of seat.0) x) (sym s.2)
              (seated given.0 seat.0 p (begun.each c given.0 seat.0 p given.1 seat.1 e).0 s.0 (zip_at IsSetup setups ss are c given.0 s.0 given.1 s.1)
              (map system.opened ss) (number_is reads c s.0 s.1 a)))

  module _ (reads : ReadsBack) (ready : ReadyAtEntry) (forms : Forms) (fine : AreForms forms) (bounds : All (λ s. 0 < s.bound) setups) (few : length setups ≤ 8)
      (frames saved : ℕ) where
    abbrev ss : List system.Setup
    ss = map (setup_in forms) setups

    are : AreSetups setups ss
    are = zip_mapped IsSetup (setup_in forms) setups (λ c given at. record {
      image = refl;
      generation = refl;
      formed = fine given.image (description_of given.chosen) (at_place (λ (s : Setup). IsMovable s.image (description_of s.chosen)) setups c given movable at);
      input = refl;
      limit = refl;
      bound = refl;
    })

    all_ready : All (λ x. meant.IsReady x.setup) (map system.opened ss)
    all_ready = all_by_places (λ (x : system.Context). meant.IsReady x.setup) (map system.opened ss) (λ c x at.
        let s = mapped_at system.opened ss c x at in
        let given = mapped_at (setup_in forms) setups c s.0 s.1 in
        let is = zip_at IsSetup setups ss are c given.0 s.0 given.1 s.1 in
        subst (λ (x : system.Context). meant.IsReady x.setup) (sym s.2) (record {
          movable = can_move ss are c given.0 s.0 given.1 s.1;
          formed = is.formed;
          bound = subst (λ n. 0 < n) (sym is.bound) (at_place (λ (s : Setup). 0 < s.bound) setups c given.0 bounds given.1);
        }))

    standing : (c : ℕ) (seat : code.Seat) (x : system.Context) → slice_get seats c ≡ Some seat → slice_get (map system.opened ss) c ≡ Some x → StandsIn seat x
    standing c seat x e g =
        let s = mapped_at system.opened ss c x g in
        let given = given_at c seat e in
        let p = program_at c seat e in
        subst (StandsIn seat) (sym s.2)
        (stands given.0 seat p.0 (begun.each c given.0 seat p.0 given.1 e p.1).0 s.0 (zip_at IsSetup setups ss are c given.0 s.0 given.1 s.1) ready
        (at_place (λ (s : Setup). 0 < s.bound) setups c given.0 bounds given.1))

    none_read : (reads : List Read) → All (λ r. r.key ≡ None) reads → AreRead programs reads
    none_read reads none i d lt k e = absurd (let h = none i d lt in let clash : ⊥ = cc in clash)

    pub core : (frames_read : List Read) → All (λ r. r.key ≡ None) frames_read → length frames_read ≡ frames → IsCore seats (no_page programs frames saved) frames_read
    core frames_read none size = record {
      held = first ss frames saved;
      holds = holds ss are reads frames saved;
      few = let m = begun.as_many in omega arith;
      ready = all_ready;
      standing = λ c t x e f going. standing c t x e f;
      read = none_read frames_read none;
      frames = size;
    }

-- want of memory is a fault of whatever setups
pub out_of_memory : {V : Type 0} (P : V → Type 0) (setups : List Setup) (r : Result V OpenFault) →
    IsErr r × IsErrAnd r (λ e. e ≡ NoMemory) → MatchResult r P (IsOpenFault setups)
out_of_memory P setups (Ok v) h = absurd (let k : ⊥ = h.1 in k)
out_of_memory P setups (Err e) h = subst (IsOpenFault setups) (sym h.1) tt
