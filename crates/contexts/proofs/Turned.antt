-- A turn of a context is the system's.
use Rattle.std.proofs.Common.{◌≡◌, ◌≢◌, ℕ, ◌+◌, ◌/◌, ◌<◌, zero, suc, Bool, true, false, cond, List, [], ◌∷◌, length, map, refl, sym, ap, subst, ◌∙◌, ◌⊎◌, inl, inr, Option, Some, None, arith}
use Rattle.std.specs.Prelude.{slice_get, slice_set, All, IfSome, not}
use Rattle.std.specs.List.{position_or_len}
use Rattle.std.proofs.lemmas.List.{length-map}
use Rattle.std.proofs.lemmas.Option.{slice_get_within}
use Rattle.tnk_base.specs.declared.Key.{Key}
use Rattle.operation.specs.declared.End.{End}
use Rattle.machine_desc.specs.Description.{Description}
use Rattle.block_table.specs.Rows.{Rows, entry_of, count_of}
use Rattle.block_table.specs.Rules.{has_entry}
use Rattle.block_table.proofs.Finding.{has_entry-entry_of}
use Rattle.timed_meaning.specs.Program.{Block, block_at}
use Rattle.image_format.specs.Image.{Image, page_count}
use Rattle.image_format.specs.Laws.{ReadsBack}
use Rattle.image_check.specs.Accepted.{IsAccepted}
use Rattle.image_check.specs.Blocks.{rows_of, entry_behind, timed_block, program_in}
use Rattle.image_resched.specs.Rescheduled.{IsRescheduled}
use Rattle.image_resched.specs.Laws.{IsMovable, OneRescheduled, RescheduledIsAccepted}
use Rattle.cycle_sim.specs.Laws.{ReadyAtEntry}
use Rattle.page_fault.specs.declared.Loaded.{Loaded}
use Rattle.page_fault.specs.Loading.{Loading, IsThere, paging_of}
use Rattle.page_fault.specs.Laws.{FormsAreOfTheImage}
use Rattle.context_system.specs.declared.Event.TheVariants.{Turn}
use Rattle.context_system.specs.Context.{Setup, Context, running, turn}
use Rattle.context_system.specs.System.{System, step, share_program, program_number, present_key, needed, paging_for_turn}
use Rattle.context_system.specs.Meant.{IsReady}
use Rattle.contexts.specs.declared.seat.Place.{Place}
use Rattle.contexts.specs.declared.seat.Seat.{Seat}
use Rattle.contexts.specs.Core.{Contexts, IsSeated, Holds}
use Rattle.contexts.specs.Core as told
use Rattle.contexts.specs.Standing.{Read, AreRead, IsBrought, IsPlace, StandsIn, IsCore, seat_of, contexts_of, key_at}
use Rattle.contexts.specs.Going.{MayPlay, HasPlayed}
use Rattle.contexts.proofs.Formed.{formed_rows, place_fits, block_of_row, none_there}
use Rattle.contexts.proofs.Lists.{length_set, at_place, all_by_places, mapped_at, at_mapped, set_or_kept}
use Rattle.contexts.proofs.Entries.{next_has, block_at_entry}
use Rattle.contexts.proofs.Systems.{Runs, runs, own_at, context_at, needed_is}
use Rattle.contexts.proofs.Onward.{Agrees, Remains, Facts, Stands, plays, remains}

-- the system behind a turn of a context that hasn't ended
abbrev pub behind_turn : System → ℕ → Context → System
behind_turn s c x = record { contexts = slice_set s.contexts c (turn x); paging = needed s.contexts (present_key s.contexts x) s.paging }

pub step_turn : (s : System) (c : ℕ) (x : Context) → slice_get s.contexts c ≡ Some x → x.end ≡ None → step s (Turn c) ≡ behind_turn s c x
step_turn s c x at going =
    ap (λ (o : Option Context). let t : System = elim o [
      | None ↦ s
      | Some x ↦ record { contexts = slice_set s.contexts c (turn x); paging = paging_for_turn s.contexts x s.paging }
    ] in t) at
    ∙ ap (λ (o : Option End). let t : System = record {
      contexts = slice_set s.contexts c (turn x);
      paging = elim o [ None ↦ needed s.contexts (present_key s.contexts x) s.paging | Some e ↦ s.paging ];
    } in t) going

-- programs keep their numbers while contexts keep their setups
same_position : (p : Context → Bool) (xs : List Context) (c : ℕ) (x y : Context) → slice_get xs c ≡ Some x → p y ≡ p x →
    position_or_len p (slice_set xs c y) ≡ position_or_len p xs
same_position p [] c x y at same = refl
same_position p (z ∷ xs) zero x y at same =
    let is : x ≡ z = cc in
    ap (λ (b : Bool). cond (not b) (1 + position_or_len p xs) 0) (same ∙ ap p is)
same_position p (z ∷ xs) (suc c) x y at same = ap (λ (n : ℕ). cond (not (p z)) (1 + n) 0) (same_position p xs c x y at same)

same_number : (xs : List Context) (c : ℕ) (x y : Context) (s : Setup) → slice_get xs c ≡ Some x → y.setup ≡ x.setup → program_number (slice_set xs c y) s ≡ program_number xs s
same_number xs c x y s at same = same_position (λ z. share_program z.setup s) xs c x y at (ap (λ (t : Setup). share_program t s) same)

-- the same place in an equal table
abbrev place_in : (r t : Rows) → r ≡ t → (place : Place) → IsPlace r place → IsPlace t place
place_in r t e place at = record {
  row = at.row;
  there = subst (λ (z : Rows). at.row < length z) e at.there;
  entry = at.entry ∙ ap (λ (z : Rows). entry_of z at.row) e;
  count = at.count ∙ ap (λ (z : Rows). count_of z at.row) e;
  next = at.next ∙ ap (λ (z : Rows). entry_behind z at.row) e;
}

-- a core behind a turn: it holds the system behind that turn
pub record Turned (seats : List Seat) (loading : Loading) (reads : List Read) (s : System) : Type 0 where
  pub holds : Holds (contexts_of seats loading) s
  pub core : IsCore seats loading reads

-- where a context's block stands, the image has the page
pub has_page : (programs : List Loaded) (seat : Seat) → MayPlay programs seat → IsThere programs (key_at seat)
has_page programs seat p =
    let fits = place_fits p.own.image seat.place p.movable.accepted p.place in (
      slice_get_within programs seat.program p.own p.there,
      subst (λ (o : Option Loaded). IfSome o (λ q. seat.place.entry / 512 < page_count q.image)) (sym p.there) fits.page,
    )

module _ (reads_back : ReadsBack) (one : OneRescheduled) (forms : FormsAreOfTheImage) (accepts : RescheduledIsAccepted) (at_entries : ReadyAtEntry)
    (seats : List Seat) (loading : Loading) (reads : List Read) (core : IsCore seats loading reads) (c : ℕ) (seat : Seat) (at : slice_get seats c ≡ Some seat)
    (going : seat.end ≡ None) where
  abbrev s : System
  s = core.held

  abbrev holds : Holds (contexts_of seats loading) s
  holds = core.holds

  here : (x : Context) × (slice_get s.contexts c ≡ Some x)
  here = context_at (contexts_of seats loading) s holds c (slice_get_within (map seat_of seats) c (seat_of seat) (at_mapped seat_of seats c seat at))

  module _ (x : Context) (there : slice_get s.contexts c ≡ Some x) where
    seated : (own : Loaded) × IsSeated s.contexts own (seat_of seat) x
    seated =
        let own = own_at (contexts_of seats loading) s holds c x there in
        (own.0, holds.each c own.0 (seat_of seat) x own.1 (at_mapped seat_of seats c seat at) there)

    fine : IsReady x.setup
    fine = at_place (λ (x : Context). IsReady x.setup) s.contexts c x core.ready there

    stands : Stands seat x
    stands =
        let d = seated.1 in
        let none : x.end ≡ None = d.end ∙ going in
        record {
          entry = d.entry;
          moment = d.moment;
          blocks = d.blocks;
          end = d.end;
          input = d.input;
          limit = d.limit;
          bound = d.bound;
          going = none;
          inside = core.standing c seat x at there none;
        }

    run : Runs (contexts_of seats loading) s x (program_number s.contexts x.setup)
    run = runs (contexts_of seats loading) s holds reads_back core.ready c x there

    -- with what is known of the context
    module _ (d : Stands seat x) (number : program_number s.contexts x.setup ≡ seat.program)
        (r : Runs (contexts_of seats loading) s x (program_number s.contexts x.setup)) (ok : IsReady x.setup) where
      abbrev row : ℕ
      row = d.inside.place.row

      abbrev formed : Image
      formed = x.setup.formed

      abbrev b : Block
      b = timed_block formed row

      accepted : IsAccepted formed
      accepted = accepts x.setup.image x.setup.generation formed ok.movable ok.formed

      same_rows : rows_of x.setup.image ≡ rows_of formed
      same_rows = sym (formed_rows x.setup.image x.setup.generation formed ok.formed)

      abbrev may_play : MayPlay loading.programs seat
      may_play =
          let rows : rows_of x.setup.image ≡ rows_of r.own.image = ap rows_of (sym r.image) in
          record {
            own = r.own;
            there = ap (slice_get loading.programs) (sym number) ∙ r.there;
            formed = formed;
            movable = subst (λ (g : Description). IsMovable r.own.image g) (sym r.generation) (subst (λ (i : Image). IsMovable i x.setup.generation) (sym r.image) ok.movable);
            rescheduled = subst (λ (g : Description). IsRescheduled r.own.image g formed) (sym r.generation)
                (subst (λ (i : Image). IsRescheduled i x.setup.generation formed) (sym r.image) ok.formed);
            place = place_in (rows_of x.setup.image) (rows_of r.own.image) rows seat.place d.inside.place;
            going = going;
            running = d.inside.running;
            ready = d.inside.ready;
            below = d.inside.below;
          }

      entry_is : entry_of (rows_of formed) row ≡ x.entry
      entry_is = ap (λ (z : Rows). entry_of z row) (sym same_rows) ∙ sym d.inside.place.entry ∙ sym d.entry

      row_there : row < length (rows_of formed)
      row_there = subst (λ (z : Rows). row < length z) same_rows d.inside.place.there

      own_rows : rows_of r.own.image ≡ rows_of formed
      own_rows = ap rows_of r.image ∙ same_rows

      facts : Facts x (rows_of r.own.image) b
      facts = record {
        table = ap rows_of r.image;
        entry = entry_is;
        has = subst (λ (z : Rows). has_entry z (entry_of (rows_of formed) row) ≡ true) (sym own_rows) (has_entry-entry_of (rows_of formed) row row_there);
        next = λ to e. subst (λ (z : Rows). has_entry z to ≡ true) (sym own_rows) (next_has (rows_of formed) row to e);
        there = λ to e. block_at_entry formed accepted to (subst (λ (z : Rows). has_entry z to ≡ true) own_rows e);
        none = λ to e. none_there formed accepted to (subst (λ (z : Rows). has_entry z to ≡ false) own_rows e);
      }

      found : block_at (running x.setup) x.entry ≡ Some b
      found = subst (λ (n : ℕ). block_at (program_in formed) n ≡ Some b) entry_is (block_of_row formed accepted row row_there)

      key_is : present_key s.contexts x ≡ key_at seat
      key_is = same_key (program_number s.contexts x.setup) seat.program (x.entry / 512) (seat.place.entry / 512) number (ap (λ (n : ℕ). n / 512) d.entry)
        where
          same_key : (a e m n : ℕ) → a ≡ e → m ≡ n → let p : Key = record { program = a; page = m } in let q : Key = record { program = e; page = n } in p ≡ q
          same_key a e m n g h = cc

      -- the context plays on, and all else of the core stays
      module _ (seat' : Seat) (loading' : Loading) (reads' : List Read) (brought : IsBrought loading loading' (key_at seat))
          (played : HasPlayed (rows_of r.own.image) b seat seat') where
        agrees : Agrees x seat' (turn x)
        agrees = plays at_entries x (rows_of r.own.image) seat seat' d facts found played

        remained : Remains seat seat'
        remained = remains at_entries x (rows_of r.own.image) seat seat' d facts found played

        paging_is : (behind_turn s c x).paging ≡ paging_of loading'
        paging_is =
            let fits = place_fits may_play.own.image seat.place may_play.movable.accepted may_play.place in
            needed_is (contexts_of seats loading) s holds forms core.ready (present_key s.contexts x) r.own r.first loading' r.there r.here
            (subst (λ (k : Key). k.page < page_count r.own.image) (sym key_is) fits.page)
            (subst (IsBrought loading loading') (sym key_is) brought)

        number_stays : (z : Setup) → program_number (behind_turn s c x).contexts z ≡ program_number s.contexts z
        number_stays z = same_number s.contexts c x (turn x) z there agrees.setup

        seated_on : (own : Loaded) → IsSeated s.contexts own (seat_of seat) x → IsSeated (behind_turn s c x).contexts own (seat_of seat') (turn x)
        seated_on own q =
            let e : (turn x).setup ≡ x.setup = agrees.setup in
            record {
              image = ap (λ (z : Setup). z.image) e ∙ q.image;
              generation = ap (λ (z : Setup). z.generation) e ∙ q.generation;
              formed = subst (λ (z : Setup). IsRescheduled z.image z.generation z.formed) (sym e) q.formed;
              input = ap (λ (z : Setup). z.input) e ∙ q.input ∙ sym remained.input;
              limit = ap (λ (z : Setup). z.limit) e ∙ q.limit ∙ sym remained.limit;
              bound = ap (λ (z : Setup). z.bound) e ∙ q.bound ∙ sym remained.bound;
              number = number_stays (turn x).setup ∙ ap (program_number s.contexts) e ∙ q.number ∙ sym remained.program;
              entry = agrees.entry;
              moment = agrees.moment;
              blocks = agrees.blocks;
              end = agrees.end;
            }

        seated_still : (own : Loaded) (st : told.Seat) (y : Context) → IsSeated s.contexts own st y → IsSeated (behind_turn s c x).contexts own st y
        seated_still own st y q = record {
          image = q.image;
          generation = q.generation;
          formed = q.formed;
          input = q.input;
          limit = q.limit;
          bound = q.bound;
          number = number_stays y.setup ∙ q.number;
          entry = q.entry;
          moment = q.moment;
          blocks = q.blocks;
          end = q.end;
        }

        -- at each place both the seat and the context are the new ones, or both are as they were
        both : (P : ℕ → Seat → Context → Type 0) →
            ((k : ℕ) (e : Seat) (y : Context) → slice_get seats k ≡ Some e → slice_get s.contexts k ≡ Some y → P k e y) → P c seat' (turn x) →
            (k : ℕ) (e : Seat) (y : Context) → slice_get (slice_set seats c seat') k ≡ Some e → slice_get (slice_set s.contexts c (turn x)) k ≡ Some y → P k e y
        both P old new k e y f g = go (set_or_kept seats c k seat' e f) (set_or_kept s.contexts c k (turn x) y g)
          where
            go : ((k ≡ c) × (e ≡ seat')) ⊎ ((c ≢ k) × (slice_get seats k ≡ Some e)) → ((k ≡ c) × (y ≡ turn x)) ⊎ ((c ≢ k) × (slice_get s.contexts k ≡ Some y)) → P k e y
            go (inl (i, p)) (inl (j, q)) =
                subst (λ (n : ℕ). P n e y) (sym i) (subst (λ (z : Seat). P c z y) (sym p) (subst (P c seat') (sym q) new))
            go (inl (i, p)) (inr (n, q)) = absurd (n (sym i))
            go (inr (n, p)) (inl (j, q)) = absurd (n (sym j))
            go (inr (n, p)) (inr (m, q)) = old k e y p q

        each_on : (k : ℕ) (own : Loaded) (st : told.Seat) (y : Context) → slice_get loading'.programs k ≡ Some own →
            slice_get (map seat_of (slice_set seats c seat')) k ≡ Some st → slice_get (slice_set s.contexts c (turn x)) k ≡ Some y →
            IsSeated (behind_turn s c x).contexts own st y
        each_on k own st y a e g =
            let m = mapped_at seat_of (slice_set seats c seat') k st e in
            let there' : slice_get loading.programs k ≡ Some own = ap (λ (ps : List Loaded). slice_get ps k) (sym brought.programs) ∙ a in
            subst (λ (z : told.Seat). IsSeated (behind_turn s c x).contexts own z y) (sym m.2)
            (both (λ k e y. (own : Loaded) → slice_get loading.programs k ≡ Some own → IsSeated (behind_turn s c x).contexts own (seat_of e) y)
            (λ k e y f g own p. seated_still own (seat_of e) y (holds.each k own (seat_of e) y p (at_mapped seat_of seats k e f) g))
            (λ own p. seated_on own (holds.each c own (seat_of seat) x p (at_mapped seat_of seats c seat at) there))
            k m.0 y m.1 g own there')

        holds_on : Holds (contexts_of (slice_set seats c seat') loading') (behind_turn s c x)
        holds_on = record {
          seats = length-map (slice_set seats c seat') seat_of ∙ length_set seats c seat' ∙ sym (length-map seats seat_of) ∙ holds.seats ∙ sym (length_set s.contexts c (turn x));
          programs = ap length brought.programs ∙ holds.programs ∙ sym (length_set s.contexts c (turn x));
          each = each_on;
          paging = paging_is;
        }

        ready_on : All (λ y. IsReady y.setup) (behind_turn s c x).contexts
        ready_on = all_by_places (λ (y : Context). IsReady y.setup) (slice_set s.contexts c (turn x)) (λ k y g. go k y (set_or_kept s.contexts c k (turn x) y g))
          where
            go : (k : ℕ) (y : Context) → ((k ≡ c) × (y ≡ turn x)) ⊎ ((c ≢ k) × (slice_get s.contexts k ≡ Some y)) → IsReady y.setup
            go k y (inl (i, p)) = subst (λ (z : Context). IsReady z.setup) (sym p) (subst IsReady (sym agrees.setup) ok)
            go k y (inr (n, q)) = at_place (λ (x : Context). IsReady x.setup) s.contexts k y core.ready q

        turned_so : AreRead loading'.programs reads' → length reads' ≡ loading'.cache.frames → Turned (slice_set seats c seat') loading' reads' (behind_turn s c x)
        turned_so read frames = record {
          holds = holds_on;
          core = record {
            held = behind_turn s c x;
            holds = holds_on;
            few = let n = length_set seats c seat' in let m = core.few in omega arith;
            ready = ready_on;
            standing = both (λ k e y. y.end ≡ None → StandsIn e y) (λ k e y f g. core.standing k e y f g) agrees.standing;
            read = read;
            frames = frames;
          };
        }

  number_is : (x : Context) (there : slice_get s.contexts c ≡ Some x) → program_number s.contexts x.setup ≡ seat.program
  number_is x there = (seated x there).1.number

  -- a context that hasn't ended may play
  pub may_play_at : MayPlay loading.programs seat
  may_play_at =
      let x = here in
      may_play x.0 x.1 (stands x.0 x.1) (number_is x.0 x.1) (run x.0 x.1) (fine x.0 x.1)

  -- when it has, the core holds the system behind its turn
  pub turned : (seat' : Seat) (loading' : Loading) (reads' : List Read) → IsBrought loading loading' (key_at seat) →
      ((p : MayPlay loading.programs seat) → HasPlayed (rows_of p.own.image) (timed_block p.formed p.place.row) seat seat') →
      AreRead loading'.programs reads' → length reads' ≡ loading'.cache.frames → Turned (slice_set seats c seat') loading' reads' (step s (Turn c))
  turned seat' loading' reads' brought played read frames =
      let x = here in
      let d = stands x.0 x.1 in
      let n = number_is x.0 x.1 in
      let r = run x.0 x.1 in
      let ok = fine x.0 x.1 in
      subst (Turned (slice_set seats c seat') loading' reads') (sym (step_turn s c x.0 x.1 d.going))
      (turned_so x.0 x.1 d n r ok seat' loading' reads' brought (played (may_play x.0 x.1 d n r ok)) read frames)
