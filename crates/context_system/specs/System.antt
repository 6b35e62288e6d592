-- Several contexts beside the pages of their programs.
use Rattle.std.specs.Prelude.{ℕ, zero, suc, ◌≡◌, ◌<◌, ◌/◌, Bool, not, ◌&&◌, List, [], ◌∷◌, ◌++◌, length, map, IsSomeAnd, Some, None, slice_get, slice_set, bytes_eq}
use Rattle.std.specs.List.{position_or_len, range_with_len}
use Rattle.tnk_base.specs.declared.Key.{Key}
use Rattle.machine_desc.specs.Same.{are_same}
use Rattle.image_format.specs.Image.{page_count}
use Rattle.image_format.specs.Bytes.{bytes_of}
use Rattle.image_check.specs.Blocks.{page_of}
use Rattle.paging.specs.Pages.{Page, Paging, evict, drop_saved, need}
use Rattle.context_system.specs.declared.Event.{Event}
use Rattle.context_system.specs.declared.Event.TheVariants.{Turn, Evict, Drop, Prefetch}
use Rattle.context_system.specs.Context.{Setup, Context, opened, turn}

-- the contexts in order, and the pages of their programs
pub record System : Type 0 where
  pub contexts : List Context
  pub paging : Paging

-- whether two contexts share a program: their images' files have the same bytes, and they run as equal generations
abbrev pub share_program : Setup → Setup → Bool
share_program s r = bytes_eq (bytes_of s.image) (bytes_of r.image) && are_same s.generation r.generation

-- the number of a context's program: that of the first context that shares it
abbrev pub program_number : List Context → Setup → ℕ
program_number xs s = position_or_len (λ x. share_program x.setup s) xs

-- the key of the page n of a context's program
abbrev pub key_of : List Context → Setup → ℕ → Key
key_of xs s n = record { program = program_number xs s; page = n }

-- the key of the page on which a context's present block stands; no block stands on two
abbrev pub present_key : List Context → Context → Key
present_key xs x = key_of xs x.setup (x.entry / 512)

-- the page under a key in its form: that of the image in the generation
abbrev pub page_in_form : Setup → Key → Page
page_in_form s k = record { key = k; words = (page_of s.formed k.page).words }

-- whether a context runs in another generation than its image was made for
abbrev pub runs_elsewhere : Setup → Bool
runs_elsewhere s = not (are_same s.image.description s.generation)

-- the pages when a key has been needed
abbrev pub needed : List Context → Key → Paging → Paging
needed xs k p = elim (slice_get xs k.program) [
  | None ↦ p
  | Some x ↦ need (page_in_form x.setup k) (runs_elsewhere x.setup) p
]

-- a turn of a context needs the page on which its present block stands, where it hasn't ended
abbrev pub paging_for_turn : List Context → Context → Paging → Paging
paging_for_turn xs x p = elim x.end [ None ↦ needed xs (present_key xs x) p | Some e ↦ p ]

-- one event
abbrev pub step : System → Event → System
step s (Turn c) = elim (slice_get s.contexts c) [
  | None ↦ s
  | Some x ↦ record { contexts = slice_set s.contexts c (turn x); paging = paging_for_turn s.contexts x s.paging }
]
step s (Evict k) = record s { paging = record s.paging { pages = evict k s.paging.pages } }
step s (Drop k) = record s { paging = record s.paging { pages = drop_saved k s.paging.pages } }
step s (Prefetch k) = record s { paging = needed s.contexts k s.paging }

-- a list of events, one after another
abbrev pub play : System → List Event → System
play s [] = s
play s (e ∷ es) = play (step s e) es

-- turns of so many contexts in order, so many times round
abbrev pub rounds : (contexts times : ℕ) → List Event
rounds contexts zero = []
rounds contexts (suc n) = map Turn (range_with_len 0 contexts) ++ rounds contexts n

-- no page resident or saved, in so many frames and with so many saved pages at most
abbrev pub empty : (frames most_saved : ℕ) → Paging
empty frames most_saved = record {
  pages = record { resident = []; saved = []; frames = frames; most_saved = most_saved; evicted = 0 };
  loaded = 0;
  rescheduled = 0;
  restored = 0;
}

-- the first system: each context at its start, and no page
abbrev pub first : List Setup → (frames most_saved : ℕ) → System
first setups frames most_saved = record { contexts = map opened setups; paging = empty frames most_saved }

-- a key is that of a page of a program
abbrev pub IsKeyOf : List Context → Key → Type 0
IsKeyOf xs k = IsSomeAnd (slice_get xs k.program) (λ x. (k ≡ key_of xs x.setup k.page) × (k.page < page_count x.setup.image))

-- an event whose context, or whose program and page, are there
abbrev pub Admits : System → Event → Type 0
Admits s (Turn c) = c < length s.contexts
Admits s (Evict k) = IsKeyOf s.contexts k
Admits s (Drop k) = IsKeyOf s.contexts k
Admits s (Prefetch k) = IsKeyOf s.contexts k
