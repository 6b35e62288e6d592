-- For contracts within the crate. The frames of a cache: pages in the order in which they came or were last touched.
use Rattle.std.specs.Prelude.{ℕ, ◌≡◌, ◌<◌, ◌≤◌, nat_eq, List, [], ◌++◌, length, take, drop, slice_index_or, All}
use Rattle.std.specs.List.{IsDistinct, remove}
use Rattle.tnk_base.specs.declared.Key.{Key}
use Rattle.page_cache.specs.Cache.{Held}

-- the pages that stand in frames, that touched last at the end, and the number of frames
pub record Filled : Type 0 where
  pub held : List Held
  pub size : ℕ

-- the page in a frame, by the tables of keys and of words
abbrev pub held_in : List Key → List (List ℕ) → ℕ → Held
held_in keys words f = record {
  frame = f;
  page = record { key = slice_index_or keys f (record { program = 0; page = 0 }); words = slice_index_or words f [] };
}

-- the tables have a row for each frame, and the order has each frame once: the free ones, and then those in use
pub record AreFrames (keys : List Key) (words : List (List ℕ)) (order : List ℕ) (free : ℕ) : Type 0 where
  pub rows : length keys ≡ length words
  pub listed : length order ≡ length words
  pub within : free ≤ length order
  pub inside : All (λ f. f < length words) order
  pub once : IsDistinct nat_eq order

-- the element i goes to the end
abbrev pub moved_to_end : {X : Type 0} → ℕ → List X → List X
moved_to_end i xs = remove xs i ++ take 1 (drop i xs)
