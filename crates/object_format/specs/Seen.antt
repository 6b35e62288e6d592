-- The names that are seen so far, as a set: the crate's own functions cite it.
use Rattle.std.specs.Prelude.{ℕ, ◌≡◌, Bool, ◌||◌, bytes_eq, List}
use Rattle.std.specs.HashSet.{HashSet, contains_by}
use Rattle.std.specs.declared.hash.FoldHasher.{FoldHasher}
use Rattle.std.specs.declared.hash.BuildHasherDefault.{BuildHasherDefault}
use denote.Ref.{Bor}

abbrev pub Seen : Type 0
Seen = HashSet (Bor (List ℕ)) (BuildHasherDefault FoldHasher)

-- whether a name is among those seen
abbrev pub is_seen : Seen → List ℕ → Bool
is_seen seen name = contains_by (λ k. bytes_eq name k.now) seen

-- a name has joined those seen
abbrev pub Grown : Seen → Seen → List ℕ → Type 0
Grown old new name = (q : Bor (List ℕ)) → is_seen new q.now ≡ (bytes_eq name q.now || is_seen old q.now)
