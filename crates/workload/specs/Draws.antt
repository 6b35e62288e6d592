-- The numbers that are drawn for an image, from a state on. The first state is the number of the image.
use Rattle.std.specs.Prelude.{ℕ, zero, suc, ◌+◌, ◌*◌, ◌/◌, ◌%◌, ◌^◌}

-- the state behind a draw
unfoldable pub step : ℕ → ℕ
step x = (1664525 * x + 1013904223) % 2 ^ 32

-- the state behind so many draws
abbrev pub after : (draws x : ℕ) → ℕ
after zero x = x
after (suc n) x = step (after n x)

-- what the draw n from a state on answers, 0 to 65,535; the first one is draw 0
abbrev pub draw : (n x : ℕ) → ℕ
draw n x = after (suc n) x / 65536
