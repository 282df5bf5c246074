-- The two jumps of the search.
use Rattle.std.specs.Prelude.{ℕ, min, cond, List, [], ◌∷◌}
use Rattle.geometry.specs.declared.bounds.Bounds.{Bounds}
use Rattle.geometry.specs.Boxes.{lies, has}

-- to the right: to the end of the first box that has the spot
abbrev pub past : List Bounds → ℕ → ℕ → ℕ
past [] top left = left
past (box ∷ boxes) top left = cond (has box top left) box.right (past boxes top left)

-- down: to the nearest end of a box that stands at this top
abbrev pub next : List Bounds → ℕ → ℕ → ℕ
next [] tops top = tops
next (box ∷ boxes) tops top =
    cond (lies box.top box.bottom top) (min box.bottom (next boxes tops top)) (next boxes tops top)
