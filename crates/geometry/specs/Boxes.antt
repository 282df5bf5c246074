-- Boxes of places, and lists of them.
use Rattle.std.specs.Prelude.{ℕ, ◌+◌, Bool, false, ◌&&◌, ◌||◌, List, [], ◌∷◌, nat_le, nat_lt}
use Rattle.geometry.specs.declared.bounds.Bounds.{Bounds}
use Rattle.geometry.specs.declared.place.Rectangle.{Rectangle}

-- from lo on, and before hi
abbrev pub lies : ℕ → ℕ → ℕ → Bool
lies lo hi x = nat_le lo x && nat_lt x hi

-- a box has the place at this height and this far from the left
abbrev pub has : Bounds → ℕ → ℕ → Bool
has box y x = lies box.top box.bottom y && lies box.left box.right x

-- one of the boxes has it
abbrev pub covers : List Bounds → ℕ → ℕ → Bool
covers [] y x = false
covers (box ∷ boxes) y x = has box y x || covers boxes y x

-- the places of a body
abbrev pub body_box : Rectangle ℕ → Bounds
body_box body =
    record {
      top = body.top;
      bottom = body.top + body.height;
      left = body.left;
      right = body.left + body.width;
    }
