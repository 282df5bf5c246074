-- What copying one picture onto another leaves and answers.
use Rattle.std.specs.Prelude.{ℕ, Bool, cond, ◌&&◌, Ok, Err, Result, ◌==◌, nat_lt}
use Rattle.std.specs.Bool.{then_some}
use Rattle.refusal.specs.declared.Refusal.{Refusal}
use Rattle.refusal.specs.declared.Refusal.TheVariants.{UnfitSides}
use Rattle.picture.specs.Picture.{Picture}
use Rattle.picture.specs.Draws.{Sources}

-- whether two pictures have the same sides
abbrev pub same_sides : {A : Type 0} → Picture A → Picture A → Bool
same_sides p q = p.sides.width == q.sides.width && p.sides.height == q.sides.height

-- q after the copy: p itself if their sides are the same
abbrev pub copied : {A : Type 0} → Picture A → Picture A → Picture A
copied p q = cond (same_sides p q) p q

-- what the copy answers
abbrev pub copying : {A : Type 0} → Picture A → Picture A → Result (Unit {0}) Refusal
copying p q = cond (same_sides p q) (Ok tt) (Err UnfitSides)

-- each place of row y left of x takes the sample of the same place
abbrev pub row_to : ℕ → ℕ → Sources
row_to y x = λ q. then_some (q.y == y && nat_lt q.x x) q

-- each place left of w and above row y takes the sample of the same place
abbrev pub rows_to : ℕ → ℕ → Sources
rows_to w y = λ q. then_some (nat_lt q.x w && nat_lt q.y y) q
