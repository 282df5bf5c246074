-- Text that grows.
use Rattle.std.proofs.Common.{◌≡◌, ℕ, suc, ◌+◌, ◌<◌, ◌≤◌, List, [], ◌∷◌, ◌++◌, length, get_or, drop, decimal, sym, ap, ◌∙◌, arith, length-append}
use Rattle.std.proofs.lemmas.List.{at_drop_more}
use Rattle.listing.specs.Lines.{items}

pub room_left : (a rest w all : List ℕ) → a ++ rest ≡ w ++ all → length a + length rest ≡ length w + length all
room_left a rest w all h = sym (length-append a rest) ∙ ap length h ∙ length-append w all

pub items_on : (ns : List ℕ) (i d : ℕ) → i < length ns → items (drop i ns) ≡ (32 ∷ []) ++ (decimal (get_or ns i d) ++ items (drop (i + 1) ns))
items_on ns i d h = at_drop_more items ns i d h

module _ (a w ns : List ℕ) (i d : ℕ) (h : i < length ns) (inv : a ++ items (drop i ns) ≡ w ++ items ns) where
  left : length (items (drop i ns)) ≡ suc (length (decimal (get_or ns i d)) + length (items (drop (i + 1) ns)))
  left = ap length (items_on ns i d h) ∙ ap suc (length-append (decimal (get_or ns i d)) (items (drop (i + 1) ns)))

  pub item_room : length w + length (items ns) ≤ 65536 → length a + 1 + length (decimal (get_or ns i d)) ≤ 65536
  item_room le = omega (arith, room_left a (items (drop i ns)) w (items ns) inv, left)
