-- Lemmas, here and not under proofs/ since ghost members cite them: what the two layouts owe.
use Rattle.std.specs.Prelude.{◌≡◌, ℕ, ◌+◌, ◌*◌, ◌/◌, ◌%◌, ◌<◌, ◌≤◌, Bool, true, ◌&&◌, nat_le}
use Rattle.std.proofs.Common.{ap, ◌∙◌, ap₂, div-add-mod', arith}
use Rattle.std.proofs.lemmas.Nat.{mul-add-lt, div-mul-add, mod-mul-add}
use Rattle.std.proofs.lemmas.Bool.{and_parts, leb-true}
use Rattle.geometry.specs.declared.place.Place.{Place}
use Rattle.geometry.specs.declared.place.Sides.{Sides}
use Rattle.geometry.specs.Places.{at, inside}
use Rattle.geometry.proofs.Insides.{Within, within}
use Rattle.picture.specs.Laws.{Lawful, Reversible, InPieces, Together}
use Rattle.picture.specs.Runs.{short, blocks, row_layout, row_spot, tile_layout, tile_spot, row_pieces, tile_pieces}

short_parts : (sides : Sides ℕ) (b : Bool) → (short sides && b) ≡ true → (sides.width ≤ 65535) × (sides.height ≤ 65535) × (b ≡ true)
short_parts sides b e =
    let (s, t) = and_parts (short sides) b e in
    let (w, h) = and_parts (nat_le sides.width 65535) (nat_le sides.height 65535) s in
    (leb-true _ _ w, leb-true _ _ h, t)

pub rows_lawful : Lawful row_layout
rows_lawful sides n e =
    let (w, h, t) = short_parts sides _ e in
    let long : sides.height * sides.width ≤ n = leb-true _ _ t in
    record {
      across = w;
      down = h;
      room = λ q i.
          let b : Within sides q = within sides q i in
          omega (arith, mul-add-lt q.y sides.width q.x sides.height b.down b.across);
    }

-- a place's block is one of the blocks of its side
pub block_within : (x w : ℕ) → x < w → x / 8 < blocks w
block_within x w h = omega arith

tile_within : (w h : ℕ) (q : Place) → q.x < w → q.y < h → tile_spot w q < blocks h * blocks w * 64
tile_within w h q a d =
    let block : q.y / 8 * blocks w + q.x / 8 < blocks w * blocks h =
    mul-add-lt (q.y / 8) (blocks w) (q.x / 8) (blocks h) (block_within q.y h d) (block_within q.x w a) in
    let inner : q.y % 8 * 8 + q.x % 8 < 64 = omega arith in
    omega (arith, mul-add-lt (q.y / 8 * blocks w + q.x / 8) 64 (q.y % 8 * 8 + q.x % 8) (blocks w * blocks h) block inner)

pub tiles_lawful : Lawful tile_layout
tiles_lawful sides n e =
    let (w, h, t) = short_parts sides _ e in
    let long : blocks sides.height * blocks sides.width * 64 ≤ n = leb-true _ _ t in
    record {
      across = w;
      down = h;
      room = λ q i.
          let b : Within sides q = within sides q i in
          omega (arith, tile_within sides.width sides.height q b.across b.down);
    }

pub rows_reversible : Reversible row_layout
rows_reversible w sides narrow =
    record {
      has = λ k. inside sides (back k);
      back = back;
      there = λ k h. (h, div-add-mod' k w);
      again = λ q h. (ap (inside sides) (returns q h) ∙ h, returns q h);
    }
  where
    back : ℕ → Place
    back k = at (k % w) (k / w)

    returns : (q : Place) → inside sides q ≡ true → back (row_spot w q) ≡ q
    returns q h =
        let x : q.x < sides.width = (within sides q h).across in
        let lt : q.x < w = omega arith in
        ap₂ at (mod-mul-add q.y w q.x lt) (div-mul-add q.y w q.x lt)

-- a number by its quotient and its rest
joined : (a b : ℕ) → b < 8 → ((a * 8 + b) / 8 ≡ a) × ((a * 8 + b) % 8 ≡ b)
joined a b h = (div-mul-add a 8 b h, mod-mul-add a 8 b h)

pub tiles_reversible : Reversible tile_layout
tiles_reversible w sides narrow =
    record {
      has = λ k. inside sides (back k);
      back = back;
      there = λ k h. (h, whole k);
      again = λ q h. (ap (inside sides) (returns q h) ∙ h, returns q h);
    }
  where
    n : ℕ
    n = blocks w

    back : ℕ → Place
    back k = at (k / 64 % n * 8 + k % 64 % 8) (k / 64 / n * 8 + k % 64 / 8)

    whole : (k : ℕ) → tile_spot w (back k) ≡ k
    whole k =
        let across = joined (k / 64 % n) (k % 64 % 8) (omega arith) in
        let down = joined (k / 64 / n) (k % 64 / 8) (omega arith) in
        ap₂ (λ b i. b * 64 + i)
        (ap₂ (λ d a. d * n + a) down.0 across.0 ∙ div-add-mod' (k / 64) n)
        (ap₂ (λ d a. d * 8 + a) down.1 across.1 ∙ div-add-mod' (k % 64) 8)
        ∙ div-add-mod' k 64

    returns : (q : Place) → inside sides q ≡ true → back (tile_spot w q) ≡ q
    returns q h =
        let x : q.x < sides.width = (within sides q h).across in
        let lt : q.x < w = omega arith in
        let block : ℕ = q.y / 8 * n + q.x / 8 in
        let inner : ℕ = q.y % 8 * 8 + q.x % 8 in
        let small : inner < 64 = omega arith in
        let low : q.x % 8 < 8 = omega arith in
        let column : q.x / 8 < n = block_within q.x w lt in
        let b = div-mul-add block 64 inner small in
        let i = mod-mul-add block 64 inner small in
        ap₂ at
        (ap₂ (λ u v. u % n * 8 + v % 8) b i
        ∙ ap₂ (λ u v. u * 8 + v) (mod-mul-add (q.y / 8) n (q.x / 8) column) (mod-mul-add (q.y % 8) 8 (q.x % 8) low)
        ∙ div-add-mod' q.x 8)
        (ap₂ (λ u v. u / n * 8 + v / 8) b i
        ∙ ap₂ (λ u v. u * 8 + v) (div-mul-add (q.y / 8) n (q.x / 8) column) (div-mul-add (q.y % 8) 8 (q.x % 8) low)
        ∙ div-add-mod' q.y 8)

pub rows_together : (w : ℕ) (place : Place) (n : ℕ) → Together (row_spot w) place n
rows_together w place n k h = omega arith

pub rows_in_pieces : InPieces row_layout row_pieces
rows_in_pieces w q = (omega arith, rows_together w q (row_pieces q))

-- a stretch that does not pass the end of a block lies together
pub tiles_together : (w : ℕ) (place : Place) (n : ℕ) → place.x % 8 + n ≤ 8 → Together (tile_spot w) place n
tiles_together w place n block k h =
    let x : ℕ = place.x in
    let y : ℕ = place.y in
    let same : (place.x + k) / 8 ≡ place.x / 8 = omega arith in
    let on : (place.x + k) % 8 ≡ place.x % 8 + k = omega arith in
    ap (λ a. (y / 8 * blocks w + a) * 64 + (y % 8 * 8 + (x + k) % 8)) same
    ∙ ap (λ a. (y / 8 * blocks w + x / 8) * 64 + (y % 8 * 8 + a)) on ∙ omega arith

pub tiles_in_pieces : InPieces tile_layout tile_pieces
tiles_in_pieces w q = (omega arith, tiles_together w q (tile_pieces q) (omega arith))
