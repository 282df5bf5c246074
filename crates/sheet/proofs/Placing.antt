-- What place answers is the first free spot, in words.
use Rattle.std.proofs.Common.{◌≡◌, ℕ, zero, suc, true, false, not, ◌⊎◌, List, [], ◌∷◌, Some, None, Ok, Option, Result, refl, subst, inl, inr, arith}
use Rattle.std.specs.List.{slice_get}
use Rattle.std.proofs.lemmas.Bool.{and_parts, and_from, or_cases, both_ways, cases_Bool, not-true, not_from_false}
use Rattle.geometry.specs.declared.bounds.Bounds.{Bounds}
use Rattle.geometry.specs.declared.search.Spot.{Spot}
use Rattle.geometry.specs.FirstFree.{Free, First}
use Rattle.geometry.proofs.Searching.{is_first}
use Rattle.sheet.specs.declared.row.Draft.{Draft}
use Rattle.sheet.specs.declared.row.Row.{Row}
use Rattle.sheet.specs.Claims.{claim, claim_inside, meets, meets_any}
use Rattle.sheet.specs.Rules.{Content, empty_picture, empty_row, verdict, shape_checks, drafted, free, found, spotted, and_then, place_answer}
use Rattle.sheet.specs.Sound.{sound, sound_rows}
use Rattle.sheet.specs.Words.{FreeSpot, PlacedFirst, ClaimLaws}
use Rattle.sheet.proofs.Apart.{meets_none_at, row_sound, BodyFits, body_fits}
use Rattle.sheet.proofs.Laid.{passed}
use Rattle.sheet.proofs.Meeting.{shared_meets, tested}
use Rattle.sheet.proofs.Rows.{faultless}
use Rattle.sheet.specs.Serving.{Sided}
use Rattle.sheet.proofs.Sided.{sided}

-- the row that a claim meets
record Met (c : List Bounds) (rows : List Row) : Type 0 where
  pub number : ℕ
  pub row : Row
  pub numbered : slice_get rows number ≡ Some row
  pub meet : meets c (claim row) ≡ true

met : (c : List Bounds) (rows : List Row) → meets_any c rows ≡ true → Met c rows
met c [] h = absurd (both_ways false refl h)
met c (x ∷ rows) h = go (or_cases (meets c (claim x)) (meets_any c rows) h) (met c rows)
  where
    go : ((meets c (claim x) ≡ true) ⊎ (meets_any c rows ≡ true)) → (meets_any c rows ≡ true → Met c rows) → Met c (x ∷ rows)
    go (inl here) ih = record { number = zero; row = x; numbered = refl; meet = here }
    go (inr later) ih = let m = ih later in record { number = suc m.number; row = m.row; numbered = m.numbered; meet = m.meet }

module _ (c : Content) (d : Draft) (ok : sound c ≡ true) (full : empty_row (drafted d 0 0) ≡ false) where
  in_words : (s : Spot) → free c d s.top s.left ≡ true → FreeSpot c d s
  in_words s h =
      let at : Row = drafted d s.top s.left in
      let (inside, clear) = and_parts (claim_inside c.sides.packed at) (not (meets_any (claim at) c.rows)) h in
      record {
        inside = inside;
        off = λ n r e m.
            both_ways (meets (claim at) (claim r))
            (meets_none_at (claim at) c.rows n r (not-true (meets_any (claim at) c.rows) clear) e)
            (shared_meets (claim at) (claim r) m.y m.x m.first m.second);
      }

  rows_sound : sound_rows c.sides c.rows ≡ true
  rows_sound = (and_parts (not (empty_picture c.sides)) (sound_rows c.sides c.rows) ok).1

  by_test : (s : Spot) → FreeSpot c d s → free c d s.top s.left ≡ true
  by_test s f = and_from (claim_inside c.sides.packed at) (not (meets_any (claim at) c.rows)) f.inside (go (cases_Bool (meets_any (claim at) c.rows)))
    where
      at : Row
      at = drafted d s.top s.left

      go : ((meets_any (claim at) c.rows ≡ true) ⊎ (meets_any (claim at) c.rows ≡ false)) → not (meets_any (claim at) c.rows) ≡ true
      go (inr h) = not_from_false (meets_any (claim at) c.rows) h
      go (inl h) =
          let m : Met (claim at) c.rows = met (claim at) c.rows h in
          let r-full : empty_row m.row ≡ false =
          (faultless c.sides m.row (row_sound c.sides c.rows m.number m.row rows_sound m.numbered)).sides in
          absurd (f.off m.number m.row m.numbered ((tested at m.row full r-full).shares m.meet))

  -- a free spot lies among those that are searched
  among : (s : Spot) → FreeSpot c d s → Free (free c d) c.sides.packed.height c.sides.packed.width s
  among s f =
      let b : BodyFits c.sides.packed (drafted d s.top s.left).body = body_fits c.sides.packed (drafted d s.top s.left) f.inside in
      let z : Sided (drafted d 0 0) = sided (drafted d 0 0) full in
      record { high = omega (arith, b.down, z.high); near = omega (arith, b.across, z.wide); passes = by_test s f }

  first_words : (r : Option Spot) → First (free c d) c.sides.packed.height c.sides.packed.width r → PlacedFirst c d (spotted r)
  first_words None none = (refl, λ t f. none t (among t f))
  first_words (Some s) (here, later) = (in_words s here.passes, λ t f ne. later t (among t f) ne)

pub placed : (c : Content) (d : Draft) → sound c ≡ true → Ok tt ≡ verdict (shape_checks c (drafted d 0 0)) →
    PlacedFirst c d (place_answer c d)
placed c d ok shape =
    let full : empty_row (drafted d 0 0) ≡ false = (passed (shape_checks c (drafted d 0 0)) tt shape).1.1.0 in
    subst (λ (v : Result Unit _). PlacedFirst c d (and_then v (spotted (found c d)))) shape
    (first_words c d ok full (found c d) (is_first (free c d) c.sides.packed.height c.sides.packed.width))

pub laws : ClaimLaws
laws = record { tested = tested; placed = placed }
