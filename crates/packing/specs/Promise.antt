-- The promise, whole: what holds of every list of edits, and of all pictures that are packed and unpacked by the sheet
-- that it leaves.
use Rattle.std.specs.Prelude.{◌≡◌, ℕ, ◌+◌, ◌<◌, true, ◌&&◌, List, length, take, Some, None, Ok, Err, Result, ◌≢◌}
use Rattle.std.specs.List.{slice_get}
use Rattle.refusal.specs.declared.Refusal.{Refusal}
use Rattle.refusal.specs.declared.Refusal.TheVariants.{NoFreeSpot}
use Rattle.geometry.specs.declared.place.Place.{Place}
use Rattle.geometry.specs.declared.search.Spot.{Spot}
use Rattle.geometry.specs.FirstFree.{Later}
use Rattle.picture.specs.Picture.{Picture}
use Rattle.sheet.specs.declared.row.Draft.{Draft}
use Rattle.sheet.specs.declared.row.Row.{Row}
use Rattle.sheet.specs.Rules.{Content, new_sheet, verdict, shape_checks, drafted}
use Rattle.sheet.specs.Serving.{covers_place, served_place, serve_answer, Fine, Coarse}
use Rattle.sheet.specs.Words.{ClaimedOnce, FreeSpot}
use Rattle.edits.specs.declared.refused.EditRefused.TheVariants.{Plain, InBox}
use Rattle.edits.specs.declared.edit.Edit.{Edit}
use Rattle.edits.specs.declared.edit.Edit.TheVariants.{Place as PlaceEdit}
use Rattle.edits.specs.Runs.{answer, next, left_by}
use Rattle.edits.specs.Told.{Answer, is_refused}
use Rattle.packing.specs.Moves.{holds, centre_of, server_of, given, is_projected, fit, fitted, Packs, Unpacks}

-- the sheet after the first k edits, from a new sheet
abbrev pub sheet_after : List Edit → ℕ → Content
sheet_after edits k = left_by new_sheet (take k edits)

-- The sheet and every answer are what the rules give from the list alone.
pub record Run (edits : List Edit) (sheet : Content) (told : List Answer) : Type 0 where
  -- the first edit meets a new sheet, and each other the sheet that the one before it left
  pub start : sheet_after edits 0 ≡ new_sheet
  pub step : (k : ℕ) (e : Edit) → slice_get edits k ≡ Some e → sheet_after edits (k + 1) ≡ next (sheet_after edits k) e
  pub end : sheet ≡ sheet_after edits (length edits)
  -- each gets the rule's answer on the sheet that it meets, and a refused one leaves that sheet
  pub each : length told ≡ length edits
  pub answers : (k : ℕ) (e : Edit) → slice_get edits k ≡ Some e → slice_get told k ≡ Some (answer (sheet_after edits k) e)
  pub unchanged : (k : ℕ) (e : Edit) → slice_get edits k ≡ Some e → is_refused (answer (sheet_after edits k) e) ≡ true →
      sheet_after edits (k + 1) ≡ sheet_after edits k

-- a place passes its other checks: all but the search for a spot
abbrev pub Passes : Content → Draft → Type 0
Passes c d = verdict (shape_checks c (drafted d 0 0)) ≡ Ok tt

-- It then answers a free spot, and every other free spot is lower, or level and further right; or it is refused with 17, and
-- no spot is free.
abbrev pub Placing : Content → Draft → Answer → Type 0
Placing c d (Ok (Some s)) = FreeSpot c d s × ((t : Spot) → FreeSpot c d t → (t ≢ s) → Later s t)
Placing c d (Err (Plain e)) = (e ≡ NoFreeSpot) × ((t : Spot) → FreeSpot c d t → ⊥)
Placing c d (Ok None) = ⊥
Placing c d (Err (InBox f)) = ⊥

-- row r is on the sheet and has the number n
abbrev pub Numbered : Content → ℕ → Row → Type 0
Numbered c n r = slice_get c.rows n ≡ Some r

-- The lowest-numbered row that covers a projected place serves it.
pub record Serves (c : Content) (r : Row) (p : Place) : Type 0 where
  pub number : ℕ
  pub numbered : Numbered c number r
  pub covering : covers_place r p ≡ true
  pub lowest : (n : ℕ) (s : Row) → n < number → Numbered c n s → covers_place s p ≢ true

-- Pack: each body place takes the sample at its centre sample; all other samples stay.
pub record TakesCentres {A : Type 0} (c : Content) (from to left : Picture A) : Type 0 where
  pub body : (n : ℕ) (r : Row) (p : Place) → Numbered c n r → holds r p ≡ true → left.at p ≡ from.at (centre_of r p)
  pub rest : (p : Place) → ((n : ℕ) (r : Row) → Numbered c n r → holds r p ≢ true) → left.at p ≡ to.at p

-- Unpack: each covered place takes the sample of the body place that serves it; all other samples stay.
pub record TakesServed {A : Type 0} (c : Content) (from to left : Picture A) : Type 0 where
  pub covered : (r : Row) (p : Place) → Serves c r p → left.at p ≡ from.at (server_of r p)
  pub rest : (p : Place) → ((n : ℕ) (r : Row) → Numbered c n r → covers_place r p ≢ true) → left.at p ≡ to.at p

-- a sample returns: the picture written last has at its place what the picture read first has there
abbrev pub Returns : {A : Type 0} → Picture A → Picture A → Place → Type 0
Returns first last p = last.at p ≡ first.at p

-- every sample that a fine row serves returns
abbrev pub FineReturns : {A : Type 0} → Content → Picture A → Picture A → Type 0
FineReturns c first last = (r : Row) (p : Place) → Serves c r p → Fine r → Returns first last p

-- every sample in a coarse row's body returns, if that row serves its centre sample
abbrev pub CoarseReturns : {A : Type 0} → Content → Picture A → Picture A → Type 0
CoarseReturns c first last =
    (n : ℕ) (r : Row) (p : Place) → Numbered c n r → holds r p ≡ true → Coarse r → Serves c r (centre_of r p) → Returns first last p

-- two projected pictures pack alike: every place that pack writes gets the same sample from both
abbrev pub Alike : {A : Type 0} → Content → Picture A → Picture A → Type 0
Alike c one other = (p : Place) → given c one p ≡ given c other p

-- For a list of edits, the sheet that it leaves and the answers that it gets, and all pictures with samples of the kind A:
pub record Promise (A : Type 0) (edits : List Edit) (sheet : Content) (told : List Answer) : Type 0 where
  -- The sheet and every answer are what the rules give from the list alone.
  pub run : Run edits sheet told
  -- After every first part of the list no packed sample is claimed by two rows.
  pub apart : (k : ℕ) → ClaimedOnce (sheet_after edits k).rows
  -- Each place in the list that passes its other checks gets the first free spot, or 17 where none is free.
  pub placing : (k : ℕ) (d : Draft) (a : Answer) → slice_get edits k ≡ Some (PlaceEdit d) → slice_get told k ≡ Some a → Passes (sheet_after edits k) d →
      Placing (sheet_after edits k) d a
  -- What serves a place here is what the call serve answers.
  pub serves : (r : Row) (p : Place) (v : Serves sheet r p) →
      serve_answer sheet (record { 0 = p }) ≡ Ok (record { row = v.number; place = record { 0 = served_place r p } })
  -- What granted calls of pack and unpack leave, in words.
  pub packs : (from to left : Picture A) → Packs sheet (Ok tt) from to left → TakesCentres sheet from to left
  pub unpacks : (from to left : Picture A) → Unpacks sheet (Ok tt) from to left → TakesServed sheet from to left
  -- Pack a picture, then unpack what was packed: every sample that a fine row serves returns, whatever the stores held.
  pub fine : (first packed packed-left last last-left : Picture A) → Packs sheet (Ok tt) first packed packed-left →
      Unpacks sheet (Ok tt) packed-left last last-left → FineReturns sheet first last-left
  -- Two pictures that differ in such a sample never pack alike.
  pub unlike : (one other : Picture A) (r : Row) (p : Place) → Serves sheet r p → Fine r → (one.at p ≢ other.at p) →
      Alike sheet one other → ⊥
  -- Unpack any packed picture, then pack what was unpacked: every sample in a coarse row's body returns, if that row serves its
  -- centre sample.
  pub coarse : (first unpacked unpacked-left last last-left : Picture A) → Unpacks sheet (Ok tt) first unpacked unpacked-left →
      Packs sheet (Ok tt) unpacked-left last last-left → CoarseReturns sheet first last-left

-- What rehearsing leaves in stores that show these pictures: refused with 21 unless all three have the sheet's sides.
pub record Rehearsed {A : Type 0} (sheet : Content) (moved : Result Unit Refusal)
    (original packed packed-left restored restored-left : Picture A) : Type 0 where
  pub answer : moved ≡ fitted (fit sheet original packed && is_projected sheet restored)
  pub packs : moved ≡ Ok tt → Packs sheet (Ok tt) original packed packed-left
  pub unpacks : moved ≡ Ok tt → Unpacks sheet (Ok tt) packed-left restored restored-left
  pub returns : moved ≡ Ok tt → FineReturns sheet original restored-left
