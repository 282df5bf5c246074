-- What holds between inputs and contents.
use Rattle.std.specs.Prelude.{◌≡◌, ℕ, suc, ◌^◌, ◌<◌, true, List, ◌++◌, length, drop, Some, None, Ok, Option, slice_index}
use Rattle.std.specs.List.{AllByRecursion}
use Rattle.geometry.specs.declared.place.Rectangle.{Rectangle}
use Rattle.sheet.specs.declared.row.GuardBands.{GuardBands}
use Rattle.sheet.specs.declared.row.Row.{Row}
use Rattle.sheet.specs.declared.row.SheetSides.{SheetSides}
use Rattle.sheet.specs.Rules.{Content}
use Rattle.sheet.specs.Sound.{sound}
use Rattle.rwpk.specs.Boxes.{box_of_bytes}
use Rattle.rwpk.specs.Bytes.{word_bytes, box_of}
use Rattle.rwpk.specs.Loading.{load_answer}
use Rattle.rwpk.specs.Parts.{parts_before, place_of}

-- each number of the input is a byte
abbrev pub Bytes : List ℕ → Type 0
Bytes input = (i : ℕ) → slice_index input i < 256

-- a number fits n bytes
abbrev pub Fits : ℕ → ℕ → Type 0
Fits n x = x < 256 ^ n

-- the sides of both pictures fit their fields
abbrev pub SidesFit : SheetSides → Type 0
SidesFit s = Fits 4 s.projected.width × Fits 4 s.projected.height × Fits 2 s.packed.width × Fits 2 s.packed.height

-- a rectangle's four numbers fit n bytes each
abbrev pub RectangleFits : ℕ → Rectangle ℕ → Type 0
RectangleFits n r = Fits n r.width × Fits n r.height × Fits n r.top × Fits n r.left

-- the four sizes of the bands, where there are any, fit one byte each
abbrev pub SizesFit : Option GuardBands → Type 0
SizesFit None = Unit {0}
SizesFit (Some g) = Fits 1 g.sizes.left × Fits 1 g.sizes.right × Fits 1 g.sizes.top × Fits 1 g.sizes.bottom

-- a row's numbers fit their fields; the turn code and the kinds of a sound row do in any case
abbrev pub RowFits : Row → Type 0
RowFits r = RectangleFits 4 r.projected × RectangleFits 2 r.body × SizesFit r.bands

-- a content that has a box: sound, with at least one row, and with numbers that fit their fields
pub record HasBox (c : Content) : Type 0 where
  pub sound : sound c ≡ true
  pub some : 0 < length c.rows
  pub few : Fits 1 (length c.rows)
  pub sides : SidesFit c.sides
  pub rows : AllByRecursion RowFits c.rows

-- an input that is the box of some content
pub record IsBox (input : List ℕ) : Type 0 where
  pub content : Content
  pub has : HasBox content
  pub same : input ≡ box_of content

pub record BoxLaws : Type 0 where
  -- what is read from an input has a box, and that box is the input
  pub read : (input : List ℕ) (c : Content) → Bytes input → box_of_bytes input ≡ Ok c → HasBox c × (input ≡ box_of c)
  -- what is written is read back as it was
  pub read_back : (c : Content) → HasBox c → box_of_bytes (box_of c) ≡ Ok c
  -- so load grants the boxes of such contents, and no other input
  pub granted : (input : List ℕ) → Bytes input → load_answer input ≡ Ok tt → IsBox input
  pub boxes : (input : List ℕ) → IsBox input → load_answer input ≡ Ok tt
  -- the parts end to end are the box, once its size stands over the first four bytes
  pub parts : (c : Content) → box_of c ≡ word_bytes 4 (length (box_of c)) ++ drop 4 (parts_before c (suc (length c.rows)))
  pub end : (c : Content) → place_of c (suc (length c.rows)) ≡ length (box_of c)
