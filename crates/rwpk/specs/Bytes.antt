-- The bytes of a box, field by field.
use Rattle.std.specs.Prelude.{ℕ, zero, suc, ◌+◌, ◌*◌, ◌/◌, ◌%◌, ◌^◌, cond, List, [], ◌∷◌, ◌++◌, length, Some, None, codes, Option}
use Rattle.std.specs.List.{flat_map}
use Rattle.geometry.specs.declared.place.Rectangle.{Rectangle}
use Rattle.sheet.specs.declared.row.GuardBands.{GuardBands}
use Rattle.sheet.specs.declared.row.Row.{Row}
use Rattle.sheet.specs.declared.row.SheetSides.{SheetSides}
use Rattle.sheet.specs.Rules.{Content}

-- the n bytes of a number, highest first
abbrev pub word_bytes : ℕ → ℕ → List ℕ
word_bytes zero x = []
word_bytes (suc n) x = (x / 256 ^ n % 256) ∷ word_bytes n x

-- width, height, top and left, where `bytes` gives those of one number
abbrev pub rectangle_bytes : {X : Type 0} → (X → List ℕ) → Rectangle X → List ℕ
rectangle_bytes bytes r = bytes r.width ++ (bytes r.height ++ (bytes r.top ++ bytes r.left))

-- the prediction flag in the top bit, four kinds of three bits, and three reserved bits
abbrev pub kinds_word : GuardBands → ℕ
kinds_word g =
    cond g.prediction 32768 0 + g.kinds.left * 4096 + g.kinds.right * 512 + g.kinds.top * 64 + g.kinds.bottom * 8

-- four sizes, and the two bytes of flag and kinds
abbrev pub bands_bytes : GuardBands → List ℕ
bands_bytes g = g.sizes.left ∷ g.sizes.right ∷ g.sizes.top ∷ g.sizes.bottom ∷ word_bytes 2 (kinds_word g)

abbrev pub bytes_if : Option GuardBands → List ℕ
bytes_if None = []
bytes_if (Some g) = bands_bytes g

-- the first byte of a row: the band flag, and 0 in all other bits
abbrev pub flag_byte : Option GuardBands → ℕ
flag_byte None = 0
flag_byte (Some g) = 16

-- the 26 bytes that every row has
abbrev pub plain_bytes : Row → List ℕ
plain_bytes r =
    flag_byte r.bands ∷ (rectangle_bytes (word_bytes 4) r.projected ++ (r.turn * 32 ∷ rectangle_bytes (word_bytes 2) r.body))

abbrev pub row_bytes : Row → List ℕ
row_bytes r = plain_bytes r ++ bytes_if r.bands

abbrev pub rows_bytes : List Row → List ℕ
rows_bytes rows = flat_map row_bytes rows

abbrev pub sides_bytes : SheetSides → List ℕ
sides_bytes s =
    word_bytes 4 s.projected.width
    ++ (word_bytes 4 s.projected.height ++ (word_bytes 2 s.packed.width ++ word_bytes 2 s.packed.height))

-- the first 26 bytes: size, type, version with flags, the paired flag, the row count and the sides
abbrev pub head_bytes : ℕ → ℕ → SheetSides → List ℕ
head_bytes size count s = word_bytes 4 size ++ (codes "rwpk" ++ (word_bytes 4 0 ++ (0 ∷ count ∷ sides_bytes s)))

-- the box of a content: its size is its length
abbrev pub box_of : Content → List ℕ
box_of c = head_bytes (26 + length (rows_bytes c.rows)) (length c.rows) c.sides ++ rows_bytes c.rows
