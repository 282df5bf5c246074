-- The parts of a box, as they are written, and their places.
use Rattle.std.specs.Prelude.{ℕ, List, [], ◌∷◌, map, length, take, slice_index_or}
use Rattle.std.specs.List.{flat_map}
use Rattle.sheet.specs.Rules.{Content}
use Rattle.rwpk.specs.Bytes.{head_bytes, row_bytes}

-- the first 26 bytes with size 0, then each row
abbrev pub parts : Content → List (List ℕ)
parts c = head_bytes 0 (length c.rows) c.sides ∷ map row_bytes c.rows

abbrev pub part_at : Content → ℕ → List ℕ
part_at c k = slice_index_or (parts c) k []

-- the parts before part k, end to end
abbrev pub parts_before : Content → ℕ → List ℕ
parts_before c k = flat_map (λ part. part) (take k (parts c))

-- the place of part k: where the part before it ends
abbrev pub place_of : Content → ℕ → ℕ
place_of c k = length (parts_before c k)
