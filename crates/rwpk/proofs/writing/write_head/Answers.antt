use Rattle.std.proofs.Common.{ℕ, ◌+◌, ◌≤◌, List, [], ◌∷◌, ◌++◌, length, codes, ap, ◌∙◌, arith}
use Rattle.sheet.specs.Contents.{content}
use Rattle.geometry.specs.declared.place.Sides.{Sides}
use Rattle.sheet.specs.Rules.{Content}
use Rattle.sheet.specs.declared.row.SheetSides.{SheetSides}
use Rattle.rwpk.specs.Bytes.{word_bytes}
use Rattle.rwpk.specs.Writing.{put_at}
use Rattle.rwpk.proofs.Puts.{put_next}
use Rattle.rwpk.proofs.writing.write_head.Goals as goal

-- the bytes before the sides
abbrev opening : ℕ → List ℕ
opening count = word_bytes 4 0 ++ (codes "rwpk" ++ (word_bytes 4 0 ++ (0 ∷ count ∷ [])))

-- a width and a height of n bytes each
abbrev pair_bytes : ℕ → Sides ℕ → List ℕ
pair_bytes n s = word_bytes n s.width ++ word_bytes n s.height

pub returns-clause-out : goal.returns-clause-out
returns-clause-out c =
    let out : List ℕ = c.args.out.now in
    let p : ℕ = c.args.place in
    let m : Content = content c.args.sheet.now in
    let room : p + 26 ≤ length out = grind arith in
    put_next out p (p + 22) (opening (length m.rows) ++ pair_bytes 4 m.sides.projected) (pair_bytes 2 m.sides.packed)
    (put_next out p (p + 14) (opening (length m.rows)) (pair_bytes 4 m.sides.projected)
    (c.put.ensures ∙ ap (λ n. put_at out p (opening n)) c.len-count.ensures)
    c.put_sides.ensures (ap (λ (s : SheetSides). pair_bytes 4 s.projected) c.sides-sides.ensures) (omega arith) (omega arith))
    c.put_sides-2.ensures (ap (λ (s : SheetSides). pair_bytes 2 s.packed) c.sides-sides.ensures) (omega arith) (omega arith)
