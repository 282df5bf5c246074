use Rattle.std.proofs.Common.{◌≡◌, ℕ, ◌+◌, List, ◌++◌, sym, ap, ◌∙◌, arith}
use Rattle.rwpk.specs.Boxes.{length_with, row_length}
use Rattle.rwpk.specs.Bytes.{bands_bytes, bytes_if, plain_bytes}
use Rattle.rwpk.specs.Writing.{put_at}
use Rattle.rwpk.proofs.Puts.{put_next}
use Rattle.rwpk.proofs.writing.put_row.Goals as goal

pub returns-in-Some : goal.returns-in-Some
returns-in-Some c =
    let out : List ℕ = c.args.out.now in
    let p : ℕ = c.args.place in
    let row = c.args.row.now in
    let size : row_length row ≡ 32 = ap length_with c.in-Some.is in
    put_next out p (p + 26) (plain_bytes row) (bands_bytes c.in-Some.bands) c.put_plain.ensures c.put.ensures
    c.bands_bytes.ensures (omega arith) (omega arith)
    ∙ ap (λ o. put_at out p (plain_bytes row ++ bytes_if o)) (sym c.in-Some.is)
