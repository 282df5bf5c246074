use Rattle.std.proofs.Common.{ℕ, ◌+◌, ◌*◌, ◌<◌, List, [], ◌∷◌, ◌++◌, refl, ap, ◌∙◌, arith}
use Rattle.rwpk.specs.Bytes.{word_bytes, flag_byte, rectangle_bytes}
use Rattle.rwpk.specs.Writing.{put_at}
use Rattle.rwpk.proofs.Numbers.{word_one}
use Rattle.rwpk.proofs.Puts.{put_next}
use Rattle.rwpk.proofs.writing.put_plain.Goals as goal

pub returns : goal.returns
returns c =
    let out : List ℕ = c.args.out.now in
    let p : ℕ = c.args.place in
    let row = c.args.row.now in
    let flag : List ℕ = flag_byte row.bands ∷ [] in
    let from : List ℕ = rectangle_bytes (word_bytes 4) row.projected in
    let turn : List ℕ = row.turn * 32 ∷ [] in
    let onto : List ℕ = rectangle_bytes (word_bytes 2) row.body in
    let flag_small : c.flag_byte.result < 256 = omega arith in
    let turn_small : c.turn_byte.result < 256 = omega arith in
    let s1 = c.put.ensures ∙ ap (put_at out p) (word_one c.flag_byte.result flag_small ∙ ap (λ b. b ∷ []) c.flag_byte.ensures) in
    let s2 = put_next out p (p + 1) flag from s1 c.put_rectangle.ensures refl (omega arith) (omega arith) in
    let s3 = put_next out p (p + 17) (flag ++ from) turn s2 c.put-2.ensures (word_one c.turn_byte.result turn_small ∙ ap (λ b. b ∷ []) c.turn_byte.ensures) (omega arith) (omega arith) in
    put_next out p (p + 18) ((flag ++ from) ++ turn) onto s3 c.put_rectangle-2.ensures refl (omega arith) (omega arith)
