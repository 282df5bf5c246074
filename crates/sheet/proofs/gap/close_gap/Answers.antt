use Rattle.std.proofs.Common.{◌≡◌, suc, ◌+◌, ◌-◌, ◌≤◌, ◌++◌, length, take, drop, sym, ap, ◌∙◌, ap₂, arith, length-drop}
use Rattle.std.specs.List.{remove}
use Rattle.std.proofs.lemmas.List.{take-take, drop-take}
use Rattle.std.proofs.lemmas.List.Edits.{take-paste}
use Rattle.sheet.specs.Sound.{sound_rows}
use Rattle.sheet.proofs.Rows.{sound_removed}
use Rattle.sheet.proofs.gap.close_gap.Goals as goal

pub returns : goal.returns
returns c =
    let old = c.args.rows.now in
    let i = c.args.i in
    let n = c.args.n in
    -- how many rows move down
    let k = n - (i + 1) in
    let long : k ≤ length (drop (i + 1) old) = omega (arith, length-drop (i + 1) old) in
    let kept : n - 1 ≡ i + k = omega arith in
    let next : i + 1 ≡ suc i = omega arith in
    let all : suc i + k ≡ n = omega arith in
    let rows : take (n - 1) c.copy_within.new.self ≡ remove (take n old) i =
    ap₂ take kept c.copy_within.ensures.after
    ∙ take-paste old i (drop (i + 1) old) k (omega arith) long
    ∙ ap₂ ◌++◌
    (sym (take-take i n old (omega arith)))
    (ap (λ m. take k (drop m old)) next ∙ sym (drop-take (suc i) k old) ∙ ap (λ m. drop (suc i) (take m old)) all) in
    record { rows = rows; sound = λ s h. ap (sound_rows s) rows ∙ sound_removed s (take n old) i h }
