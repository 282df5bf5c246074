use Rattle.std.proofs.Common.{◌≡◌, length, ap, ◌∙◌, arith}
use Rattle.sheet.specs.Contents.{content}
use Rattle.sheet.specs.Rules.{Content}
use Rattle.rwpk.specs.Bytes.{box_of}
use Rattle.rwpk.specs.Laws.{Bytes}
use Rattle.rwpk.specs.Writing.{put_at}
use Rattle.rwpk.proofs.Copied.{same_box, copies}
use Rattle.rwpk.proofs.copying.copy_box.Goals as goal

pub write_box-requires : goal.write_box-requires
write_box-requires c =
    let small : Bytes c.args.input.now = λ i. omega (arith, c.type_inv.input i) in
    let same = same_box c.args.input.now small (content c.in_ok-sheet.sheet) c.in_ok-sheet.ensures in
    omega (arith, ap length same, c.if-out-input.false)

pub returns : goal.returns
returns c =
    let m : Content = content c.in_ok-sheet.sheet in
    let small : Bytes c.args.input.now = λ i. omega (arith, c.type_inv.input i) in
    let read = c.in_ok-sheet.ensures in
    let told = c.in_ok-write_box.ensures in
    let size : c.in_ok-write_box.field-0 ≡ length (box_of m) = let e = told.answer in cc in
    record {
      answer = copies c.args.input.now small m read c.args.out.now c.in_ok-write_box.field-0 c.if-out-input.false size;
      out = told.out ∙ ap (put_at c.args.out.now 0) (same_box c.args.input.now small m read);
    }
