use Rattle.std.proofs.Common.{◌≡◌, ◌-◌, true, not, length, sym, ap, ◌∙◌, arith}
use Rattle.std.proofs.lemmas.Bool.{and_parts, cond-false, le-ltb}
use Rattle.sheet.specs.Contents.{content}
use Rattle.sheet.specs.Rules.{empty_picture}
use Rattle.sheet.specs.Sound.{sound_rows}
use Rattle.sheet.proofs.Apart.{row_at}
use Rattle.rwpk.specs.Writing.{put_answer, part_out}
use Rattle.rwpk.proofs.Parted.{part_row}
use Rattle.rwpk.proofs.writing.write_part.Goals as goal

pub write_row-requires : goal.write_row-requires
write_row-requires c =
    let s = c.args.sheet.now in
    let m = content s in
    let rows = c.rows-rows.result.now in
    let ok : sound_rows m.sides rows ≡ true =
    ap (sound_rows m.sides) c.rows-rows.ensures
    ∙ (and_parts (not (empty_picture m.sides)) (sound_rows m.sides m.rows) s.sound).1 in
    let no = c.if-part-eq0.false in
    let f = row_at m.sides rows (c.args.part - 1) _ ok (omega arith) in
    record { turn = f.turn; sides = f.sides; bands = f.bands }

pub returns-else-part-eq0 : goal.returns-else-part-eq0
returns-else-part-eq0 c =
    let m = content c.args.sheet.now in
    let rows = c.rows-rows.result.now in
    let is = part_row m rows c.args.part _ c.rows-rows.ensures c.if-part-eq0.false (omega arith) in
    record {
      answer =
          c.write_row.ensures.answer
          ∙ ap (put_answer c.args.out.now c.args.place) is
          ∙ sym (cond-false _ _ _ (le-ltb (length m.rows) c.args.part (omega (arith, ap length c.rows-rows.ensures))));
      out = c.write_row.ensures.out ∙ ap (part_out c.write_row.result c.args.out.now c.args.place) is;
    }
