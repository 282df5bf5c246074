use Rattle.std.proofs.Common.{◌^◌, ◌<◌, arith}
use Rattle.sheet.specs.Contents.{content}
use Rattle.rwpk.specs.Laws.{Bytes}
use Rattle.listing.proofs.Loaded.{granted_room, granted_lines, refused_room, refused_lines}
use Rattle.listing.proofs.list.lines_of.Goals as goal

pub push_sheet-requires : goal.push_sheet-requires
push_sheet-requires c =
    let small : Bytes c.args.input.now = λ i. omega (arith, c.type_inv.input i) in
    let told = c.in-Ok.ensures in
    granted_room c.args.input.now (content c.load.new.sheet) _ _ told.answer told.after
    c.sides.result c.rows.result.now c.sides.ensures c.rows.ensures
    c.new-text.result.bytes c.new-text.ensures small

pub push_refused-requires : goal.push_refused-requires
push_refused-requires c =
    let lt : c.in-Err.fault.place < 2 ^ 64 = omega arith in
    refused_room c.in-Err.fault c.new-text.result.bytes c.new-text.ensures lt

pub returns-in-Ok : goal.returns-in-Ok
returns-in-Ok c =
    let told = c.in-Ok.ensures in
    granted_lines c.args.input.now (content c.load.new.sheet) _ _ told.answer told.after
    c.sides.result c.rows.result.now c.sides.ensures c.rows.ensures
    c.new-text.result.bytes c.new-text.ensures _ c.push_sheet.ensures

pub returns-in-Err : goal.returns-in-Err
returns-in-Err c =
    refused_lines c.args.input.now c.in-Err.fault c.in-Err.ensures.answer
    c.new-text.result.bytes _ c.new-text.ensures c.push_refused.ensures
