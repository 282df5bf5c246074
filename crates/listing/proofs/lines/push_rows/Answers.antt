use Rattle.listing.proofs.Rows.{row_room}
use Rattle.listing.proofs.lines.push_rows.Goals as goal

pub push_row-requires : goal.push_row-requires
push_row-requires c = row_room c.loop-i.text.bytes c.args.text.now.bytes c.args.rows.now c.loop-i.i _ c.loop-i-test.true c.loop-i.invariant c.requires
