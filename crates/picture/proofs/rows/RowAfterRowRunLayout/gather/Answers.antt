use Rattle.std.proofs.Common.{true, sym, ◌∙◌}
use Rattle.picture.proofs.LaidLines.{rows_picked}
use Rattle.picture.proofs.rows.RowAfterRowRunLayout.gather.Goals as goal

pub pick-requires : goal.pick-requires
pick-requires g c =
    let place = rows_picked c.args.sides c.args.samples.now c.args.track c.args.steps.now c.spot-spot.result true
    c.spot-spot.ensures c.if-track.true c.requires.within in
    record { long = c.requires.long; within = λ i h. (place i h).0 }

pub returns-then-track : goal.returns-then-track
returns-then-track g c =
    let place = rows_picked c.args.sides c.args.samples.now c.args.track c.args.steps.now c.spot-spot.result true
    c.spot-spot.ensures c.if-track.true c.requires.within in
    λ i h. c.pick.ensures i h ∙ sym (place i h).1
