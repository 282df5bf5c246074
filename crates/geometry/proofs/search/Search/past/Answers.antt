use Rattle.geometry.proofs.Jumping.{past_here, past_more, past_end}
use Rattle.geometry.proofs.search.Search.past.Goals as goal

pub returns-then-contain : goal.returns-then-contain
returns-then-contain c =
    past_here c.args.self.now.boxes.now _ _ c.loop-b.b-index _ c.loop-b-test.true c.loop-b.invariant c.if-contain.ensures

pub loop-b-preserved : goal.loop-b-preserved
loop-b-preserved c =
    past_more c.args.self.now.boxes.now _ _ c.loop-b.b-index _ c.loop-b-test.true c.loop-b.invariant c.if-contain.ensures

pub returns : goal.returns
returns c = past_end c.args.self.now.boxes.now _ _ c.loop-b.b-index c.loop-b-test.false c.loop-b.invariant
