use Rattle.geometry.proofs.Jumping.{Nearest}
use Rattle.geometry.proofs.search.Search.next_top.Given as goal

abbrev pub invariant-loop-b : goal.invariant-loop-b
invariant-loop-b l = Nearest l.self.boxes.now l.self.tops l.top l.b-index l.end
