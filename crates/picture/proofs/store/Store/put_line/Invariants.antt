use Rattle.std.proofs.Common.{◌≡◌}
use Rattle.picture.specs.Lines.{lined}
use Rattle.picture.proofs.store.Store.put_line.Given as goal

abbrev pub invariant-loop-i : goal.invariant-loop-i
invariant-loop-i g l =
    (g.Self.Store.shown l.self ≡ lined (g.Self.Store.shown l.initial.self) l.place l.i (g.L.Line.held l.line))
    × g.Self.Store.kept l.initial.self l.self
