use Rattle.std.proofs.Common.{◌≡◌, ◌-◌, ◌≤◌}
use Rattle.picture.specs.Lines.{lined}
use Rattle.picture.specs.Stores.{bottom_shown, bottom_kept}
use Rattle.picture.proofs.bottom.BottomStore.put_line.Given as goal

abbrev pub invariant-loop-done : goal.invariant-loop-done
invariant-loop-done g l =
    (bottom_shown g.L.RunLayout.layout l.self ≡ lined (bottom_shown g.L.RunLayout.layout l.initial.self) l.place l.done
    (g.M.Line.held l.line))
    × bottom_kept g.L.RunLayout.layout l.initial.self l.self
    × (l.done ≤ l.count)

abbrev pub decreases-loop-done : goal.decreases-loop-done
decreases-loop-done g l = l.count - l.done
