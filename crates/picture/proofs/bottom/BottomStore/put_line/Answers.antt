use Rattle.std.proofs.Common.{◌≡◌, ◌+◌, ap, ◌∙◌, arith, rules}
use Rattle.geometry.specs.declared.place.Place.{Place}
use Rattle.geometry.specs.Places.{at}
use Rattle.picture.specs.KeptSteps.{bottom_keeps}
use Rattle.picture.specs.Lines.{lined}
use Rattle.picture.specs.Stores.{bottom_shown}
use Rattle.picture.proofs.Stretches.{lined_then}
use Rattle.picture.proofs.bottom.BottomStore.put_line.Goals as goal

pub put_piece-requires-clause-some : goal.put_piece-requires-clause-some
put_piece-requires-clause-some g c =
    let next : Place = at (c.args.place.x + c.loop-done.done) c.args.place.y in
    omega (arith, (g.L.RunLayout.in_pieces 0 next).0, c.piece.ensures, c.min-n.ensures, c.loop-done-test.true)

pub put_piece-requires-clause-together : goal.put_piece-requires-clause-together
put_piece-requires-clause-together g c =
    let next : Place = at (c.args.place.x + c.loop-done.done) c.args.place.y in
    λ k h.
    (g.L.RunLayout.in_pieces c.loop-done.self.sides.width next).1 k (omega (arith, h, c.piece.ensures, c.min-n.ensures))

pub loop-done-smaller : goal.loop-done-smaller
loop-done-smaller g c =
    let next : Place = at (c.args.place.x + c.loop-done.done) c.args.place.y in
    omega (arith, (g.L.RunLayout.in_pieces 0 next).0, c.piece.ensures, c.min-n.ensures, c.loop-done-test.true)

pub loop-done-preserved : goal.loop-done-preserved
loop-done-preserved g c =
    let layout = g.L.RunLayout.layout in
    let s = c.args.self.now in
    let held = g.M.Line.held c.args.line.now in
    let place = c.args.place in
    let done = c.loop-done.done in
    let n = c.min-n.result in
    let piece = c.put_piece.ensures in
    let inv = c.loop-done.invariant in (
      piece.after
          ∙ ap (λ a. lined a (at (place.x + done) place.y) n (λ i. held (done + i))) inv.0
          ∙ lined_then (bottom_shown layout s) place done n held,
      (bottom_keeps layout).chain s c.loop-done.self c.put_piece.new.self inv.1 piece.rest,
      search rules,
    )

pub returns : goal.returns
returns g c =
    let shown = bottom_shown g.L.RunLayout.layout c.args.self.now in
    let held = g.M.Line.held c.args.line.now in
    let end : c.loop-done.done ≡ g.M.Line.long c.args.line.now = omega (arith, c.count-count.ensures) in
    record {
      after = c.loop-done.invariant.0 ∙ ap (λ a. lined shown c.args.place a held) end;
      rest = c.loop-done.invariant.1;
    }
