use Rattle.std.proofs.Common.{◌≡◌, ◌^◌, ◌<◌, sym, refl, ap, ◌∙◌, subst, arith}
use Rattle.picture.specs.Kept.{KeptBelow}
use Rattle.picture.specs.Lines.{lined}
use Rattle.picture.specs.Views.{viewed}
use Rattle.picture.proofs.MovedLines.{moved, line_below, moved_lined, moved_line_rest}
use Rattle.picture.proofs.layer.LayerStore.put_line.Goals as goal

pub moved-requires : goal.moved-requires
moved-requires g c =
    let s = c.args.self.now in
    let p = g.S.Store.shown s.below in
    let corner = c.in-Some.corner in
    let shifts = g.V.LayerView.shifts s.view corner (sym c.in-Some.ensures) in
    let below = line_below (g.V.LayerView.view s.view) corner shifts p (g.V.LayerView.inner s.view) c.args.place (g.L.Line.long c.args.line.now)
    (omega (arith, c.if-count-gt0.true, c.count.ensures)) c.requires.across c.requires.down in
    let w : p.sides.width < 2 ^ 32 = (g.S.Store.sound s.below).across in
    let h : p.sides.height < 2 ^ 32 = (g.S.Store.sound s.below).down in
    record { across = omega (arith, below.0); down = omega (arith, below.1) }

pub put_line-requires : goal.put_line-requires
put_line-requires g c =
    let s = c.args.self.now in
    let p = g.S.Store.shown s.below in
    let corner = c.in-Some.corner in
    let shifts = g.V.LayerView.shifts s.view corner (sym c.in-Some.ensures) in
    let below = line_below (g.V.LayerView.view s.view) corner shifts p (g.V.LayerView.inner s.view) c.args.place (g.L.Line.long c.args.line.now)
    (omega (arith, c.if-count-gt0.true, c.count.ensures)) c.requires.across c.requires.down in
    record {
      across = omega (arith, below.0, ap (λ a. a.x) c.moved.ensures);
      down = omega (arith, below.1, ap (λ a. a.y) c.moved.ensures);
      full = c.requires.full;
    }

pub returns-in-Some : goal.returns-in-Some
returns-in-Some g c =
    let s = c.args.self.now in
    let p = g.S.Store.shown s.below in
    let view = g.V.LayerView.view s.view in
    let corner = c.in-Some.corner in
    let shifts = g.V.LayerView.shifts s.view corner (sym c.in-Some.ensures) in
    let place = c.args.place in
    let n = g.L.Line.long c.args.line.now in
    let held = g.L.Line.held c.args.line.now in
    let below : g.S.Store.shown c.put_line.new.self ≡ lined p (moved corner place) n held =
    c.put_line.ensures.after ∙ ap (λ a. lined p a n held) c.moved.ensures in
    record {
      after = ap (viewed view) below ∙ moved_lined view corner shifts p place n held c.requires.across c.requires.down;
      rest = (
        refl,
        c.put_line.ensures.rest,
        subst (KeptBelow view p) (sym below) (moved_line_rest view corner shifts p place n held c.requires.across c.requires.down),
      );
    }
