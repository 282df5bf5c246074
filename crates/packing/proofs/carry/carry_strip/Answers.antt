use Rattle.std.proofs.Common.{◌≡◌, ◌+◌, ◌^◌, ◌<◌, length, get_or, ap, ◌∙◌, arith}
use Rattle.geometry.specs.Places.{at, inside}
use Rattle.picture.specs.Lines.{picked, lined}
use Rattle.packing.proofs.Strips.{track_inside, track_source, source_inside, no_line, line_more}
use Rattle.packing.proofs.carry.carry_strip.Goals as goal

pub loop-j-init : goal.loop-j-init
loop-j-init g c =
    let p = g.P.Store.shown c.args.from.now in
    let q = g.Q.Store.shown c.args.to.now in
    (no_line c.args.carry p q c.args.start (length c.args.steps.now), g.Q.Store.keeps.same c.args.to.now)

pub track-track-requires : goal.track-track-requires
track-track-requires g c =
    let p = g.P.Store.shown c.args.from.now in
    let q = g.Q.Store.shown c.args.to.now in
    let sound = g.P.Store.sound c.args.from.now in
    let line : c.loop-j.j < c.args.carry.down.parts = c.loop-j-test.true in
    let start = track_inside c.args.carry p.sides q.sides c.requires.fits c.loop-j.j line in
    let w : p.sides.width < 2 ^ 32 = sound.across in
    let h : p.sides.height < 2 ^ 32 = sound.down in
    record { line = line; across = omega (arith, start.0); down = omega (arith, start.1) }

pub put_line-requires : goal.put_line-requires
put_line-requires g c =
    let p = g.P.Store.shown c.args.from.now in
    let q = g.Q.Store.shown c.args.to.now in
    let j = c.loop-j.j in
    let start = c.args.start in
    let steps = c.args.steps.now in
    let carry = c.args.carry in
    let inv = c.loop-j.invariant.0 in
    let w : (g.Q.Store.shown c.loop-j.to).sides.width ≡ q.sides.width = ap (λ a. a.sides.width) inv in
    let h : (g.Q.Store.shown c.loop-j.to).sides.height ≡ q.sides.height = ap (λ a. a.sides.height) inv in
    record {
      across = omega (arith, c.requires.columns, c.requires.fits.to_right);
      down = omega (arith, c.requires.fits.to_bottom, c.loop-j-test.true);
      full = λ i below.
          let column : start + i < carry.across.parts = omega (arith, c.requires.columns) in
          let place = track_source carry c.track-track.result (get_or steps i 0) (start + i) j c.track-track.ensures
          (c.requires.steps i below) in
          (g.P.Store.sound c.args.from.now).full _
          ∙ ap (inside p.sides) place
          ∙ source_inside carry p.sides q.sides c.requires.fits j c.loop-j-test.true (start + i) column;
    }

pub loop-j-preserved : goal.loop-j-preserved
loop-j-preserved g c =
    let p = g.P.Store.shown c.args.from.now in
    let q = g.Q.Store.shown c.args.to.now in
    let j = c.loop-j.j in
    let start = c.args.start in
    let steps = c.args.steps.now in
    let carry = c.args.carry in
    let held = picked p c.track-track.result steps in (
      c.put_line.ensures.after
          ∙ ap (λ a. lined a (at (carry.to.x + start) (carry.to.y + j)) (length steps) held) c.loop-j.invariant.0
          ∙ line_more carry p q start (length steps) j held
          (λ i below. ap p.at
          (track_source carry c.track-track.result (get_or steps i 0) (start + i) j c.track-track.ensures (c.requires.steps i below))),
      g.Q.Store.keeps.chain _ _ _ c.loop-j.invariant.1 c.put_line.ensures.rest,
    )
