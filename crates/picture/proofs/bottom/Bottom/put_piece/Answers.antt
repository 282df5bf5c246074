use Rattle.std.proofs.Common.{◌≡◌, ℕ, ◌+◌, ◌-◌, ◌≤◌, length, refl, ap, ◌∙◌, subst, arith, rules}
use borrow.Rule.Slice.PartMut.{put_mid}
use Rattle.std.specs.List.{slice_get, between}
use Rattle.std.proofs.lemmas.List.Edits.{length-between}
use Rattle.picture.proofs.LaidLines.{laid_lined, laid_line_rest, together_room}
use Rattle.picture.proofs.RunParts.{Written, part_holds}
use Rattle.picture.proofs.bottom.Bottom.put_piece.Goals as goal

pub returns : goal.returns
returns g c =
    let layout = g.L.RunLayout.layout in
    let reversible = g.L.RunLayout.reversible in
    let s = c.args.self.now in
    let run = s.samples.now in
    let place = c.args.place in
    let n = c.args.n in
    let spot = c.spot-spot.result in
    let room : spot + n ≤ length run =
    omega (arith, c.spot-spot.ensures, together_room layout g.L.RunLayout.lawful s.sides place n _ c.requires.some c.requires.together c.requires.across c.requires.down) in
    let taken = c.give.new.out in
    let part : spot + n - spot ≡ n = omega arith in
    let run' = put_mid spot (spot + n - spot) run taken in
    let held = (λ (i : ℕ). g.M.Line.held c.args.line.now (c.args.start + i)) in
    let whole : length (between spot (spot + n) run) ≡ spot + n - spot = length-between run spot (spot + n) room in
    let enough : length taken ≡ n = search rules in
    let long : length run' ≡ length run = search rules in
    let at_spot : Written spot n held run run' =
    λ j. ap (λ m. slice_get (put_mid spot m run taken) j) part
    ∙ part_holds spot n run taken held j enough room (λ i h. c.give.ensures i (omega (arith, whole))) in
    let written : Written (layout.spot s.sides.width place) n held run run' =
    subst (λ k. Written k n held run run') c.spot-spot.ensures at_spot in
    let together = c.requires.together in
    record {
      after = laid_lined layout reversible s.sides run run' place n held long written together c.requires.across c.requires.down;
      rest = (
        laid_line_rest layout reversible s.sides run run' place n held long written together c.requires.across c.requires.down,
        refl,
      );
    }
