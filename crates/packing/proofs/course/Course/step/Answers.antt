use Rattle.std.proofs.Common.{◌≡◌, ◌<◌, rules}
use Rattle.geometry.specs.Centre.{centre}
use Rattle.geometry.proofs.Centres.{inside}
use Rattle.geometry.proofs.Turning.{mirror_inside}
use Rattle.packing.proofs.course.Course.step.Goals as goal

pub mirrored_if-requires : goal.mirrored_if-requires
mirrored_if-requires c =
    let s = c.args.self in
    let cell : c.mirrored_if-cell.result < s.parts =
    rw c.mirrored_if-cell.ensures (mirror_inside s.before s.parts c.args.i c.requires) in
    let same : c.unwrap_or-sample.result ≡ centre s.side s.parts c.mirrored_if-cell.result = search rules in
    rw same (inside s.side s.parts c.mirrored_if-cell.result s.some_side cell)
