use Rattle.std.proofs.Common.{length, sym, refl}
use Rattle.std.proofs.lemmas.Bool.{both_ways, cond-true}
use Rattle.geometry.specs.Places.{inside}
use Rattle.picture.specs.Runs.{fitting}
use Rattle.picture.proofs.Layouts.{laid_put}
use Rattle.picture.proofs.Pictures.{granted}
use Rattle.picture.proofs.bottom.Bottom.put_sample.Goals as goal

pub returns : goal.returns
returns g c =
    let layout = g.L.RunLayout.layout in
    let s = c.args.self.now in
    let run = s.samples.now in
    let place = c.args.place in
    let (h, e) = granted (inside (fitting layout s.sides (length run)) place) c.in_ok-spot.spot (layout.spot s.sides.width place) _ c.in_ok-spot.ensures in
    let put = laid_put layout g.L.RunLayout.lawful g.L.RunLayout.reversible s.sides run place c.args.sample h c.in_ok-spot.spot e in
    record {
      answer = sym (cond-true _ _ _ h);
      after = put.0;
      rest = (put.1, refl);
      untouched = λ out. absurd (both_ways _ out h);
    }
