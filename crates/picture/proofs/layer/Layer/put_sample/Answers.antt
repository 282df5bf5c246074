use Rattle.std.proofs.Common.{◌≡◌, Ok, sym, refl, ap, ◌∙◌, subst}
use Rattle.std.proofs.lemmas.Bool.{both_ways}
use Rattle.picture.specs.Kept.{KeptBelow}
use Rattle.picture.specs.Views.{viewed, seen}
use Rattle.picture.proofs.Layers.{through}
use Rattle.picture.proofs.layer.Layer.put_sample.Goals as goal

pub returns : goal.returns
returns g c =
    let below = c.args.self.now.below in
    let v = c.args.self.now.view in
    let p = g.S.Store.shown below in
    let view = g.V.LayerView.view v in
    let place = c.args.place in
    let spot = c.in_ok-spot.spot in
    let found : Ok spot ≡ seen view p.sides place = c.in_ok-spot.ensures in
    let t = through view (g.V.LayerView.inner v) (g.V.LayerView.backed v) p (g.S.Store.sound below) place spot c.args.sample found in
    record {
      answer = c.put.ensures.answer ∙ t.answer;
      after = ap (viewed view) c.put.ensures.after ∙ t.after;
      rest = (refl, c.put.ensures.rest, subst (KeptBelow view p) (sym c.put.ensures.after) t.rest);
      untouched = λ out. absurd (both_ways _ out t.shown);
    }
