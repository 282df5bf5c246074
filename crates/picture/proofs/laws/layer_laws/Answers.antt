use Rattle.picture.specs.Views.{window_view, turn_view}
use Rattle.picture.specs.ViewLaws.{window_backed, turn_backed}
use Rattle.picture.proofs.Layers.{below_fixed}
use Rattle.picture.proofs.laws.layer_laws.Goals as goal

pub returns : goal.returns
returns g c =
    let shown = g.S.Store.shown in
    record {
      window = λ s t kept same. (
        below_fixed window_view window_backed s.view t.view (shown s.below) (shown t.below) kept.0 kept.2 same,
        kept.1,
      );
      turned = λ s t kept same. (
        below_fixed turn_view turn_backed s.view t.view (shown s.below) (shown t.below) kept.0 kept.2 same,
        kept.1,
      );
    }
