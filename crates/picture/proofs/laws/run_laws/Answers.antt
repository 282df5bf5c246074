use Rattle.picture.specs.Runs.{row_layout, tile_layout}
use Rattle.picture.specs.LayoutLaws.{rows_reversible, tiles_reversible}
use Rattle.picture.proofs.Layouts.{run_fixed}
use Rattle.picture.proofs.laws.run_laws.Goals as goal

pub returns : goal.returns
returns g c =
    record {
      rows = λ s t kept same.
          run_fixed row_layout rows_reversible s.sides t.sides s.samples.now t.samples.now kept.0 same;
      tiles = λ s t kept same.
          run_fixed tile_layout tiles_reversible s.sides t.sides s.samples.now t.samples.now kept.0 same;
    }
