-- What a store keeps and what it shows together fix what it holds.
use Rattle.std.specs.Prelude.{◌≡◌, ℕ}
use Rattle.geometry.specs.declared.place.Rectangle.{Rectangle}
use Rattle.geometry.specs.declared.turn.Turn.{Turn}
use Rattle.picture.specs.declared.bottom.Bottom.{Bottom}
use Rattle.picture.specs.declared.rows.RowAfterRow.{RowAfterRow}
use Rattle.picture.specs.declared.tiles.BlockAfterBlock.{BlockAfterBlock}
use Rattle.picture.specs.declared.layer.Layer.{Layer}
use Rattle.picture.specs.Picture.{Picture}
use Rattle.picture.specs.Stores.{rows_shown, rows_kept, tiles_shown, tiles_kept, window_shown, window_kept, turned_shown, turned_kept}

-- two states of a bottom that keep the same and show the same have the same sides and the same run
pub record RunsFixed (T : Type 0) : Type 0 where
  pub rows : (s t : Bottom T RowAfterRow) → rows_kept s t → rows_shown s ≡ rows_shown t →
      (t.sides ≡ s.sides) × (t.samples.now ≡ s.samples.now)
  pub tiles : (s t : Bottom T BlockAfterBlock) → tiles_kept s t → tiles_shown s ≡ tiles_shown t →
      (t.sides ≡ s.sides) × (t.samples.now ≡ s.samples.now)

-- two states of a layer that keep the same and show the same have stores below that keep the same and show the same
pub record BelowFixed {S A : Type 0} (shown : S → Picture A) (kept : S → S → Type 0) : Type 0 where
  pub window : (s t : Layer S (Rectangle ℕ) A) → window_kept shown kept s t → window_shown shown s ≡ window_shown shown t →
      (shown t.below ≡ shown s.below) × kept s.below t.below
  pub turned : (s t : Layer S Turn A) → turned_kept shown kept s t → turned_shown shown s ≡ turned_shown shown t →
      (shown t.below ≡ shown s.below) × kept s.below t.below
