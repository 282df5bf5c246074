-- What each of the four stores shows, and what it keeps beside that.
use Rattle.std.specs.Prelude.{◌≡◌, ℕ, length}
use Rattle.geometry.specs.declared.place.Rectangle.{Rectangle}
use Rattle.geometry.specs.declared.place.Sides.{Sides}
use Rattle.geometry.specs.declared.turn.Turn.{Turn}
use Rattle.picture.specs.declared.bottom.Bottom.{Bottom}
use Rattle.picture.specs.declared.rows.RowAfterRow.{RowAfterRow}
use Rattle.picture.specs.declared.tiles.BlockAfterBlock.{BlockAfterBlock}
use Rattle.picture.specs.declared.layer.Layer.{Layer}
use Rattle.picture.specs.Picture.{Picture}
use Rattle.picture.specs.Runs.{Layout, laid, resized, row_layout, tile_layout}
use Rattle.picture.specs.Views.{View, viewed, window_view, turn_view, recoded}
use Rattle.picture.specs.Kept.{KeptRun, KeptBelow}

-- what a bottom of some layout shows
abbrev pub bottom_shown : {T L : Type 0} → Layout → Bottom T L → Picture T
bottom_shown layout s = laid layout s.sides s.samples.now

-- the run is the same one, and the same where the picture keeps no sample
abbrev pub bottom_kept : {T L : Type 0} → Layout → Bottom T L → Bottom T L → Type 0
bottom_kept layout s t =
    KeptRun layout s.sides s.samples.now t.sides t.samples.now × (t.samples.ghost_name ≡ s.samples.ghost_name)

-- a bottom after a sizing call
abbrev pub bottom_sized : {T L : Type 0} → Layout → Bottom T L → Sides ℕ → Bottom T L
bottom_sized layout s sides =
    record { samples = s.samples; sides = resized layout s.sides sides (length s.samples.now); layout = s.layout }

-- row after row
abbrev pub rows_shown : {T : Type 0} → Bottom T RowAfterRow → Picture T
rows_shown = bottom_shown row_layout

-- what rows keep beside that
abbrev pub rows_kept : {T : Type 0} → Bottom T RowAfterRow → Bottom T RowAfterRow → Type 0
rows_kept = bottom_kept row_layout

-- block after block
abbrev pub tiles_shown : {T : Type 0} → Bottom T BlockAfterBlock → Picture T
tiles_shown = bottom_shown tile_layout

-- what tiles keep beside that
abbrev pub tiles_kept : {T : Type 0} → Bottom T BlockAfterBlock → Bottom T BlockAfterBlock → Type 0
tiles_kept = bottom_kept tile_layout

-- what a layer shows of the store below
abbrev pub layer_shown : {S V A : Type 0} → (V → View) → (S → Picture A) → Layer S V A → Picture A
layer_shown view shown s = viewed (view s.view) (shown s.below)

-- the view, what the store below keeps, and its picture where the view shows none of it
abbrev pub layer_kept : {S V A : Type 0} → (V → View) → (S → Picture A) → (S → S → Type 0) → Layer S V A → Layer S V A → Type 0
layer_kept view shown kept s t =
    (t.view ≡ s.view) × kept s.below t.below × KeptBelow (view s.view) (shown s.below) (shown t.below)

-- what of its frame lies inside the store below
abbrev pub window_shown : {S A : Type 0} → (S → Picture A) → Layer S (Rectangle ℕ) A → Picture A
window_shown = layer_shown window_view

-- the frame, what the store below keeps, and its picture outside the frame
abbrev pub window_kept : {S A : Type 0} → (S → Picture A) → (S → S → Type 0) → Layer S (Rectangle ℕ) A → Layer S (Rectangle ℕ) A → Type 0
window_kept = layer_kept window_view

-- the store below, turned
abbrev pub turned_shown : {S A : Type 0} → (S → Picture A) → Layer S Turn A → Picture A
turned_shown = layer_shown turn_view

-- the turn, and what the store below keeps; inside its sides there is no place that a turn does not show
abbrev pub turned_kept : {S A : Type 0} → (S → Picture A) → (S → S → Type 0) → Layer S Turn A → Layer S Turn A → Type 0
turned_kept = layer_kept turn_view

-- the same store below, with the turn of another code if there is one
abbrev pub turned_coded : {S A : Type 0} → Layer S Turn A → ℕ → Layer S Turn A
turned_coded s code = record { below = s.below; view = recoded s.view code }
