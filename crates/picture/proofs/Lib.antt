-- The lemmas behind the calls, one file a subject.
pub mod Drawing
pub mod LaidLines
pub mod Layers
pub mod Layouts
pub mod MovedLines
pub mod Pictures
pub mod RowByRow
pub mod RunParts
pub mod Shown
pub mod Stretches
