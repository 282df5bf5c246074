use Rattle.geometry.proofs.Positioning as positioning
use Rattle.geometry.proofs.laws.position_laws.Goals as goal

pub returns : goal.returns
returns c = positioning.laws
