use Rattle.geometry.proofs.Turning as turning
use Rattle.geometry.proofs.laws.turn_laws.Goals as goal

pub returns : goal.returns
returns c = turning.laws
