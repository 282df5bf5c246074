use Rattle.geometry.proofs.Centres as centres
use Rattle.geometry.proofs.laws.centre_laws.Goals as goal

pub returns : goal.returns
returns c = centres.laws
