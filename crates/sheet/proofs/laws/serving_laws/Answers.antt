use Rattle.sheet.proofs.Serves as serves
use Rattle.sheet.proofs.laws.serving_laws.Goals as goal

pub returns : goal.returns
returns c = serves.laws
