use Rattle.sheet.proofs.Placing as placing
use Rattle.sheet.proofs.laws.claim_laws.Goals as goal

pub returns : goal.returns
returns c = placing.laws
