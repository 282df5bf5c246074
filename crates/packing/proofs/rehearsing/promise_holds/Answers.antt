use Rattle.packing.proofs.Promised.{promised}
use Rattle.packing.proofs.rehearsing.promise_holds.Goals as goal

pub returns : goal.returns
returns g c = promised _ _ _ _ c.requires c.facts.ensures
