use Rattle.std.proofs.Common.{arith}
use Rattle.geometry.proofs.Centres as centres
use Rattle.geometry.proofs.cells.middle.Goals as goal

pub overflow_cast-result-4 : goal.overflow_cast-result-4
overflow_cast-result-4 c = record { fits = omega (arith, centres.at_most c.args.samples c.args.cells c.args.cell c.requires) }
