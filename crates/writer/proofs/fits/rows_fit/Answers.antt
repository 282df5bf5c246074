use Rattle.writer.proofs.Fitting.{one_more, no_more}
use Rattle.writer.proofs.fits.rows_fit.Goals as goal

pub loop-row-preserved : goal.loop-row-preserved
loop-row-preserved c = λ rest. c.loop-row.invariant (one_more _ _ _ c.loop-row-test.true c.row_fits.ensures rest)

pub returns : goal.returns
returns c = c.loop-row.invariant (no_more _ _ c.loop-row-test.false)
