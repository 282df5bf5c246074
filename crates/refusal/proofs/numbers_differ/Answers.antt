use Rattle.refusal.proofs.Differ as differ
use Rattle.refusal.proofs.numbers_differ.Goals as goal

pub returns : goal.returns
returns c = differ.differ
