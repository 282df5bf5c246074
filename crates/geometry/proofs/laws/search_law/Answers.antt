use Rattle.geometry.proofs.Searching as searching
use Rattle.geometry.proofs.laws.search_law.Goals as goal

pub returns : goal.returns
returns c = searching.is_first
