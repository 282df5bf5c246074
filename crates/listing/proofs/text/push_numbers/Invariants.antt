use Rattle.std.proofs.Common.{◌≡◌, ◌++◌, drop}
use Rattle.listing.specs.Lines.{items}
use Rattle.listing.proofs.text.push_numbers.Given as goal

-- what is written, and the numbers that are left, make up the whole
abbrev pub invariant-loop-n : goal.invariant-loop-n
invariant-loop-n l = l.text.bytes ++ items (drop l.n-index l.ns) ≡ l.initial.text.bytes ++ items l.ns
