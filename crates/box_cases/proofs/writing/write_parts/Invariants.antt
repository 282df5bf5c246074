use Rattle.std.proofs.Common.{◌≡◌}
use Rattle.box_cases.proofs.writing.write_parts.Given as goal

abbrev pub invariant-loop : goal.invariant-loop
invariant-loop l = l.job.spent ≡ l.initial.job.spent
