-- Both products stay far below 64 bits.
use Rattle.std.proofs.Common.{◌+◌, ◌*◌, arith}
use Rattle.std.proofs.lemmas.Nat.{mul-le}
use Rattle.geometry.proofs.position.coordinate.Goals as goal

pub overflow_add-result : goal.overflow_add-result
overflow_add-result c =
    record {
      fits =
          omega (
            arith,
            mul-le (2 * c.args.a) c.args.edge 131070 4294967295 (omega arith) (omega arith),
            mul-le (2 * c.args.k + 1) c.args.q 131071 4294967295 (omega arith) (omega arith),
          );
    }
