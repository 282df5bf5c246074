use Rattle.std.proofs.Common.{refl}
use Rattle.std.specs.Fmt.{digits}
use Rattle.conformance.proofs.worked_film.Goals as goal

pub returns : goal.returns
unfolding digits
returns c =
    record {
      lists = refl;
      clashes = refl;
      ends = refl;
      empty = refl;
      position = refl;
      serves = refl;
      plain = λ s top h y. (refl, refl, refl);
      mirrored = λ s top h y. (refl, refl, refl);
      no_row = refl;
      first = refl;
      second = refl;
      third = refl;
      leaves = refl;
      granted = refl;
    }
