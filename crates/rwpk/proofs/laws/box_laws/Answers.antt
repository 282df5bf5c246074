use Rattle.std.proofs.Common.{Ok, sym, ap, ◌∙◌}
use Rattle.rwpk.specs.Boxes.{box_of_bytes}
use Rattle.rwpk.specs.Fields.{◌>>=◌}
use Rattle.rwpk.proofs.BoxBack.{box_back}
use Rattle.rwpk.proofs.BoxThere.{box_there}
use Rattle.rwpk.proofs.Chains as chains
use Rattle.rwpk.proofs.Parted.{parts_box, parts_end}
use Rattle.rwpk.proofs.laws.box_laws.Goals as goal

pub returns : goal.returns
returns c =
    record {
      read = λ input k small e. box_back input small k (sym e);
      read_back = box_there;
      granted = λ input small e.
          let (k, is, rest) = chains.granted (box_of_bytes input) _ tt (sym e) in
          let (has, same) = box_back input small k (sym is) in
          record { content = k; has = has; same = same };
      boxes = λ input b. ap (λ a. a >>= (λ _. Ok tt)) (ap box_of_bytes b.same ∙ box_there b.content b.has);
      parts = parts_box;
      end = parts_end;
    }
