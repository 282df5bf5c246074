-- Whole runs of a job: any number of steps, on any buffers, granted or refused.
use Rattle.std.specs.Prelude.{◌≡◌, ℕ, suc, ◌<◌, ◌≤◌, true, List, [], ◌∷◌, length, is_ok, Ok, Result}
use Rattle.refusal.specs.declared.Refusal.{Refusal}
use Rattle.rwpk.specs.Boxes.{box_of_bytes}
use Rattle.rwpk.specs.Bytes.{box_of}
use Rattle.rwpk.specs.Parts.{part_at, place_of}
use Rattle.rwpk.specs.Writing.{put_at, part_out}
use Rattle.sheet.specs.Rules.{Content}
use Rattle.writer.specs.Steps.{step_answer, step_done, seal_answer, seal_out}

-- how many parts are written once these buffers were handed to steps, in this order, k of them before
abbrev pub done_after : Content → ℕ → List (List ℕ) → ℕ
done_after c k [] = k
done_after c k (out ∷ outs) = done_after c (step_done (step_answer c k out) k) outs

-- Where k parts are written one buffer holds `out`. Each further step that is granted is handed that buffer as it then is;
-- one that is refused may be handed any. `last` is what the buffer holds after them all.
abbrev pub HandedOn : Content → ℕ → List ℕ → List (List ℕ) → List ℕ → Type 0
HandedOn c k out [] last = last ≡ out
HandedOn c k out (o ∷ outs) last =
    (is_ok (step_answer c k o) ≡ true → o ≡ out)
    × HandedOn c (step_done (step_answer c k o) k) (part_out (step_answer c k o) out (place_of c k) (part_at c k)) outs last

-- A seal that was handed `out`, where k parts are written, and left `new`: if every granted step since the start was handed
-- one buffer, and the seal too, a granted seal leaves the finished box at its start, and the rest as it was at the start.
abbrev pub Finished : Content → ℕ → List ℕ → Result ℕ Refusal → List ℕ → Type 0
Finished c k out r new =
    (start : List ℕ) (outs : List (List ℕ)) → HandedOn c 0 start outs out → done_after c 0 outs ≡ k → is_ok r ≡ true →
    new ≡ put_at start 0 (box_of c)

-- A seal after k parts: if steps led there from the start, whatever they were handed, and it was granted, the finished box is
-- read back to the sheet's content.
abbrev pub ReadsBack : Content → ℕ → Result ℕ Refusal → Type 0
ReadsBack c k r = (outs : List (List ℕ)) → done_after c 0 outs ≡ k → is_ok r ≡ true → box_of_bytes (box_of c) ≡ Ok c

-- What a seal leans on, where k parts are written and the next would stand at this place.
pub record Sealing (c : Content) (k place : ℕ) : Type 0 where
  pub end : k ≡ suc (length c.rows) → place ≡ length (box_of c)
  pub large : 26 ≤ length (box_of c)
  pub small : length (box_of c) < 8192
  pub run : (out : List ℕ) (r : Result ℕ Refusal) → r ≡ seal_answer c k out → Finished c k out r (seal_out r out)
