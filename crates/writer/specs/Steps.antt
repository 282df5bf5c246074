-- Single calls of a job.
use Rattle.std.specs.Prelude.{ℕ, suc, ◌+◌, Bool, true, cond, List, length, Ok, Err, Result, ◌==◌, nat_lt}
use Rattle.refusal.specs.declared.Refusal.{Refusal}
use Rattle.refusal.specs.declared.Refusal.TheVariants.{NoRows, PartDue, BufferShort}
use Rattle.rwpk.specs.Bytes.{word_bytes, box_of}
use Rattle.rwpk.specs.Parts.{place_of}
use Rattle.rwpk.specs.Writing.{put_at, part_answer}
use Rattle.sheet.specs.Rules.{Content}

-- what a step answers where k parts are written
abbrev pub step_answer : Content → ℕ → List ℕ → Result ℕ Refusal
step_answer c k out = cond (length c.rows == 0) (Err NoRows) (part_answer c k out (place_of c k))

-- how many parts are written after it
abbrev pub step_done : Result ℕ Refusal → ℕ → ℕ
step_done (Ok n) k = k + 1
step_done (Err e) k = k

-- what a seal answers where k parts are written: the size of the box
abbrev pub seal_answer : Content → ℕ → List ℕ → Result ℕ Refusal
seal_answer c k out =
    cond (k == suc (length c.rows))
    (cond (nat_lt (length out) (length (box_of c))) (Err BufferShort) (Ok (length (box_of c)))) (Err PartDue)

-- what it leaves in the buffer: the size over the first four bytes
abbrev pub seal_out : Result ℕ Refusal → List ℕ → List ℕ
seal_out (Ok n) out = put_at out 0 (word_bytes 4 n)
seal_out (Err e) out = out

-- a granted seal spends the job
abbrev pub seal_spent : Result ℕ Refusal → Bool → Bool
seal_spent (Ok n) spent = true
seal_spent (Err e) spent = spent
