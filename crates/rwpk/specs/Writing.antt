-- What writing a part of a box, or a whole one, answers and leaves.
use Rattle.std.specs.Prelude.{ℕ, ◌+◌, cond, List, ◌++◌, length, take, drop, Ok, Err, Result, nat_lt}
use Rattle.refusal.specs.declared.Refusal.{Refusal}
use Rattle.refusal.specs.declared.Refusal.TheVariants.{AllWritten, BufferShort}
use Rattle.sheet.specs.Rules.{Content}
use Rattle.rwpk.specs.declared.fault.CopyFault.{CopyFault}
use Rattle.rwpk.specs.declared.fault.CopyFault.TheVariants.{Unread, Unwritten}
use Rattle.rwpk.specs.declared.fault.Fault.{Fault}
use Rattle.rwpk.specs.Boxes.{box_of_bytes}
use Rattle.rwpk.specs.Parts.{part_at}

-- what a buffer holds once bytes are written at a place
abbrev pub put_at : List ℕ → ℕ → List ℕ → List ℕ
put_at out p bytes = take p out ++ (bytes ++ drop (p + length bytes) out)

-- refused where a buffer is shorter than what has to go into it
abbrev pub refuse_short : ℕ → ℕ → Result (Unit {0}) Refusal
refuse_short has needs = cond (nat_lt has needs) (Err BufferShort) (Ok tt)

-- bytes at a place: their length, or refused where the buffer has no room
abbrev pub put_answer : List ℕ → ℕ → List ℕ → Result ℕ Refusal
put_answer out p bytes = cond (nat_lt (length out) (p + length bytes)) (Err BufferShort) (Ok (length bytes))

-- part k at a place: refused first where there is no such part
abbrev pub part_answer : Content → ℕ → List ℕ → ℕ → Result ℕ Refusal
part_answer c k out p = cond (nat_lt (length c.rows) k) (Err AllWritten) (put_answer out p (part_at c k))

-- the bytes where they are granted, and nothing where not
abbrev pub part_out : Result ℕ Refusal → List ℕ → ℕ → List ℕ → List ℕ
part_out (Ok n) out p bytes = put_at out p bytes
part_out (Err why) out p bytes = out

-- a box through a sheet: refused as by load, or where the buffer has no room
abbrev pub copied : Result Content Fault → List ℕ → List ℕ → Result ℕ CopyFault
copied (Err fault) input out = Err (Unread fault)
copied (Ok c) input out = cond (nat_lt (length out) (length input)) (Err (Unwritten BufferShort)) (Ok (length input))

abbrev pub copy_answer : List ℕ → List ℕ → Result ℕ CopyFault
copy_answer input out = copied (box_of_bytes input) input out

-- where it is granted, the buffer begins with the very bytes of the input, and the rest is as it was
abbrev pub copy_out : Result ℕ CopyFault → List ℕ → List ℕ → List ℕ
copy_out (Ok n) out input = put_at out 0 input
copy_out (Err why) out input = out
