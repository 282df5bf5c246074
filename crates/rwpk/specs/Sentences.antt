-- What each fault says.
use Rattle.std.specs.Prelude.{ℕ, List, ◌++◌, codes, decimal}
use Rattle.refusal.specs.Sentences.{sentence}
use Rattle.rwpk.specs.declared.fault.CopyFault.{CopyFault}
use Rattle.rwpk.specs.declared.fault.CopyFault.TheVariants.{Unread, Unwritten}
use Rattle.rwpk.specs.declared.fault.Fault.{Fault}

-- the sentence of the refusal, and the byte place
abbrev pub fault_sentence : Fault → List ℕ
fault_sentence fault = sentence fault.refusal ++ (codes " at byte " ++ decimal fault.place)

-- what kept the box from being read, or its copy from being written
abbrev pub copy_sentence : CopyFault → List ℕ
copy_sentence (Unread fault) = fault_sentence fault
copy_sentence (Unwritten refusal) = sentence refusal
