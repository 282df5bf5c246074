-- The texts that the search does not compare by itself.
use Rattle.std.proofs.Common.{sym, ap}
use Rattle.refusal.specs.Sentences.{sentence}
use Rattle.refusal.proofs.Refusal.sentence.Goals as goal

pub returns-in-NotRwpk : goal.returns-in-NotRwpk
returns-in-NotRwpk c = sym (ap sentence c.in-NotRwpk.is)

pub returns-in-EmptySide : goal.returns-in-EmptySide
returns-in-EmptySide c = sym (ap sentence c.in-EmptySide.is)

pub returns-in-PackingType : goal.returns-in-PackingType
returns-in-PackingType c = sym (ap sentence c.in-PackingType.is)

pub returns-in-TurnCode : goal.returns-in-TurnCode
returns-in-TurnCode c = sym (ap sentence c.in-TurnCode.is)

pub returns-in-NoFreeSpot : goal.returns-in-NoFreeSpot
returns-in-NoFreeSpot c = sym (ap sentence c.in-NoFreeSpot.is)

pub returns-in-NoSuchRow : goal.returns-in-NoSuchRow
returns-in-NoSuchRow c = sym (ap sentence c.in-NoSuchRow.is)

pub returns-in-UnfitSides : goal.returns-in-UnfitSides
returns-in-UnfitSides c = sym (ap sentence c.in-UnfitSides.is)
