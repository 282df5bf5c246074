-- The numbers and values that an answer shows.
use Rattle.std.specs.Prelude.{ℕ, Bool, List, [], ◌∷◌, is_some, Some, None, Ok, Err, Option, Result}
use Rattle.refusal.specs.Numbers.{number}
use Rattle.refusal.specs.Sentences.{sentence as plain_sentence}
use Rattle.rwpk.specs.Sentences.{fault_sentence}
use Rattle.geometry.specs.declared.search.Spot.{Spot}
use Rattle.edits.specs.declared.refused.EditRefused.{EditRefused}
use Rattle.edits.specs.declared.refused.EditRefused.TheVariants.{Plain, InBox}

-- what an edit answers: granted, with the spot that it placed a row at if it is a place, or refused
abbrev pub Answer : Type 0
Answer = Result (Option Spot) EditRefused

-- what an answer shows: the number of its refusal if it is one, and the values beside it
pub record Told : Type 0 where
  pub number : Option ℕ
  pub values : List ℕ

-- an answer's number and values: nothing, a placed body's top and left, a refusal's number, or a box's with its byte place
abbrev pub told : Answer → Told
told (Ok None) = record { number = None; values = [] }
told (Ok (Some s)) = record { number = None; values = s.top ∷ s.left ∷ [] }
told (Err (Plain r)) = record { number = Some (number r); values = [] }
told (Err (InBox f)) = record { number = Some (number f.refusal); values = f.place ∷ [] }

-- whether it is a refusal
abbrev pub is_refused : Answer → Bool
is_refused a = is_some (told a).number

-- the sentence of the refusal, or of the fault of a box
abbrev pub sentence : EditRefused → List ℕ
sentence (Plain r) = plain_sentence r
sentence (InBox f) = fault_sentence f
