-- Fields of some bytes, highest byte first, and how reading goes on from one to the next.
use Rattle.std.specs.Prelude.{ℕ, ◌+◌, ◌*◌, ◌^◌, Bool, cond, List, [], ◌∷◌, length, take, drop, Some, None, Ok, Err, Option, Result, nat_lt}
use Rattle.refusal.specs.declared.Refusal.{Refusal}
use Rattle.refusal.specs.declared.Refusal.TheVariants.{InputEnds}
use Rattle.rwpk.specs.declared.fault.Fault.{Fault}

-- the number that bytes write
abbrev pub word_of : List ℕ → ℕ
word_of [] = 0
word_of (b ∷ bs) = b * 256 ^ length bs + word_of bs

-- a refusal of the field that begins at a place
abbrev pub refused_at : {X : Type 0} → Refusal → ℕ → Result X Fault
refused_at why place = Err (record { refusal = why; place = place })

-- go on with what was read, or hand the refusal on
infixl 1 ◌>>=◌
abbrev pub ◌>>=◌ : {X Y : Type 0} → Result X Fault → (X → Result Y Fault) → Result Y Fault
Ok x >>= next = next x
Err e >>= next = Err e

infixl 1 ◌>>◌
abbrev pub ◌>>◌ : {Y : Type 0} → Result (Unit {0}) Fault → Result Y Fault → Result Y Fault
Ok x >> next = next
Err e >> next = Err e

-- a judgement of the field that begins at a place: refused where the test says so
abbrev pub refuse : Bool → Refusal → ℕ → Result (Unit {0}) Fault
refuse bad why place = cond bad (refused_at why place) (Ok tt)

-- the number in the first n bytes, as the type that holds it, if there are so many
abbrev pub first_as : {X : Type 0} → (ℕ → X) → ℕ → List ℕ → Option X
first_as of n bytes = cond (nat_lt (length bytes) n) None (Some (of (word_of (take n bytes))))

-- the same of the n bytes at a place, or the refusal that the input ends inside them
abbrev pub field_as : {X : Type 0} → (ℕ → X) → ℕ → List ℕ → ℕ → Result X Fault
field_as of n input place =
    cond (nat_lt (length input) (place + n)) (refused_at InputEnds place) (Ok (of (word_of (take n (drop place input)))))

-- the number in the n bytes at a place
abbrev pub field : ℕ → List ℕ → ℕ → Result ℕ Fault
field n input place = field_as (λ x. x) n input place
