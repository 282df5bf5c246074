-- What a chain of reads and judgements tells of its links, and how it is gone through.
use Rattle.std.proofs.Common.{◌≡◌, ℕ, Bool, true, false, Ok, Err, Result, refl, ap, ◌∙◌, arith}
use Rattle.refusal.specs.declared.Refusal.{Refusal}
use Rattle.rwpk.specs.declared.fault.Fault.{Fault}
use Rattle.rwpk.specs.Fields.{refuse, ◌>>=◌, ◌>>◌}

-- where a chain is granted, its first read is, and so is the rest
pub granted : {X Y : Type 0} (a : Result X Fault) (f : X → Result Y Fault) (y : Y) → Ok y ≡ (a >>= f) → (x : X) × (a ≡ Ok x) × (Ok y ≡ f x)
granted (Ok x) f y e = (x, refl, e)
granted (Err d) f y e = let z : ◌≡◌ {A = ℕ} 0 1 = cc in absurd (omega arith)

-- and so is a chain of judgements before it
pub then_granted : {Y : Type 0} (a : Result (Unit {0}) Fault) (f : Result Y Fault) (y : Y) → Ok y ≡ (a >> f) → (a ≡ Ok tt) × (Ok y ≡ f)
then_granted (Ok x) f y e = (refl, e)
then_granted (Err d) f y e = let z : ◌≡◌ {A = ℕ} 0 1 = cc in absurd (omega arith)

-- and a judgement was passed
pub passed : {Y : Type 0} (bad : Bool) (why : Refusal) (p : ℕ) (f : Result Y Fault) (y : Y) → Ok y ≡ (refuse bad why p >> f) →
    (bad ≡ false) × (Ok y ≡ f)
passed true why p f y e = let z : ◌≡◌ {A = ℕ} 0 1 = cc in absurd (omega arith)
passed false why p f y e = (refl, e)

-- also one that is all there is
pub passed_last : (bad : Bool) (why : Refusal) (p : ℕ) (u : Unit {0}) → Ok u ≡ refuse bad why p → bad ≡ false
passed_last true why p u e = let z : ◌≡◌ {A = ℕ} 0 1 = cc in absurd (omega arith)
passed_last false why p u e = refl

pub same_ok : {X : Type 0} {x y : X} → ◌≡◌ {A = Result X Fault} (Ok x) (Ok y) → x ≡ y
same_ok e = cc

-- a read that is granted, and the rest
pub read : {X Y : Type 0} (a : Result X Fault) (f : X → Result Y Fault) (x : X) (z : Result Y Fault) → a ≡ Ok x → f x ≡ z → (a >>= f) ≡ z
read a f x z e g = ap (λ b. b >>= f) e ∙ g

-- a judgement that is passed, and the rest
pub pass : {Y : Type 0} (bad : Bool) (why : Refusal) (p : ℕ) (f z : Result Y Fault) → bad ≡ false → f ≡ z → (refuse bad why p >> f) ≡ z
pass bad why p f z e g = ap (λ t. refuse t why p >> f) e ∙ g

pub on : {Y : Type 0} (a : Result (Unit {0}) Fault) (f z : Result Y Fault) → a ≡ Ok tt → f ≡ z → (a >> f) ≡ z
on a f z e g = ap (λ b. b >> f) e ∙ g
