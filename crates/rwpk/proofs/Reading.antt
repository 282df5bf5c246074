-- What reading a field gives, where its bytes were taken from the front of what is left.
use Rattle.std.proofs.Common.{◌≡◌, ℕ, ◌+◌, ◌-◌, ◌*◌, ◌≤◌, List, [], ◌∷◌, length, get_or, take, drop, Ok, sym, refl, ap, ◌∙◌, arith, length-drop, length-take}
use Rattle.std.proofs.lemmas.List.{take_rest, drop-drop}
use Rattle.std.proofs.lemmas.Bool.{cond-false, le-ltb}
use Rattle.rwpk.specs.Fields.{word_of, field}

pub field_ok : (n : ℕ) (input : List ℕ) (p : ℕ) → p + n ≤ length input → field n input p ≡ Ok (word_of (take n (drop p input)))
field_ok n input p h = cond-false _ _ _ (le-ltb (length input) (p + n) h)

-- one, two and four named bytes at the front, as one number
abbrev pub named4 : List ℕ → ℕ
named4 xs = get_or xs 0 0 * 16777216 + get_or xs 1 0 * 65536 + get_or xs 2 0 * 256 + get_or xs 3 0

pub word1 : (xs : List ℕ) → 1 ≤ length xs → word_of (take 1 xs) ≡ get_or xs 0 0
word1 [] h = omega arith
word1 (a ∷ xs) h = omega arith

pub word2 : (xs : List ℕ) → 2 ≤ length xs → word_of (take 2 xs) ≡ get_or xs 0 0 * 256 + get_or xs 1 0
word2 [] h = omega arith
word2 (a ∷ []) h = omega arith
word2 (a ∷ b ∷ xs) h = omega arith

pub word4 : (xs : List ℕ) → 4 ≤ length xs → word_of (take 4 xs) ≡ named4 xs
word4 [] h = omega arith
word4 (a ∷ []) h = omega arith
word4 (a ∷ b ∷ []) h = omega arith
word4 (a ∷ b ∷ c ∷ []) h = omega arith
word4 (a ∷ b ∷ c ∷ d ∷ xs) h = omega arith

-- a reader that takes apart what is left from p on
pub read : {part : List ℕ} (n : ℕ) (input : List ℕ) (p x : ℕ) → part ≡ take (length input - p) (drop p input) →
    length part + p ≡ length input → n ≤ length part → x ≡ word_of (take n part) → Ok x ≡ field n input p
read n input p x is long h e =
    ap Ok (e ∙ ap (λ ys. word_of (take n ys)) (is ∙ take_rest input p)) ∙ sym (field_ok n input p (omega arith))

-- what a pattern leaves after four bytes
abbrev pub after4 : List ℕ → List ℕ
after4 xs = take (length xs - 4) (drop 4 xs)

-- four bytes at the front of what is left from p on
front4 : (input part : List ℕ) (p x : ℕ) → part ≡ drop p input → 4 ≤ length part → x ≡ named4 part → field 4 input p ≡ Ok x
front4 input part p x is h e =
    let long : p + 4 ≤ length input = omega (arith, ap length is, length-drop p input) in
    field_ok 4 input p long ∙ ap Ok (ap (λ ys. word_of (take 4 ys)) (sym is) ∙ word4 part h ∙ sym e)

-- what is left from four bytes further on
rest4 : (input part : List ℕ) (p : ℕ) → part ≡ drop p input → after4 part ≡ drop (p + 4) input
rest4 input part p is = take_rest part 4 ∙ ap (drop 4) is ∙ drop-drop 4 p input

-- the three fields of a header, each from the bytes that a pattern named
pub first : (input : List ℕ) (x : ℕ) → 4 ≤ length input → x ≡ named4 input → field 4 input 0 ≡ Ok x
first input x h e = front4 input input 0 x refl h e

pub second : (input : List ℕ) (x : ℕ) → 4 ≤ length (after4 input) → x ≡ named4 (after4 input) → field 4 input 4 ≡ Ok x
second input x h e = front4 input (after4 input) 4 x (rest4 input input 0 refl) h e

pub third : (input : List ℕ) (x : ℕ) → 4 ≤ length (after4 (after4 input)) → x ≡ named4 (after4 (after4 input)) → field 4 input 8 ≡ Ok x
third input x h e = front4 input (after4 (after4 input)) 8 x (rest4 input (after4 input) 4 (rest4 input input 0 refl)) h e

-- how long what is left is
pub after4_long : (xs : List ℕ) → 4 ≤ length xs → length (after4 xs) + 4 ≡ length xs
after4_long xs h = omega (arith, length-drop 4 xs, length-take (length xs - 4) (drop 4 xs))
