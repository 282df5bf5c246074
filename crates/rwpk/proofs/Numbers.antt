-- Numbers and their bytes, at any width.
use Rattle.std.proofs.Common.{◌≡◌, ℕ, zero, suc, ◌+◌, ◌*◌, ◌/◌, ◌%◌, ◌^◌, ◌<◌, List, [], ◌∷◌, length, take, drop, sym, refl, ap, ◌∙◌, mod-eq_of_lt, mul_assoc, add_comm, arith}
use native.Mathlib.Nat.{pow-succ', add-mul-div_right, add-mul-mod_self_right, one-le-pow, mod-one}
use lib.Arith.{mod-mul}
use Rattle.std.proofs.lemmas.List.{get_or-drop}
use Rattle.std.proofs.lemmas.Nat.{div-mul-add, mul-add-lt}
use Rattle.rwpk.specs.Bytes.{word_bytes}
use Rattle.rwpk.specs.Fields.{word_of}
use Rattle.rwpk.specs.Laws.{Bytes}

pub bytes_drop : (n : ℕ) (bs : List ℕ) → Bytes bs → Bytes (drop n bs)
bytes_drop n bs h i = rw get_or-drop (h (n + i))

pub bytes_take : (n : ℕ) (bs : List ℕ) → Bytes bs → Bytes (take n bs)
bytes_take zero bs h i = omega arith
bytes_take (suc n) [] h i = omega arith
bytes_take (suc n) (b ∷ bs) h zero = h 0
bytes_take (suc n) (b ∷ bs) h (suc i) = bytes_take n bs (λ k. h (suc k)) i

big : (n : ℕ) → 0 < 256 ^ n
big n = one-le-pow n 256 (omega arith)

pub word_small : (bs : List ℕ) → Bytes bs → word_of bs < 256 ^ length bs
word_small [] h = omega arith
word_small (b ∷ bs) h =
    omega (arith, mul-add-lt b (256 ^ length bs) (word_of bs) 256 (h 0) (word_small bs (λ k. h (suc k))), pow-succ' 256 (length bs))

-- what stands above n bytes is not in them
above : (n k w : ℕ) → word_bytes n (k * 256 ^ n + w) ≡ word_bytes n w
above zero k w = refl
above (suc n) k w =
    let x : ℕ = 256 ^ n in
    let y : ℕ = k * 256 in
    let up : k * 256 ^ suc n ≡ y * x = ap (λ z. k * z) (pow-succ' 256 n) ∙ sym (mul_assoc k 256 x) in
    let first : (y * x + w) / x % 256 ≡ w / x % 256 =
    ap (λ z. z / x % 256) (add_comm (y * x) w)
    ∙ ap (λ z. z % 256) (add-mul-div_right w y (big n))
    ∙ add-mul-mod_self_right (w / x) k 256 in
    ap (λ z. word_bytes (suc n) (z + w)) up
    ∙ ap (λ z. z ∷ word_bytes n (y * x + w)) first
    ∙ ap (λ zs. (w / x % 256) ∷ zs) (above n y w)

-- bytes are those of the number that they write
pub word_back : (bs : List ℕ) → Bytes bs → word_bytes (length bs) (word_of bs) ≡ bs
word_back [] h = refl
word_back (b ∷ bs) h =
    let x : ℕ = 256 ^ length bs in
    let w : ℕ = word_of bs in
    let first : (b * x + w) / x % 256 ≡ b =
    ap (λ z. z % 256) (div-mul-add b x w (word_small bs (λ k. h (suc k)))) ∙ mod-eq_of_lt (h 0) in
    ap (λ z. z ∷ word_bytes (length bs) (b * x + w)) first
    ∙ ap (λ zs. b ∷ zs) (above (length bs) b w ∙ word_back bs (λ k. h (suc k)))

pub word_long : (n x : ℕ) → length (word_bytes n x) ≡ n
word_long zero x = refl
word_long (suc n) x = ap suc (word_long n x)

-- the bytes of a number write it, where it fits
pub word_there : (n x : ℕ) → word_of (word_bytes n x) ≡ x % 256 ^ n
word_there zero x = sym (mod-one x)
word_there (suc n) x =
    ap (λ m. (x / 256 ^ n % 256) * 256 ^ m + word_of (word_bytes n x)) (word_long n x)
    ∙ ap (λ z. (x / 256 ^ n % 256) * 256 ^ n + z) (word_there n x)
    ∙ sym (mod-mul x {m = 256} {c = 256 ^ n} (omega arith) (big n))
    ∙ ap (λ z. x % z) (sym (pow-succ' 256 n))

-- a number that fits one byte is that byte
pub word_one : (x : ℕ) → x < 256 → word_bytes 1 x ≡ x ∷ []
word_one x h = let is : x / 1 % 256 ≡ x = omega arith in ap (λ b. b ∷ []) is
