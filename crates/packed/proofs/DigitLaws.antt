-- Packed digits and the numbers that they stand for: each gives the other back. Assumes nothing.
use mathlib.Core.{Path.◌≡◌, Path.refl, Path.sym, Path.ap, Path.◌∙◌, Bool.Bool, Bool.true, Bool.and-eq-true_iff, List.List, List.[], List.◌∷◌, List.◌++◌}
use Prim.Native.Nat.{ℕ, zero, suc, ◌+◌, ◌*◌, ◌/◌, ◌%◌, ◌^◌, ◌≤◌, ◌<◌}
use native.Mathlib.{Nat.one-le-pow, Omega.arith}
use lib.{Arith.mod-mul, Dec.lit<, Pow.pow-add, ListN.length, ListN.drop, ListN.get_or}
use borrow.Author.Tests.{leb-true, le-leb}
use Rattle.numbers.specs.Numbers.{bit}
use Rattle.numbers.proofs.BitLaws.{bit_le}
use Rattle.packed.specs.Digits.{is_packed, all_packed, two_digits, byte_of, number_of, bytes_of}

-- both digits of a byte are at most 9
pub digits_of : (b : ℕ) → is_packed b ≡ true → (b / 16 ≤ 9) × (b % 16 ≤ 9)
digits_of b h =
    let both = (and-eq-true_iff _ _).0 h in
    (leb-true (b / 16) 9 both.0, leb-true (b % 16) 9 both.1)

-- and so are those of two bytes, beside a carry
pub digits_and : (x y : ℕ) (c : Bool) → is_packed x ≡ true → is_packed y ≡ true → (x / 16 ≤ 9) × (x % 16 ≤ 9) × (y / 16 ≤ 9) × (y % 16 ≤ 9) × (bit c ≤ 1)
digits_and x y c hx hy = ((digits_of x hx).0, (digits_of x hx).1, (digits_of y hy).0, (digits_of y hy).1, bit_le c)

packed_by_lem : (b : ℕ) → b / 16 ≤ 9 → b % 16 ≤ 9 → is_packed b ≡ true
packed_by_lem b h l = (and-eq-true_iff _ _).1 (le-leb (b / 16) 9 h, le-leb (b % 16) 9 l)

-- two digits are a number below 100, and a number below 100 has two
pub two_below : (b : ℕ) → is_packed b ≡ true → two_digits b < 100
two_below b h = let d = digits_of b h in omega arith

two_of : (k : ℕ) → k < 100 → two_digits (byte_of k) ≡ k
two_of k h = omega arith

byte_of_lem : (b : ℕ) → is_packed b ≡ true → byte_of (two_digits b) ≡ b
byte_of_lem b h = let d = digits_of b h in omega arith

byte_packed : (k : ℕ) → k < 100 → is_packed (byte_of k) ≡ true
byte_packed k h = packed_by_lem (byte_of k) (omega arith) (omega arith)

-- the first byte, and the others
pub all_cons : (b : ℕ) (bytes : List ℕ) → all_packed (b ∷ bytes) ≡ true → (is_packed b ≡ true) × (all_packed bytes ≡ true)
unfolding all_packed
all_cons b bytes h = (and-eq-true_iff _ _).0 h

pub all_append : (front back : List ℕ) → all_packed front ≡ true → all_packed back ≡ true → all_packed (front ++ back) ≡ true
unfolding all_packed
all_append [] back h t = t
all_append (b ∷ front) back h t =
    let parts = all_cons b front h in
    (and-eq-true_iff _ _).1 (parts.0, all_append front back parts.1 t)

pub all_drop : (i : ℕ) (bytes : List ℕ) → all_packed bytes ≡ true → all_packed (drop i bytes) ≡ true
all_drop zero bytes h = h
all_drop (suc i) [] h = h
all_drop (suc i) (b ∷ bytes) h = all_drop i bytes (all_cons b bytes h).1

pub all_at : (i : ℕ) (bytes : List ℕ) → all_packed bytes ≡ true → i < length bytes → is_packed (get_or bytes i 0) ≡ true
all_at i [] h l = absurd (omega arith)
all_at zero (b ∷ bytes) h l = (all_cons b bytes h).0
all_at (suc i) (b ∷ bytes) h l = all_at i bytes (all_cons b bytes h).1 (omega arith)

-- a byte more is a hundred times as many numbers
pub hundredfold : (l : ℕ) → 10 ^ (2 * suc l) ≡ 10 ^ (2 * l) * 100
hundredfold l =
    let two_more : 2 * suc l ≡ 2 * l + 2 = omega arith in
    ap (λ (k : ℕ). 10 ^ k) two_more ∙ pow-add 10 (2 * l) 2

pub some_numbers : (l : ℕ) → 0 < 10 ^ (2 * l)
some_numbers l = one-le-pow (2 * l) 10 (lit< tt)

-- bytes of l stand for a number of 2 l digits
pub number_below : (bytes : List ℕ) → all_packed bytes ≡ true → number_of bytes < 10 ^ (2 * length bytes)
unfolding number_of
number_below [] h = lit< tt
number_below (b ∷ bytes) h =
    let parts = all_cons b bytes h in
    let rest = number_below bytes parts.1 in
    omega (arith, two_below b parts.0, hundredfold (length bytes))

pub length_bytes : (l k : ℕ) → length (bytes_of l k) ≡ l
unfolding bytes_of
length_bytes zero k = refl
length_bytes (suc l) k = ap suc (length_bytes l (k / 100))

-- the bytes of any number are packed digits
pub bytes_packed : (l k : ℕ) → all_packed (bytes_of l k) ≡ true
unfolding all_packed bytes_of
bytes_packed zero k = refl
bytes_packed (suc l) k = (and-eq-true_iff _ _).1 (byte_packed (k % 100) (omega arith), bytes_packed l (k / 100))

-- the number of a number's bytes is what 2 l digits hold of it
pub number_of_bytes : (l k : ℕ) → number_of (bytes_of l k) ≡ k % 10 ^ (2 * l)
unfolding number_of bytes_of
number_of_bytes zero k = omega arith
number_of_bytes (suc l) k =
    let two = two_of (k % 100) (omega arith) in
    let rest = number_of_bytes l (k / 100) in
    omega (arith, two, rest) ∙ sym (mod-mul k (some_numbers l) (lit< tt)) ∙ ap (λ (m : ℕ). k % m) (sym (hundredfold l))

-- the bytes of packed bytes' number are those bytes
pub bytes_of_number : (bytes : List ℕ) → all_packed bytes ≡ true → bytes_of (length bytes) (number_of bytes) ≡ bytes
unfolding number_of bytes_of
bytes_of_number [] h = refl
bytes_of_number (b ∷ bytes) h =
    let parts = all_cons b bytes h in
    let small = two_below b parts.0 in
    let first : (two_digits b + number_of bytes * 100) % 100 ≡ two_digits b = omega arith in
    let others : (two_digits b + number_of bytes * 100) / 100 ≡ number_of bytes = omega arith in
    (λ i. byte_of (first i) ∷ bytes_of (length bytes) (others i)) ∙ (λ i. byte_of_lem b parts.0 i ∷ bytes_of_number bytes parts.1 i)
