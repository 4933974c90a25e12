-- What people rely on when they add and subtract packed strings. These are laws of the definitions, for strings of any length. Assumes nothing.
use mathlib.Core.{Path.◌≡◌, Path.refl, Path.sym, Path.ap, Path.◌∙◌, Bool.Bool, Bool.true, Bool.false, Bool.cond, Bool.not, Bool.and_comm, List.List, List.[], List.◌∷◌, List.◌++◌}
use Prim.Native.Nat.{ℕ, zero, suc, ◌+◌, ◌-◌, ◌*◌, ◌%◌, ◌^◌, ◌<◌}
use native.Mathlib.{Nat.mod-eq_of_lt, Omega.arith}
use lib.{Dec.leb, Dec.ltb, Dec.eqb, ListN.length, ListN.replicate}
use borrow.Author.Tests.{eqb-true, eqb-false, lt-leb, lt-ltb, le-ltb, le-leb}
use Rattle.numbers.specs.Numbers.{bit, between}
use Rattle.numbers.proofs.{Powers.rest_small, Powers.rest_large, BitLaws.bit_le}
use Rattle.packed.specs.{Digits.all_packed, Digits.number_of, Digits.bytes_of, Sum.Worked, Sum.Operation, Sum.plus, Sum.minus, Sum.operation_of}
use Rattle.packed.specs.{Packed.strung, Packed.behind, Packed.string_by, Packed.left_by, Packed.packed_by, Judge.judged}
use Rattle.packed.specs.declared.judge.Refusal.TheVariants.{LengthsDiffer, Length, Digit, Room}
use Rattle.std.specs.Prelude.{Ok, Err}
use Rattle.packed.proofs.JudgeLaws.{differ, refuses}
use Rattle.packed.proofs.DigitLaws.{some_numbers, number_below, bytes_packed, number_of_bytes, bytes_of_number}
use Rattle.packed.proofs.{PartLaws.carried, PartLaws.borrowed, PartLaws.by_parts, StringLaws.string-cut, StringLaws.string_length}

abbrev worked : ℕ → Bool → Worked
worked number carry = record { number = number; carry = carry }

-- a result is packed digits again
pub result_packed : (op : Operation) (x y : List ℕ) (c : Bool) → all_packed (string_by op x y c).bytes ≡ true
unfolding string_by
result_packed op x y c = bytes_packed (length x) (op (10 ^ (2 * length x)) (number_of x) (number_of y) c).number

-- and its number is the sum or difference mod 10 ^ (2 l)
pub result_number : (subtract : Bool) (x y : List ℕ) (c : Bool)
    → number_of (string_by (operation_of subtract) x y c).bytes ≡ (operation_of subtract (10 ^ (2 * length x)) (number_of x) (number_of y) c).number
unfolding string_by
result_number subtract x y c =
    let m = 10 ^ (2 * length x) in
    number_of_bytes (length x) (operation_of subtract m (number_of x) (number_of y) c).number
    ∙ mod-eq_of_lt ((by_parts subtract).below m (number_of x) (number_of y) c (some_numbers (length x)))

-- a result whose number is that of given bytes is those bytes
result_is : (op : Operation) (x y : List ℕ) (c k : Bool) (bytes : List ℕ) → length x ≡ length bytes → all_packed bytes ≡ true
    → op (10 ^ (2 * length x)) (number_of x) (number_of y) c ≡ worked (number_of bytes) k → string_by op x y c ≡ strung bytes k
unfolding string_by
result_is op x y c k bytes l h e =
    (λ i. strung (bytes_of (length x) (e i).number) (e i).carry) ∙ (λ i. strung (bytes_of (l i) (number_of bytes)) k) ∙ (λ i. strung (bytes_of_number bytes h i) k)

zeros : (n : ℕ) → number_of (replicate n 0) ≡ 0
unfolding number_of
zeros zero = refl
zeros (suc n) = let rest = zeros n in omega arith

-- a sum by its number and carry
module _ (m x y : ℕ) (c : Bool) where
  sum_is : (n : ℕ) (k : Bool) → n < m → n + bit k * m ≡ x + y + bit c → plus m x y c ≡ worked n k
  sum_is n true h e =
      let s = x + y + bit c in
      let rest : s % m ≡ n = omega (arith, rest_large s m (omega arith) (omega arith)) in
      λ i. worked (rest i) (le-leb m s (omega arith) i)
  sum_is n false h e =
      let s = x + y + bit c in
      let rest : s % m ≡ n = omega (arith, rest_small s m (omega arith)) in
      λ i. worked (rest i) (lt-leb m s (omega arith) i)

  -- and a difference by its number and borrow
  difference_is : (n : ℕ) (k : Bool) → n < m → n + (y + bit c) ≡ x + bit k * m → minus m x y c ≡ worked n k
  difference_is n true h e =
      let t = m + x - (y + bit c) in
      let rest : t % m ≡ n = omega (arith, rest_small t m (omega arith)) in
      λ i. worked (rest i) (lt-ltb x (y + bit c) (omega arith) i)
  difference_is n false h e =
      let t = m + x - (y + bit c) in
      let rest : t % m ≡ n = omega (arith, rest_large t m (omega arith) (omega arith)) in
      λ i. worked (rest i) (le-ltb x (y + bit c) (omega arith) i)

nothing : (subtract : Bool) (m x : ℕ) → x < m → operation_of subtract m x 0 false ≡ worked x false
nothing false m x h = sum_is m x 0 false x false h (omega arith)
nothing true m x h = difference_is m x 0 false x false h (omega arith)

-- adding or subtracting 0, with nothing carried in, gives the number back
pub by_nothing : (subtract : Bool) (x : List ℕ) → all_packed x ≡ true → string_by (operation_of subtract) x (replicate (length x) 0) false ≡ strung x false
by_nothing subtract x h =
    let m = 10 ^ (2 * length x) in
    result_is (operation_of subtract) x (replicate (length x) 0) false false x refl h
    (ap (λ (k : ℕ). operation_of subtract m (number_of x) k false) (zeros (length x)) ∙ nothing subtract m (number_of x) (number_below x h))

-- the order of the operands of a sum does not matter
pub either_order : (x y : List ℕ) (c : Bool) → length x ≡ length y → string_by plus x y c ≡ string_by plus y x c
unfolding string_by
either_order x y c l =
    let sum : number_of x + number_of y + bit c ≡ number_of y + number_of x + bit c = omega arith in
    λ i. strung (bytes_of (l i) (sum i % 10 ^ (2 * l i))) (leb (10 ^ (2 * l i)) (sum i))

-- nor for what is refused, and so for what is left
pub either_order_left : (x y : List ℕ) (c : Bool) (out : List ℕ) → packed_by plus x y c out ≡ packed_by plus y x c out
unfolding packed_by judged
either_order_left x y c out = by (eqb (length x) (length y)) refl
  where
    by : (t : Bool) → eqb (length x) (length y) ≡ t → packed_by plus x y c out ≡ packed_by plus y x c out
    by false e = let n = eqb-false (length x) (length y) e in
        sym (refuses plus x y c out (sym (differ x y (length out) n))) ∙ refuses plus y x c out (sym (differ y x (length out) (λ d. n (sym d))))
    by true e =
        let l = eqb-true (length x) (length y) e in
        λ i. left_by (cond (not (eqb (l i) (sym l i))) (Err LengthsDiffer) (cond (not (between 1 32 (l i))) (Err Length) (cond (not (and_comm (all_packed x) (all_packed y) i)) (Err Digit) (cond (ltb (length out) (l i)) (Err Room) (Ok tt))))) (either_order x y c l i) out

undone : (subtract : Bool) (m x y : ℕ) (c : Bool) → x < m → y < m
    → operation_of (not subtract) m (operation_of subtract m x y c).number y c ≡ worked x (operation_of subtract m x y c).carry
undone false m x y c hx hy =
    let made = plus m x y c in difference_is m made.number y c x made.carry hx (omega (arith, carried m (x + y + bit c) (omega (arith, bit_le c))))
undone true m x y c hx hy =
    let made = minus m x y c in sum_is m made.number y c x made.carry hx (omega (arith, borrowed m x (y + bit c) hx (omega (arith, bit_le c))))

-- what was added, subtracted again with the carry in as the borrow in, gives the number back, and the borrow out is the carry out; and what was
-- subtracted, added again
pub taken_back : (subtract : Bool) (x y : List ℕ) (c : Bool) → all_packed x ≡ true → all_packed y ≡ true → length x ≡ length y
    → string_by (operation_of (not subtract)) (string_by (operation_of subtract) x y c).bytes y c ≡ strung x (string_by (operation_of subtract) x y c).carry
unfolding string_by
taken_back subtract x y c hx hy l =
    let m = 10 ^ (2 * length x) in
    let made = string_by (operation_of subtract) x y c in
    let size = string_length (operation_of subtract) x y c in
    let under : number_of y < m = rw l (number_below y hy) in
    result_is (operation_of (not subtract)) made.bytes y c made.carry x size hx
    ((λ i. operation_of (not subtract) (10 ^ (2 * size i)) (result_number subtract x y c i) (number_of y) c)
    ∙ undone subtract m (number_of x) (number_of y) c (number_below x hx) under)

-- a string cut in two anywhere: the lower parts, and then the upper with their carry or borrow. So longer numbers are worked out in pieces
pub in_pieces : (subtract : Bool) (x y xs ys : List ℕ) (c : Bool) → all_packed x ≡ true → all_packed y ≡ true → all_packed ys ≡ true → length x ≡ length y
    → length xs ≡ length ys
    → let low = string_by (operation_of subtract) x y c in
    string_by (operation_of subtract) (x ++ xs) (y ++ ys) c ≡ behind low.bytes (string_by (operation_of subtract) xs ys low.carry)
in_pieces subtract = string-cut (by_parts subtract)

-- a loan of 28 days from day 738123, and the days between its two ends
pub loan : (string_by plus (0x23 ∷ 0x81 ∷ 0x73 ∷ []) (0x28 ∷ 0x00 ∷ 0x00 ∷ []) false ≡ strung (0x51 ∷ 0x81 ∷ 0x73 ∷ []) false) × (string_by minus (0x51 ∷ 0x81 ∷ 0x73 ∷ []) (0x23 ∷ 0x81 ∷ 0x73 ∷ []) false ≡ strung (0x28 ∷ 0x00 ∷ 0x00 ∷ []) false)
unfolding string_by number_of bytes_of
loan = (refl, refl)
