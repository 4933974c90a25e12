-- Strings byte after byte, for any operation that is done by parts. Assumes nothing.
use mathlib.Core.{Path.◌≡◌, Path.sym, Path.ap, Path.◌∙◌, Bool.Bool, Bool.true, List.List, List.[], List.◌∷◌, List.◌++◌}
use Prim.Native.Nat.{ℕ, suc, ◌+◌, ◌*◌, ◌/◌, ◌%◌, ◌^◌, ◌<◌}
use native.Mathlib.Omega.{arith}
use lib.{ListN.length, ListN.length-append, Dec.lit<}
use Rattle.packed.specs.{Digits.is_packed, Digits.all_packed, Digits.two_digits, Digits.byte_of, Digits.number_of, Digits.bytes_of, Sum.Operation, Byte.byte_by}
use Rattle.packed.specs.Packed.{Strung, strung, behind, string_by}
use Rattle.packed.proofs.DigitLaws.{two_below, all_cons, all_append, hundredfold, number_below, length_bytes}
use Rattle.packed.proofs.PartLaws.{ByParts, above}

-- as many bytes as the operands have
pub string_length : (op : Operation) (x y : List ℕ) (c : Bool) → length (string_by op x y c).bytes ≡ length x
unfolding string_by
string_length op x y c = length_bytes (length x) (op (10 ^ (2 * length x)) (number_of x) (number_of y) c).number

module _ {op : Operation} (by : ByParts op) where
  -- of nothing the carry comes out as it went in
  pub string_nil : (c : Bool) → string_by op [] [] c ≡ strung [] c
  unfolding string_by number_of bytes_of
  string_nil c = λ i. strung [] (by.none c i)

  -- the last two digits' byte, and then the string of the rest with its carry
  pub string_cons : (x y : ℕ) (xs ys : List ℕ) (c : Bool) → is_packed x ≡ true → is_packed y ≡ true → all_packed ys ≡ true → length xs ≡ length ys
      → string_by op (x ∷ xs) (y ∷ ys) c ≡ behind ((byte_by op x y c).byte ∷ []) (string_by op xs ys (byte_by op x y c).carry)
  unfolding string_by number_of bytes_of
  string_cons x y xs ys c hx hy hs l =
      let m = 10 ^ (2 * length xs) in
      let a = two_digits x in
      let b = two_digits y in
      let two = op 100 a b c in
      let rest = op m (number_of xs) (number_of ys) two.carry in
      let small = by.below 100 a b c (lit< tt) in
      let under : number_of ys < m = rw l (number_below ys hs) in
      let whole : op (10 ^ (2 * suc (length xs))) (a + number_of xs * 100) (b + number_of ys * 100) c ≡ above two rest = ap (λ (k : ℕ). op k (a + number_of xs * 100) (b + number_of ys * 100) c) (hundredfold (length xs)) ∙ by.parts m a b (number_of xs) (number_of ys) c (two_below x hx) (two_below y hy) under in
      let first : (two.number + rest.number * 100) % 100 ≡ two.number = omega arith in
      let others : (two.number + rest.number * 100) / 100 ≡ rest.number = omega arith in
      (λ i. strung (bytes_of (suc (length xs)) (whole i).number) (whole i).carry) ∙ (λ i. strung (byte_of (first i) ∷ bytes_of (length xs) (others i)) rest.carry)

  -- a string cut in two: the lower part, and the upper with its carry
  pub string-cut : (x y xs ys : List ℕ) (c : Bool) → all_packed x ≡ true → all_packed y ≡ true → all_packed ys ≡ true → length x ≡ length y
      → length xs ≡ length ys
      → string_by op (x ++ xs) (y ++ ys) c ≡ behind (string_by op x y c).bytes (string_by op xs ys (string_by op x y c).carry)
  string-cut [] [] xs ys c hx hy hs l r = rw string_nil
  string-cut [] (b ∷ y) xs ys c hx hy hs l r = absurd (omega arith)
  string-cut (a ∷ x) [] xs ys c hx hy hs l r = absurd (omega arith)
  string-cut (a ∷ x) (b ∷ y) xs ys c hx hy hs l r =
      let px = all_cons a x hx in
      let py = all_cons b y hy in
      let made = byte_by op a b c in
      let first = string_cons a b (x ++ xs) (y ++ ys) c px.0 py.0 (all_append y ys py.1 hs) (simp length-append (omega arith)) in
      let lower = string_cons a b x y c px.0 py.0 py.1 (omega arith) in
      first ∙ ap (behind (made.byte ∷ [])) (string-cut x y xs ys made.carry px.1 py.1 hs (omega arith) r) ∙ ap (λ (s : Strung). behind s.bytes (string_by op xs ys s.carry)) (sym lower)
