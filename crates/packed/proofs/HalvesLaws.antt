-- Bytes made for either carry, and chosen. Assumes nothing.
use mathlib.Core.{Path.◌≡◌, Path.refl, Path.sym, Path.ap, Path.◌∙◌, Bool.Bool, Bool.true, Bool.false, Bool.not, List.List, List.[], List.◌∷◌, List.◌++◌, List.append_assoc}
use Prim.Native.Nat.{ℕ, zero, suc, ◌+◌, ◌-◌, ◌≤◌, ◌<◌}
use native.Mathlib.{Nat.sub-zero, Numerals.add-one, Omega.arith}
use borrow.Author.Tests.{eqb-true, eqb-false}
use lib.{Arith.lt_of_le-ne, Dec.eqb}
use lib.ListN.{length, take, drop, get_or, set, replicate, take-append-drop, length-set, length-drop, drop_of_length-le}
use lib.Seq.{drop-cons, take-suc-set, drop-set-lt, get_or-set_same, get_or-set_other, lt-length-set}
use Rattle.numbers.proofs.BitLaws.{bit_le}
use Rattle.packed.specs.{Digits.is_packed, Sum.Operation, Sum.operation_of, Judge.judged}
use Rattle.packed.specs.{Packed.Strung, Packed.strung, Packed.behind, Packed.string_by, Packed.left, Packed.left_by, Packed.packed_by, Byte.byte_by, declared.byte.Byte.Byte}
use Rattle.packed.specs.Halves.{Operands, half_of, InHalves, WorkSpace, Made, chosen, onto}
use Rattle.std.specs.Prelude.{Ok}
use Rattle.packed.proofs.{DigitLaws.all_at, DigitLaws.all_drop, PartLaws.by_parts, StringLaws.string_nil, StringLaws.string_cons, StringLaws.string_length}

-- the bytes of both operands at a place are packed digits
pub digits_at : {x y : List ℕ} (i : ℕ) → Operands x y → i < length x → (is_packed (get_or x i 0) ≡ true) × (is_packed (get_or y i 0) ≡ true)
digits_at {x} {y} i o h = (all_at i x o.packed_x h, all_at i y o.packed_y (omega (arith, o.alike)))

-- what is chosen so far, what is still to be chosen, and what stands behind
abbrev pub choosing : List ℕ → List ℕ → ℕ → List ℕ → ℕ → ℕ → Strung
choosing bytes halves size out half i = behind (take i out) (onto (chosen bytes halves (size - i) i half) (drop size out))

module _ (bytes halves : List ℕ) (size : ℕ) (out : List ℕ) where
  pub choosing_more : (half i : ℕ) → i < size → size ≤ length out
      → choosing bytes halves size (set out i (get_or bytes (half + i) 0)) (get_or halves (half + i) 0) (i + 1) ≡ choosing bytes halves size out half i
  unfolding chosen
  choosing_more half i h l =
      let b = get_or bytes (half + i) 0 in
      let rest = chosen bytes halves (size - suc i) (suc i) (get_or halves (half + i) 0) in
      let behind-it = drop size out in
      let one_less : suc (size - suc i) ≡ size - i = omega arith in
      let there : i < length out = omega arith in
      let more : behind (take (i + 1) (set out i b)) (onto (chosen bytes halves (size - (i + 1)) (i + 1) (get_or halves (half + i) 0)) (drop size (set out i b))) ≡ behind (take i out ++ (b ∷ [])) (onto rest behind-it) = rw (add-one i, take-suc-set out i b, drop-set-lt size out i b h) in
      more ∙ (λ k. strung (append_assoc (take i out) (b ∷ []) (rest.bytes ++ behind-it) k) rest.carry) ∙ ap (λ (n : ℕ). behind (take i out) (onto (chosen bytes halves n i half) behind-it)) one_less

  pub all_chosen : (half i : ℕ) → i ≤ size → size ≤ i → strung out (not (eqb half 0)) ≡ choosing bytes halves size out half i
  unfolding chosen
  all_chosen half i h l =
      let end : size ≡ i = omega arith in
      let none : 0 ≡ size - i = omega arith in
      (λ k. strung (sym (take-append-drop i out) k) (not (eqb half 0))) ∙ (λ k. behind (take i out) (onto (strung [] (not (eqb half 0))) (drop (sym end k) out)))
      ∙ ap (λ (n : ℕ). behind (take i out) (onto (chosen bytes halves n i half) (drop size out))) none

  pub chosen_first : (half : ℕ) → choosing bytes halves size out half 0 ≡ onto (chosen bytes halves size 0 half) (drop size out)
  chosen_first half = rw sub-zero

-- two places of a list written
module _ (space : List ℕ) (p q a b : ℕ) where
  first_set : p < length space → (p ≡ q → ⊥) → get_or (set (set space p a) q b) p 0 ≡ a
  first_set h n = get_or-set_other (set space p a) q p b 0 n ∙ get_or-set_same space p a 0 h

  second_set : q < length space → get_or (set (set space p a) q b) q 0 ≡ b
  second_set h = get_or-set_same (set space p a) q b 0 (lt-length-set space p a h)

  unset : (k : ℕ) → (k ≡ p → ⊥) → (k ≡ q → ⊥) → get_or (set (set space p a) q b) k 0 ≡ get_or space k 0
  unset k n m = get_or-set_other (set space p a) q k b 0 m ∙ get_or-set_other space p k a 0 n

-- a place more in either half
halves_more : (rule : Bool → ℕ → ℕ) (space : List ℕ) (i : ℕ) {a b : ℕ} → InHalves rule i space → i < 32 → length space ≡ 64 → a ≡ rule false i → b ≡ rule true i
    → InHalves rule (i + 1) (set (set space i a) (32 + i) b)
halves_more rule space i {a} {b} so_far h l ea eb c j hj = by c (eqb j i) refl
  where
    by : (k t : Bool) → eqb j i ≡ t → get_or (set (set space i a) (32 + i) b) (half_of k + j) 0 ≡ rule k j
    by false true e =
        let same = eqb-true j i e in
        let at : half_of false + j ≡ i = omega arith in
        ap (λ (k : ℕ). get_or (set (set space i a) (32 + i) b) k 0) at ∙ first_set space i (32 + i) a b (omega arith) (λ e. omega arith) ∙ ea ∙ ap (rule false) (sym same)
    by true true e =
        let same = eqb-true j i e in
        let at : half_of true + j ≡ 32 + i = omega arith in
        ap (λ (k : ℕ). get_or (set (set space i a) (32 + i) b) k 0) at ∙ second_set space i (32 + i) a b (omega arith) ∙ eb ∙ ap (rule true) (sym same)
    by false false e =
        let less = lt_of_le-ne {i = j} {k = i} (omega arith) (eqb-false j i e) in
        unset space i (32 + i) a b (half_of false + j) (λ d. omega arith) (λ d. omega arith) ∙ so_far false j less
    by true false e =
        let less = lt_of_le-ne {i = j} {k = i} (omega arith) (eqb-false j i e) in
        unset space i (32 + i) a b (half_of true + j) (λ d. omega arith) (λ d. omega arith) ∙ so_far true j less

-- a value that is written where all are at most m
set_within : (m : ℕ) (space : List ℕ) (p a : ℕ) → ((k : ℕ) → get_or space k 0 ≤ m) → a ≤ m → (k : ℕ) → get_or (set space p a) k 0 ≤ m
set_within m [] p a h l k = h k
set_within m (s ∷ space) zero a h l zero = l
set_within m (s ∷ space) zero a h l (suc k) = h (suc k)
set_within m (s ∷ space) (suc p) a h l zero = h zero
set_within m (s ∷ space) (suc p) a h l (suc k) = set_within m space p a (λ k. h (suc k)) l k

-- nothing is made yet
pub none_made : (op : Operation) (x y : List ℕ) {bytes halves : List ℕ} → WorkSpace bytes halves → Made op x y 0 bytes halves
none_made op x y w = record { byte_at = λ c i h. absurd (omega arith); half_at = λ c i h. absurd (omega arith); space = w }

-- a byte more of a string is made
module _ (op : Operation) (x y : List ℕ) (i : ℕ) (bytes halves : List ℕ) (so_far : Made op x y i bytes halves) (h : i < 32) where
  pub made_more : {without with : Byte} → without ≡ byte_by op (get_or x i 0) (get_or y i 0) false → with ≡ byte_by op (get_or x i 0) (get_or y i 0) true
      → Made op x y (i + 1) (set (set bytes i without.byte) (32 + i) with.byte) (set (set halves i (half_of without.carry)) (32 + i) (half_of with.carry))
  made_more {without} {with} e d =
      record {
        byte_at = halves_more (λ c j. (byte_by op (get_or x j 0) (get_or y j 0) c).byte) bytes i so_far.byte_at h so_far.space.bytes_size (ap (λ (b : Byte). b.byte) e) (ap (λ (b : Byte). b.byte) d);
        half_at = halves_more (λ c j. half_of (byte_by op (get_or x j 0) (get_or y j 0) c).carry) halves i so_far.half_at h so_far.space.halves_size (ap (λ (b : Byte). half_of b.carry) e) (ap (λ (b : Byte). half_of b.carry) d);
        space =
            record {
              bytes_size = simp length-set so_far.space.bytes_size;
              halves_size = simp length-set so_far.space.halves_size;
              within = set_within 32 (set halves i (half_of without.carry)) (32 + i) (half_of with.carry) (set_within 32 halves i (half_of without.carry) so_far.space.within (omega (arith, bit_le without.carry))) (omega (arith, bit_le with.carry));
            };
      }

-- a carry is read off the half that it chose
carry_of : (c : Bool) → not (eqb (half_of c) 0) ≡ c
carry_of true = refl
carry_of false = refl

-- what is chosen from place i on is the string of what the operands have from there
module _ (subtract : Bool) (x y : List ℕ) {bytes halves : List ℕ} (operands : Operands x y) (all : Made (operation_of subtract) x y (length x) bytes halves) where
  chosen-string : (n i : ℕ) (c : Bool) → n + i ≡ length x
      → chosen bytes halves n i (half_of c) ≡ string_by (operation_of subtract) (drop i x) (drop i y) c
  unfolding chosen
  chosen-string zero i c e =
      let none-x = drop_of_length-le x {i = i} (omega arith) in
      let none-y = drop_of_length-le y {i = i} (omega (arith, operands.alike)) in
      rw (none-x, none-y) ((λ k. strung [] (carry_of c k)) ∙ sym (string_nil (by_parts subtract) c))
  chosen-string (suc n) i c e =
      let here : i < length x = omega arith in
      let there : i < length y = omega (arith, operands.alike) in
      let made = byte_by (operation_of subtract) (get_or x i 0) (get_or y i 0) c in
      let more = string_cons (by_parts subtract) (get_or x i 0) (get_or y i 0) (drop (suc i) x) (drop (suc i) y) c (all_at i x operands.packed_x here) (all_at i y operands.packed_y there) (all_drop (suc i) y operands.packed_y) (simp length-drop (ap (λ (k : ℕ). k - suc i) operands.alike)) in
      (λ k. behind (all.byte_at c i here k ∷ []) (chosen bytes halves n (suc i) (all.half_at c i here k))) ∙ ap (behind (made.byte ∷ [])) (chosen-string n (suc i) made.carry (omega arith))
      ∙ sym more ∙ (λ k. string_by (operation_of subtract) (sym (drop-cons x i 0 here) k) (sym (drop-cons y i 0 there) k) c)

  -- so what is written is the string, and what stood after it
  pub work_done : (c : Bool) (out : List ℕ) {r : Bool} {wrote : List ℕ} → judged x y (length out) ≡ Ok tt
      → strung wrote r ≡ onto (chosen bytes halves (length x) 0 (half_of c)) (drop (length x) out)
      → left (Ok r) wrote ≡ packed_by (operation_of subtract) x y c out
  unfolding packed_by
  work_done c out e w =
      let result = string_by (operation_of subtract) x y c in
      let done = w ∙ (λ k. onto (chosen-string (length x) 0 c (omega arith) k) (drop (length x) out)) in
      (λ k. left (Ok (done k).carry) (done k).bytes) ∙ (λ k. left (Ok result.carry) (result.bytes ++ drop (sym (string_length (operation_of subtract) x y c) k) out))
      ∙ (λ k. left_by (sym e k) result out)

-- in a list of zeros all are at most m
zeros_within : (n m k : ℕ) → get_or (replicate n 0) k 0 ≤ m
zeros_within zero m k = omega arith
zeros_within (suc n) m zero = omega arith
zeros_within (suc n) m (suc k) = zeros_within n m k

-- a work space as it begins
pub fresh : WorkSpace (replicate 64 0) (replicate 64 0)
fresh = record { bytes_size = refl; halves_size = refl; within = zeros_within 64 32 }
