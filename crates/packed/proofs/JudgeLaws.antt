-- What is refused: both operands looked at byte by byte, the four tests in their order, and what a refusal leaves. Assumes nothing.
use mathlib.Core.{Path.◌≡◌, Path.refl, Path.sym, Bool.Bool, Bool.true, Bool.false, Bool.cond, Bool.not, Bool.◌&&◌, Bool.and-true, Bool.and-eq-true_iff, List.List}
use Prim.Native.Nat.{ℕ, suc, ◌+◌, ◌≤◌, ◌<◌}
use native.Mathlib.{Numerals.add-one, Omega.arith}
use lib.{ListN.length, ListN.drop, ListN.get_or, ListN.drop_of_length-le, Seq.drop-cons, Dec.leb, Dec.ltb, Dec.eqb}
use borrow.Author.Tests.{leb-true, ltb-false, eqb-true, eq-eqb, ne_eqb, lt-ltb, le-ltb}
use Rattle.std.specs.Prelude.{Ok, Err}
use Rattle.numbers.specs.Numbers.{between}
use Rattle.packed.specs.{Digits.is_packed, Digits.all_packed, Judge.Judged, Judge.judged, Halves.Operands, Sum.Operation, Packed.string_by, Packed.left, Packed.left_by, Packed.packed_by}
use Rattle.packed.specs.declared.judge.Refusal.{Refusal}
use Rattle.packed.specs.declared.judge.Refusal.TheVariants.{LengthsDiffer, Length, Digit, Room}

-- a byte of each comes to what was seen
regrouped : (p a b r s : Bool) → ((p && a && b) && (r && s)) ≡ (p && ((a && r) && (b && s)))
regrouped false a b r s = refl
regrouped true false b r s = refl
regrouped true true true r s = refl
regrouped true true false true s = refl
regrouped true true false false s = refl

pub one_more : (x y : List ℕ) (i : ℕ) (packed : Bool) {a b : Bool} → i < length x → i < length y → a ≡ is_packed (get_or x i 0) → b ≡ is_packed (get_or y i 0)
    → ((packed && a && b) && (all_packed (drop (i + 1) x) && all_packed (drop (i + 1) y))) ≡ (packed && (all_packed (drop i x) && all_packed (drop i y)))
unfolding all_packed
one_more x y i packed {a} {b} hx hy ea eb =
    rw (add-one i, drop-cons x i 0 hx, drop-cons y i 0 hy, ea, eb)
    (regrouped packed (is_packed (get_or x i 0)) (is_packed (get_or y i 0)) (all_packed (drop (suc i) x)) (all_packed (drop (suc i) y)))

-- all seen
pub seen : (x y : List ℕ) (i : ℕ) (packed : Bool) → length x ≤ i → length y ≤ i → packed ≡ (packed && (all_packed (drop i x) && all_packed (drop i y)))
unfolding all_packed
seen x y i packed hx hy = rw (drop_of_length-le x hx, drop_of_length-le y hy) (sym (and-true packed))

-- the four tests in their order, each by what it comes to
module _ (x y : List ℕ) (room : ℕ) where
  pub differ : (length x ≡ length y → ⊥) → Err LengthsDiffer ≡ judged x y room
  unfolding judged
  differ h = rw (ne_eqb (length x) (length y) h)

  pub misfit : length x ≡ length y → between 1 32 (length x) ≡ false → Err Length ≡ judged x y room
  unfolding judged
  misfit h t = rw (eq-eqb (length x) (length y) h, t)

  pub unpacked : length x ≡ length y → between 1 32 (length x) ≡ true → (all_packed x && all_packed y) ≡ false → Err Digit ≡ judged x y room
  unfolding judged
  unpacked h t u = rw (eq-eqb (length x) (length y) h, t, u)

  pub roomless : length x ≡ length y → between 1 32 (length x) ≡ true → (all_packed x && all_packed y) ≡ true → room < length x → Err Room ≡ judged x y room
  unfolding judged
  roomless h t u r = rw (eq-eqb (length x) (length y) h, t, u, lt-ltb room (length x) r)

  pub admits : length x ≡ length y → between 1 32 (length x) ≡ true → (all_packed x && all_packed y) ≡ true → length x ≤ room → Ok tt ≡ judged x y room
  unfolding judged
  admits h t u r = rw (eq-eqb (length x) (length y) h, t, u, le-ltb room (length x) r)

  -- what is known of operands that are admitted
  pub admitted : judged x y room ≡ Ok tt → Operands x y × (length x ≤ room)
  unfolding judged
  admitted = by (eqb (length x) (length y)) (between 1 32 (length x)) (all_packed x && all_packed y) (ltb room (length x)) refl refl refl refl
    where
      never : {why : Refusal} {A : Type 0} → ◌≡◌ {A = Judged} (Err why) (Ok tt) → A
      never e = let z : ◌≡◌ {A = ℕ} 0 1 = cc in absurd (omega arith)

      by : (p q r s : Bool) → eqb (length x) (length y) ≡ p → between 1 32 (length x) ≡ q → (all_packed x && all_packed y) ≡ r → ltb room (length x) ≡ s
          → ◌≡◌ {A = Judged} (cond (not p) (Err LengthsDiffer) (cond (not q) (Err Length) (cond (not r) (Err Digit) (cond s (Err Room) (Ok tt))))) (Ok tt)
          → Operands x y × (length x ≤ room)
      by false q r s p0 p1 p2 p3 e = never e
      by true false r s p0 p1 p2 p3 e = never e
      by true true false s p0 p1 p2 p3 e = never e
      by true true true true p0 p1 p2 p3 e = never e
      by true true true false p0 p1 p2 p3 e =
          let both = (and-eq-true_iff (all_packed x) (all_packed y)).0 p2 in (
            record {
              alike = eqb-true (length x) (length y) p0;
              few = leb-true (length x) 32 ((and-eq-true_iff (leb 1 (length x)) (leb (length x) 32)).0 p1).1;
              packed_x = both.0;
              packed_y = both.1;
            },
            ltb-false room (length x) p3,
          )

-- a refusal leaves the buffer as it was
pub refuses : (op : Operation) (x y : List ℕ) (c : Bool) (out : List ℕ) {why : Refusal} → judged x y (length out) ≡ Err why
    → left (Err why) out ≡ packed_by op x y c out
unfolding packed_by
refuses op x y c out e = λ i. left_by (sym e i) (string_by op x y c) out
