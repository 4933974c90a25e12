-- What an op, a mode and the limits tell, as the code tests them, is what the definitions say. Assumes nothing.
use mathlib.Core.Path.{◌≡◌, refl, sym, ap, ap₂, subst, ◌∙◌}
use mathlib.Core.{Bool.Bool, Bool.true, Bool.false, Bool.not, Bool.cond, Bool.◌&&◌, Bool.◌||◌, Bool.false≢true, List.List, List.[], List.◌∷◌}
use Prim.Native.Nat.{ℕ, zero, suc, ◌+◌, ◌-◌, ◌*◌, ◌/◌, ◌%◌, ◌≤◌, ◌<◌}
use native.Mathlib.Omega.{arith}
use lib.Dec.{leb, eqb}
use borrow.Author.Tests.{ne_eqb, lt-ltb, leb-true, leb-false}
use Rattle.numbers.proofs.BoolLaws.{both, or_right}
use Rattle.flags.specs.Word.{is_flags}
use Rattle.request.specs.Operation.{Listed, AluOp, Multiply, Divide, DecimalOp, Unlisted, ops, lookup, listed, checked, operation_of, alu_only, alu_at}
use Rattle.request.specs.Limits.{x_most, y_most, in_limits, InRange}
use Rattle.request.specs.{Judge.request_of, Judge.judged_by, Judge.judged, Judge.Judged, Judge.Admitted, Judge.TooLarge, declared.raw.Raw.Raw, declared.operation.Width.Width}
use Rattle.request.specs.{declared.operation.Alu.Alu, declared.operation.Operation.Operation}
use Rattle.request.specs.declared.operation.Operation.TheVariants.{Alu as OfAlu, Multiply as OfMultiply, Divide as OfDivide, Decimal as OfDecimal}
use Rattle.std.specs.{Prelude.unwrap_or, declared.option.Option.Option, declared.option.Option.TheVariants.Some, declared.option.Option.TheVariants.None, declared.result.Result.TheVariants.Ok, declared.result.Result.TheVariants.Err}
use Rattle.request.specs.declared.decode.Undecoded.TheVariants.{Unlisted as NotListed, WrongMode}
use Rattle.request.specs.{Operation.Decoded, declared.raw.Request.Request}

-- ---- tests of every number below another, by computation

abbrev pub below : (ℕ → Bool) → ℕ → Bool
below test zero = true
below test (suc n) = test 0 && below (λ k. test (suc k)) n

pub at : (test : ℕ → Bool) (n : ℕ) → below test n ≡ true → (k : ℕ) → k < n → test k ≡ true
at test zero h k l = absurd (omega arith)
at test (suc n) h zero l = (both (test 0) (below (λ k. test (suc k)) n) h).0
at test (suc n) h (suc k) l = at (λ j. test (suc j)) n (both (test 0) (below (λ k. test (suc k)) n) h).1 k (omega arith)

-- ---- the op

-- an op that is no row's: N, and of each row that it is not the op's
abbrev pub Missed : Type 0 → ℕ → List (ℕ × Listed) → Type 0
Missed N op [] = N
Missed N op (row ∷ rows) = Missed (N × (op ≡ row.0 → ⊥)) op rows

first : {N : Type 0} (op : ℕ) (rows : List (ℕ × Listed)) → Missed N op rows → N
first op [] m = m
first op (row ∷ rows) m = (first op rows m).0

pub missed : (N : Type 0) (op : ℕ) (rows : List (ℕ × Listed)) → Missed N op rows → Unlisted ≡ lookup op rows
missed N op [] m = refl
missed N op (row ∷ rows) m = rw (ne_eqb op row.0 (first op rows m).1) (missed (N × (op ≡ row.0 → ⊥)) op rows m)

-- an op above 1C is not listed
pub above : (op : ℕ) → 0x1C < op → Unlisted ≡ listed op
unfolding listed ops
above op h = missed (Unit {0}) op ops (omega arith)

-- a mode above 08 is as wrong as 08
pub over : (l : Listed) (mode : ℕ) → 0x07 < mode → checked l 0x08 ≡ checked l mode
over (AluOp alu) mode h = rw (lt-ltb 0x01 mode (omega arith))
over Multiply mode h = rw (lt-ltb 0x07 mode h)
over Divide mode h = rw (lt-ltb 0x07 mode h)
over (DecimalOp decimal) mode h = rw (lt-ltb 0x00 mode (omega arith))
over Unlisted mode h = refl

pub wrong_mode_lem : (op mode : ℕ) → 0x07 < mode → operation_of op 0x08 ≡ operation_of op mode
unfolding operation_of
wrong_mode_lem op mode h = over (listed op) mode h

-- ---- op and mode as one number

pub at_key : (op mode : ℕ) {key : ℕ} → mode ≤ 0x07 → op * 8 + mode ≡ key → operation_of (key / 8) (key % 8) ≡ operation_of op mode
at_key op mode h e = ap₂ operation_of (omega arith) (omega arith)

-- one of the keys of a match
abbrev pub member : ℕ → List ℕ → Bool
member key [] = false
member key (k ∷ ks) = eqb key k || member key ks

-- none of them, as a match tells it
abbrev pub NoneOf : Type 0 → ℕ → List ℕ → Type 0
NoneOf N key [] = N
NoneOf N key (k ∷ ks) = NoneOf (N × (key ≡ k → ⊥)) key ks

before : {N : Type 0} (key : ℕ) (ks : List ℕ) → NoneOf N key ks → N
before key [] m = m
before key (k ∷ ks) m = (before key ks m).0

pub none_of : (N : Type 0) (key : ℕ) (ks : List ℕ) → NoneOf N key ks → member key ks ≡ false
none_of N key [] m = refl
none_of N key (k ∷ ks) m = rw (ne_eqb key k (before key ks m).1) (none_of (N × (key ≡ k → ⊥)) key ks m)

-- the keys of the ALU operations, and those of the others
abbrev pub alu_keys : List ℕ
alu_keys =
    0x00 ∷ 0x01 ∷ 0x08 ∷ 0x09 ∷ 0x10 ∷ 0x11 ∷ 0x18 ∷ 0x19 ∷ 0x20 ∷ 0x21 ∷ 0x28 ∷ 0x29 ∷ 0x30 ∷ 0x31 ∷ 0x38 ∷ 0x39 ∷ 0x40 ∷ 0x41 ∷ 0x48 ∷ 0x49 ∷ 0x50 ∷ 0x51 ∷ 0x58 ∷ 0x59 ∷ 0x60 ∷ 0x61 ∷ []

abbrev pub other_keys : List ℕ
other_keys =
    0x80 ∷ 0x81 ∷ 0x82 ∷ 0x83 ∷ 0x84 ∷ 0x85 ∷ 0x86 ∷ 0x87 ∷ 0x88 ∷ 0x89 ∷ 0x8A ∷ 0x8B ∷ 0x8C ∷ 0x8D ∷ 0x8E ∷ 0x8F ∷ 0xC0 ∷ 0xC8 ∷ 0xD0 ∷ 0xD8 ∷ 0xE0 ∷ []

abbrev is_nothing : Option (Alu × Width) → Bool
is_nothing (Some a) = false
is_nothing None = true

nothing : (a : Option (Alu × Width)) → is_nothing a ≡ true → None ≡ a
nothing (Some a) e = absurd (false≢true e)
nothing None e = refl

-- the same refusal
abbrev pub same_refusal : Decoded → Decoded → Bool
same_refusal (Err NotListed) (Err NotListed) = true
same_refusal (Err NotListed) (Err WrongMode) = false
same_refusal (Err WrongMode) (Err WrongMode) = true
same_refusal (Err WrongMode) (Err NotListed) = false
same_refusal (Err why) (Ok o) = false
same_refusal (Ok o) n = false

same : (m n : Decoded) → same_refusal m n ≡ true → m ≡ n
same (Err NotListed) (Err NotListed) e = refl
same (Err NotListed) (Err WrongMode) e = absurd (false≢true e)
same (Err WrongMode) (Err WrongMode) e = refl
same (Err WrongMode) (Err NotListed) e = absurd (false≢true e)
same (Err why) (Ok o) e = absurd (false≢true e)
same (Ok o) n e = absurd (false≢true e)

-- the refusal of every op from one to another, by computation
pub refuses : (r : Decoded) (start n : ℕ) → below (λ k. same_refusal r (operation_of (start + k) 0x08)) n ≡ true → (op : ℕ) → start ≤ op → op < start + n
    → r ≡ operation_of op 0x08
refuses r start n h op l u =
    let back : start + (op - start) ≡ op = omega arith in
    same r (operation_of op 0x08)
    (subst (λ (j : ℕ). same_refusal r (operation_of j 0x08) ≡ true) back (at (λ k. same_refusal r (operation_of (start + k) 0x08)) n h (op - start) (omega arith)))

pub refuses_above : (op : ℕ) → 0x1D ≤ op → Err NotListed ≡ operation_of op 0x08
unfolding operation_of
refuses_above op h = rw (← above op (omega arith))

-- at every key below E8, by computation: an ALU operation has an ALU key; what has neither key is refused, whatever the mode
abbrev alu_test : ℕ → Bool
alu_test key = member key alu_keys || is_nothing (alu_at key)

abbrev other_test : ℕ → Bool
other_test key = not (is_nothing (alu_at key)) || (member key other_keys || same_refusal (operation_of (key / 8) 0x08) (operation_of (key / 8) (key % 8)))

alu_computed : below alu_test 0xE8 ≡ true
unfolding alu_at operation_of listed ops
alu_computed = refl

other_computed : below other_test 0xE8 ≡ true
unfolding alu_at operation_of listed ops
other_computed = refl

-- a key that is an arm's is what the arm says, as `alu_at` computes
pub at_alu : {key k : ℕ} → key ≡ k → alu_at k ≡ alu_at key
at_alu e = ap alu_at (sym e)

-- no ALU key: no ALU operation
pub no_alu : (key : ℕ) → member key alu_keys ≡ false → None ≡ alu_at key
unfolding alu_at operation_of
no_alu key h = by (leb key 0xE7) refl
  where
    by : (k : Bool) → leb key 0xE7 ≡ k → None ≡ alu_at key
    by true e =
        nothing (alu_at key) (or_right (member key alu_keys) (is_nothing (alu_at key)) h (at alu_test 0xE8 alu_computed key (omega (arith, leb-true key 0xE7 e))))
    by false e = rw (← above (key / 8) (omega (arith, leb-false key 0xE7 e)))

-- an ALU operation, told by its key
pub alu_named : (n : Decoded) {a : Alu} {w : Width} → Some (a, w) ≡ alu_only n → Ok (OfAlu a w) ≡ n
alu_named (Ok (OfAlu alu v)) {a} {w} e = ap (λ (o : Option (Alu × Width)). let found = unwrap_or o (a, w) in Ok (OfAlu found.0 found.1)) e
alu_named (Ok (OfMultiply m)) e = absurd (let z : ◌≡◌ {A = ℕ} 0 1 = cc in omega arith)
alu_named (Ok (OfDivide m)) e = absurd (let z : ◌≡◌ {A = ℕ} 0 1 = cc in omega arith)
alu_named (Ok (OfDecimal d)) e = absurd (let z : ◌≡◌ {A = ℕ} 0 1 = cc in omega arith)
alu_named (Err why) e = absurd (let z : ◌≡◌ {A = ℕ} 0 1 = cc in omega arith)

pub alu_at_lem : (op mode : ℕ) {a : Alu} {w : Width} → mode ≤ 0x07 → Some (a, w) ≡ alu_at (op * 8 + mode) → Ok (OfAlu a w) ≡ operation_of op mode
unfolding alu_at
alu_at_lem op mode h e = alu_named (operation_of ((op * 8 + mode) / 8) ((op * 8 + mode) % 8)) e ∙ at_key op mode h refl

-- no ALU operation and no other key: refused
pub no_other : (op mode : ℕ) → mode ≤ 0x07 → None ≡ alu_at (op * 8 + mode) → member (op * 8 + mode) other_keys ≡ false
    → operation_of op 0x08 ≡ operation_of op mode
unfolding operation_of
no_other op mode h a o = by (leb op 0x1C) refl
  where
    key : ℕ
    key = op * 8 + mode

    by : (k : Bool) → leb op 0x1C ≡ k → operation_of op 0x08 ≡ operation_of op mode
    by true e =
        let refused = operation_of (key / 8) 0x08 in
        let found = operation_of (key / 8) (key % 8) in
        let t = at other_test 0xE8 other_computed key (omega (arith, leb-true op 0x1C e)) in
        let u = or_right (not (is_nothing (alu_at key))) (member key other_keys || same_refusal refused found) (ap (λ (b : Option (Alu × Width)). not (is_nothing b)) (sym a)) t in
        ap (λ (q : ℕ). operation_of q 0x08) (omega arith) ∙ same refused found (or_right (member key other_keys) (same_refusal refused found) o u) ∙ at_key op mode h refl
    by false e = rw (← above op (leb-false op 0x1C e))

-- ---- the limits

-- what is within its limits is in its ranges
pub in_range_lem : (o : Operation) (f x y : ℕ) → in_limits o f x y ≡ true → InRange o x y
in_range_lem o f x y e =
    let p = both (leb x (x_most o) && leb y (y_most o)) (is_flags f) e in
    let q = both (leb x (x_most o)) (leb y (y_most o)) p.0 in
    (leb-true x (x_most o) q.0, leb-true y (y_most o) q.1)

-- so is what is admitted
pub admitted_in_range : (given : Raw) {j : Judged} {r : Request} → j ≡ judged given → j ≡ Admitted r → InRange r.operation r.x r.y
unfolding judged
admitted_in_range given {r = r} e told = by (operation_of given.op given.mode) (sym told ∙ e)
  where
    tested : (o : Operation) (a : Bool) → in_limits o given.flags given.x given.y ≡ a
        → Admitted r ≡ cond a (Admitted (request_of o given)) TooLarge → InRange r.operation r.x r.y
    tested o true ea e =
        let same : r ≡ request_of o given = cc in
        subst (λ (q : Request). InRange q.operation q.x q.y) (sym same) (in_range_lem o given.flags given.x given.y ea)
    tested o false ea e = let z : ◌≡◌ {A = ℕ} 0 1 = cc in absurd (omega arith)

    by : (n : Decoded) → Admitted r ≡ judged_by n given → InRange r.operation r.x r.y
    by (Ok o) e = tested o (in_limits o given.flags given.x given.y) refl e
    by (Err NotListed) e = let z : ◌≡◌ {A = ℕ} 0 1 = cc in absurd (omega arith)
    by (Err WrongMode) e = let z : ◌≡◌ {A = ℕ} 0 1 = cc in absurd (omega arith)
