-- Addition and subtraction of packed decimal strings: what is answered, and what is left in the buffer for the result. Assumes nothing.
use Rattle.std.specs.Prelude.{Bool, Result, Ok, Err, List, ◌++◌, ℕ, ◌*◌, ◌^◌, length, drop}
use Rattle.packed.specs.Digits.{number_of, bytes_of}
use Rattle.packed.specs.Sum.{Operation}
use Rattle.packed.specs.Judge.{Judged, judged}
use Rattle.packed.specs.declared.judge.Refusal.{Refusal}

-- packed bytes, and a carry or borrow out of the last
pub record Strung : Type 0 where
  pub bytes : List ℕ
  pub carry : Bool

-- the two together
abbrev pub strung : List ℕ → Bool → Strung
strung bytes carry = record { bytes = bytes; carry = carry }

-- bytes with others before them
abbrev pub behind : List ℕ → Strung → Strung
behind bytes rest = strung (bytes ++ rest.bytes) rest.carry

-- the operation on the numbers of 2 l digits that the operands, of l bytes each, stand for
unfoldable pub string_by : Operation → List ℕ → List ℕ → Bool → Strung
string_by op x y c =
    let worked = op (10 ^ (2 * length x)) (number_of x) (number_of y) c in strung (bytes_of (length x) worked.number) worked.carry

-- the carry or borrow out of the last byte, or why nothing was written
abbrev pub Outcome : Type 0
Outcome = Result Bool Refusal

-- what is left: the outcome, and the bytes of the buffer
pub record Left : Type 0 where
  pub outcome : Outcome
  pub buffer : List ℕ

-- the two together
abbrev pub left : Outcome → List ℕ → Left
left outcome buffer = record { outcome = outcome; buffer = buffer }

-- the result's bytes, and what stood after them; a refusal writes nothing
abbrev pub left_by : Judged → Strung → List ℕ → Left
left_by (Ok done) result out = left (Ok result.carry) (result.bytes ++ drop (length result.bytes) out)
left_by (Err why) result out = left (Err why) out

-- operands, carry or borrow, and the buffer as it was
unfoldable pub packed_by : Operation → List ℕ → List ℕ → Bool → List ℕ → Left
packed_by op x y c out = left_by (judged x y (length out)) (string_by op x y c) out
