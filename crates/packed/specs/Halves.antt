-- How a string is worked out: each byte is made for either carry into it, and the carry that comes chooses. Assumes nothing.
use Rattle.std.specs.Prelude.{◌≡◌, Bool, true, not, List, [], ◌∷◌, ◌++◌, ℕ, zero, suc, ◌+◌, ◌*◌, ◌≤◌, ◌<◌, eqb, length, get_or}
use Rattle.numbers.specs.Numbers.{bit}
use Rattle.packed.specs.Digits.{all_packed}
use Rattle.packed.specs.Sum.{Operation}
use Rattle.packed.specs.Packed.{Strung, strung, behind}
use Rattle.packed.specs.Byte.{byte_by}

-- operands that are worked out: of one length, at most 32, and digits all of them
pub record Operands (x y : List ℕ) : Type 0 where
  pub alike : length x ≡ length y
  pub few : length x ≤ 32
  pub packed_x : all_packed x ≡ true
  pub packed_y : all_packed y ≡ true

-- where the half that a carry chooses begins
abbrev pub half_of : Bool → ℕ
half_of c = bit c * 32

-- the first n places of either half hold what the rule gives for its carry
abbrev pub InHalves : (Bool → ℕ → ℕ) → ℕ → List ℕ → Type 0
InHalves rule n space = (c : Bool) (i : ℕ) → i < n → get_or space (half_of c + i) 0 ≡ rule c i

-- a work space has two halves of 32 places: for bytes, and for where the half begins that the next byte is taken from
pub record WorkSpace (bytes halves : List ℕ) : Type 0 where
  pub bytes_size : length bytes ≡ 64
  pub halves_size : length halves ≡ 64
  pub within : (k : ℕ) → get_or halves k 0 ≤ 32

-- the first n bytes are made, each for either carry into it
pub record Made (op : Operation) (x y : List ℕ) (n : ℕ) (bytes halves : List ℕ) : Type 0 where
  pub byte_at : InHalves (λ c i. (byte_by op (get_or x i 0) (get_or y i 0) c).byte) n bytes
  pub half_at : InHalves (λ c i. half_of (byte_by op (get_or x i 0) (get_or y i 0) c).carry) n halves
  pub space : WorkSpace bytes halves

-- so many bytes from place i on, beginning in this half; out of the last comes a carry if the half that it names is not the first
unfoldable pub chosen : List ℕ → List ℕ → ℕ → ℕ → ℕ → Strung
chosen bytes halves zero i half = strung [] (not (eqb half 0))
chosen bytes halves (suc n) i half = behind (get_or bytes (half + i) 0 ∷ []) (chosen bytes halves n (suc i) (get_or halves (half + i) 0))

-- bytes with others after them
abbrev pub onto : Strung → List ℕ → Strung
onto s rest = strung (s.bytes ++ rest) s.carry
