-- A table of a rule. Assumes nothing.
use Rattle.std.specs.Prelude.{◌≡◌, List, ℕ, ◌<◌, length, get_or}

-- so many entries, each the rule at its own place
pub record Holds (rule-of : ℕ → ℕ) (places : ℕ) (table : List ℕ) : Type 0 where
  pub size : length table ≡ places
  pub rule : (k : ℕ) → k < places → get_or table k 0 ≡ rule-of k
