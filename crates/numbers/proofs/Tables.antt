-- A rule of a table, held by all of its entries: one test that is computed over the whole table, and the law that carries it to each index.
-- Assumes nothing.
use mathlib.Core.{Path.◌≡◌, Path.sym, Path.ap, Path.subst⁻¹, Path.◌∙◌, Bool.Bool, Bool.true, Bool.false, Bool.◌&&◌, List.List, List.[], List.◌∷◌}
use Prim.Native.Nat.{ℕ, zero, suc, ◌+◌, ◌<◌}
use native.Mathlib.Nat.{add-zero, zero-add, add-suc, suc-add, le_of_suc-le-suc, not-suc-le-zero}
use lib.{Dec.T, Dec.eqb, Dec.eqb→eq, ListN.length, ListN.get_or}
use Rattle.numbers.specs.Table.{Holds}

-- each entry is the rule's value at its place, places counted from i
abbrev pub ruled : (ℕ → ℕ) → ℕ → List ℕ → Bool
ruled f i [] = true
ruled f i (x ∷ xs) = eqb x (f i) && ruled f (suc i) xs

left : (a b : Bool) → T (a && b) → T a
left true b t = tt
left false b t = t

right : (a b : Bool) → T (a && b) → T b
right true b t = t
right false b t = absurd t

from : (f : ℕ → ℕ) (xs : List ℕ) (i : ℕ) → T (ruled f i xs) → (k : ℕ) → k < length xs → get_or xs k 0 ≡ f (i + k)
from f [] i t k h = absurd (not-suc-le-zero h)
from f (x ∷ xs) i t zero h = eqb→eq x (f i) (left (eqb x (f i)) (ruled f (suc i) xs) t) ∙ ap f (sym (add-zero i))
from f (x ∷ xs) i t (suc k) h =
    from f xs (suc i) (right (eqb x (f i)) (ruled f (suc i) xs) t) k (le_of_suc-le-suc h) ∙ ap f (suc-add i k ∙ sym (add-suc i k))

entry : (f : ℕ → ℕ) (xs : List ℕ) → T (ruled f 0 xs) → (k : ℕ) → k < length xs → get_or xs k 0 ≡ f k
entry f xs t k h = from f xs 0 t k h ∙ ap f (zero-add k)

-- a table that passes the test holds its rule
pub held : {f : ℕ → ℕ} {n : ℕ} {table : List ℕ} → T (ruled f 0 table) → length table ≡ n → Holds f n table
held {f} {n} {table} t e = record { size = e; rule = λ k h. entry f table t k (subst⁻¹ (λ (m : ℕ). k < m) e h) }
