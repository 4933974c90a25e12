-- What makes a contract tight, whatever function it is of. Assumes nothing.
use mathlib.Core.{Path.◌≡◌, Path.sym, Path.subst, Path.◌∙◌, List.List, Logic.∥∥₁_map}
use Prim.Native.Nat.{ℕ, ◌<◌}
use seplogic.Ra.Ura.{Ura}
use base.Logic.{SProp, ent, sep, via}
use contract.Monad.{conj, conj_l, conj_r, conj_mono, sep→conj, fact, fact_i, fact_use}
use lib.Seq.{ext_get_or}
use Rattle.numbers.specs.Table.{Holds}

-- what follows from two facts follows from them in the logic of contracts
pub plainly : {M : Type 1} (𝓤 : Ura M) {A B C : Type 0} → (A → B → C) → ent 𝓤 (conj 𝓤 (fact 𝓤 A) (fact 𝓤 B)) (fact 𝓤 C)
plainly 𝓤 {A} {B} {C} h =
    let both : SProp 𝓤 = conj 𝓤 (fact 𝓤 A) (fact 𝓤 B) in
    fact_use 𝓤 A (conj_l 𝓤 (fact 𝓤 A) (fact 𝓤 B)) (λ a. fact_use 𝓤 B (conj_r 𝓤 (fact 𝓤 A) (fact 𝓤 B)) (λ b. fact_i 𝓤 C both (h a b)))

-- the same of a contract with two clauses: A and P are what they say of one answer, B and Q of the other
pub by_both : {M : Type 1} (𝓤 : Ura M) (A P B Q : Type 0) {C : Type 0} → (A × P → B × Q → C)
    → ent 𝓤 (conj 𝓤 (sep 𝓤 (fact 𝓤 A) (fact 𝓤 P)) (sep 𝓤 (fact 𝓤 B) (fact 𝓤 Q))) (fact 𝓤 C)
by_both 𝓤 A P B Q h =
    via 𝓤 (conj 𝓤 (fact 𝓤 (A × P)) (fact 𝓤 (B × Q))) (conj_mono 𝓤 (one A P) (one B Q)) (plainly 𝓤 h)
  where
    one : (X Y : Type 0) → ent 𝓤 (sep 𝓤 (fact 𝓤 X) (fact 𝓤 Y)) (fact 𝓤 (X × Y))
    one X Y = via 𝓤 (conj 𝓤 (fact 𝓤 X) (fact 𝓤 Y)) (sep→conj 𝓤 (fact 𝓤 X) (fact 𝓤 Y)) (plainly 𝓤 (λ x y. (x, y)))

-- and back: a law of this crate says of the answers themselves what it says in that logic, where the contract is a plain fact
pub read_plainly : {M : Type 1} (𝓤 : Ura M) {A B C : Type 0} → ent 𝓤 (conj 𝓤 (fact 𝓤 A) (fact 𝓤 B)) (fact 𝓤 C) → A → B → ∥ C ∥₁
read_plainly 𝓤 h a b = ∥∥₁_map (h.apply 𝓤.one (∣ (a, tt) ∣₁, ∣ (b, tt) ∣₁)) (λ t. t.0)

-- a contract `r ≡ f x`
pub same : {A : Type 0} {f r s : A} → r ≡ f → s ≡ f → r ≡ s
same e d = e ∙ sym d

-- a view that loses nothing: two values that it shows alike are one
abbrev pub Faithful : {A B : Type 0} → (A → B) → Type 0
Faithful {A} view = (r s : A) → view r ≡ view s → r ≡ s

-- a contract `view r ≡ f x`
pub through : {A B : Type 0} {view : A → B} → Faithful view → {f : B} {r s : A} → view r ≡ f → view s ≡ f → r ≡ s
through faithful {f} {r} {s} e d = faithful r s (e ∙ sym d)

-- a contract that names a table's rule at every place
pub one_table : {rule-of : ℕ → ℕ} {places : ℕ} {r s : List ℕ} → Holds rule-of places r → Holds rule-of places s → r ≡ s
one_table {rule-of} {places} {r} {s} h k =
    ext_get_or 0 r s (h.size ∙ sym k.size) (λ i b. let c = subst (λ (n : ℕ). i < n) h.size b in h.rule i c ∙ sym (k.rule i c))
