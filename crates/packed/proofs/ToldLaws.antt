-- What is told of what is left. Assumes nothing.
use mathlib.Core.{Path.◌≡◌, Path.◌∙◌, Bool.Bool, List.List}
use Prim.Native.Nat.{ℕ}
use Rattle.packed.specs.{Sum.Operation, Packed.left, Packed.packed_by, Told.status_of, Told.carry_left, Told.told, Told.told_by, Packed.Outcome}

pub tells : (op : Operation) (x y : List ℕ) (c : Bool) (out : List ℕ) (was : ℕ) {outcome : Outcome} {buffer : List ℕ} {status carry : ℕ}
    → left outcome buffer ≡ packed_by op x y c out → status ≡ status_of outcome → carry ≡ carry_left outcome was
    → told status buffer carry ≡ told_by op x y c out was
tells op x y c out was {outcome} {buffer} e s k =
    (λ i. told (s i) buffer (k i)) ∙ (λ i. told (status_of (e i).outcome) (e i).buffer (carry_left (e i).outcome was))
