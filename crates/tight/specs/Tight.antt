-- When a contract is tight: of a call, it allows one answer alone. It is said of the clauses that the kit generates from a function's `requires` and `ensures`.
-- Assumes nothing: these are definitions.
use Rattle.std.specs.Prelude.{◌≡◌, List}
use seplogic.Ra.Ura.{Ura}
use mir.Val.{Val}
use base.Logic.{SProp, ent}
use prog.Memory.{Memory}
use prog.Routine.{Routine}
use types.Logic.{Logic}
use contract.Lifetimes.{Lfts}
use contract.Monad.{Fun, conj, fact}
use denote.Exit.{yes}
use denote.Laws.{Is}
use denote.Signature.{Signature, type_at}
use denote.Triple.Clauses.{Clauses, ClausesAt, Ended, Lasts, at_exit}
use denote.Triple.End.{all}
use denote.Triple.Entry.{Args, Res}

-- a signature, where the contract speaks of the last value of whatever is lent mutably, leaving none out
abbrev pub ends : Signature → Ended
ends S = record { signature = S; kept = all yes S.params }

-- a function's clauses: one pair, `requires` and `ensures`, for each call. E names the signature, and of which parameters the contract
-- speaks of what is lent last
abbrev pub ContractAt : Type 1 → Ended → Type 2
ContractAt M E = (𝓤 : Ura M) (𝓛 : Logic 𝓤) → (Memory → SProp 𝓤) → (Routine → Fun 𝓤) → Clauses 𝓤 E

-- of all of them
abbrev pub Contract : Type 1 → Signature → Type 2
Contract M S = ContractAt M (ends S)

-- a call: a model of the logic, in which the clauses are read; the lifetimes of what is lent; and the arguments
pub record Call (M : Type 1) (S : Signature) : Type 2 where
  pub 𝓤 : Ura M
  pub 𝓛 : Logic 𝓤
  pub mem : Memory → SProp 𝓤
  pub run : Routine → Fun 𝓤
  pub κs : Lfts S.lifetimes
  pub args : Args S κs

-- an answer to it: a result, which some machine words stand for as its type says; and the last value of whatever is lent mutably
pub record Answer {M : Type 1} (E : Ended) (c : Call M E.signature) : Type 0 where
  pub result : Res E.signature c.κs
  pub words : List Val
  pub typed : Is (type_at E.signature.result c.κs) result words
  pub left : Lasts E c.κs c.args

module _ (M : Type 1) (E : Ended) (f : ContractAt M E) where
  -- the contract at a call
  abbrev at : (c : Call M E.signature) → ClausesAt c.𝓤 E c.κs
  at c = f c.𝓤 c.𝓛 c.mem c.run c.κs c.args

  -- what its `ensures` says of an answer. g is what a contract may bind for both clauses; the contracts here bind nothing
  abbrev allows : (c : Call M E.signature) → (at c).ghost → Answer E c → SProp c.𝓤
  allows c g r = (at c).ensures g r.result (at_exit E c.κs c.args r.left)

  -- two answers that it allows to one call have the same result, and leave the same in whatever is lent mutably. The `requires` is not used
  abbrev pub TightAt : Type 2
  TightAt =
      (c : Call M E.signature) (g : (at c).ghost) (r s : Answer E c)
      → ent c.𝓤 (conj c.𝓤 (allows c g r) (allows c g s)) (fact c.𝓤 ((r.result ≡ s.result) × (r.left ≡ s.left)))

-- a contract that speaks of all that is lent
abbrev pub Tight : (M : Type 1) (S : Signature) → Contract M S → Type 2
Tight M S = TightAt M (ends S)
