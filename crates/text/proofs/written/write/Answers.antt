-- `text::written::write` meets its contract: 19 stores side by side. Assumes nothing.
use mathlib.Core.{Path.◌≡◌, List.List, List.◌++◌}
use Prim.Native.Nat.{ℕ, ◌≤◌, ◌/◌, ◌%◌}
use lib.{ListN.length, ListN.set, ListN.drop, Seq.sets, Seq.sets-eq}
use Rattle.text.specs.{Digits.capital_of, Written.four, Written.written}
use Rattle.text.proofs.written.write.Goals as goal

-- what stands after each group, and at the end
stored : (letter : ℕ → ℕ) (status flags steps r s : ℕ) (out : List ℕ) {a b : ℕ} {upTo10 upTo18 : List ℕ}
    → 19 ≤ length out
    → a ≡ letter (status / 16)
    → b ≡ letter (status % 16)
    → upTo10 ≡ sets (set (set out 0 a) 1 b) 2 (four letter flags ++ four letter steps)
    → upTo18 ≡ sets upTo10 10 (four letter r ++ four letter s)
    → set upTo18 18 0x0A ≡ written letter status flags steps r s ++ drop 19 out
unfolding written
stored letter status flags steps r s out h ea eb e10 e18 =
    rw (e18, e10, ea, eb) (sets-eq (written letter status flags steps r s) out 0 h)

pub returns : goal.returns
returns c =
    stored capital_of c.args.status c.args.flags c.args.steps c.args.r c.args.s c.args.out.now c.requires
    c.capital.ensures
    c.capital-2.ensures
    c.put_eight.ensures
    c.put_eight-2.ensures
