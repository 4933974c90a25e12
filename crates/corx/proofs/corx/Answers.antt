-- `corx::corx` meets its contract by the laws of the walk. Assumes nothing.
use mathlib.Core.Path.{subst}
use Rattle.std.proofs.Common.{◌≡◌, refl, ℕ, ◌+◌, arith}
use Rattle.corx.proofs.CorxLaws.{multiplier, Walked, jumped, begins_as, next, few_after, ready, ends}
use Rattle.corx.proofs.corx.Goals as goal

pub loop-internal_counter-init : goal.loop-internal_counter-init
loop-internal_counter-init g c =
    let width = g.met.N.Number.is_8_or_16 in (
      0,
      begins_as g.N.Number.BITS _ _ c.args.carry c.args.steps width c.wide.ensures.value (rw (c.BITS.ensures, c.wide-2.ensures.value) refl),
      omega (arith, width, c.BITS-internal_counter.ensures),
    )

pub corx_round-at-requires : goal.corx_round-at-requires
corx_round-at-requires g c =
    let l = c.loop-internal_counter in
    ready g.N.Number.BITS _ _ _ _ _ l.invariant.1 g.met.N.Number.is_8_or_16 (omega (arith, l.invariant.2)) (omega arith) (omega arith)

pub overflow_add-at-in-loop-internal_counter : goal.overflow_add-at-in-loop-internal_counter
overflow_add-at-in-loop-internal_counter g c =
    let l = c.loop-internal_counter in
    omega (arith, few_after g.N.Number.BITS _ _ _ _ _ l.invariant.1 g.met.N.Number.is_8_or_16 (omega (arith, l.invariant.2)) (omega arith) c.corx_round-at.ensures)

pub overflow_add-result : goal.overflow_add-result
overflow_add-result g c =
    let l = c.loop-internal_counter in
    omega (arith, few_after g.N.Number.BITS _ _ _ _ _ l.invariant.1 g.met.N.Number.is_8_or_16 (omega (arith, l.invariant.2)) (omega arith) c.corx_round-at.ensures)

pub loop-internal_counter-preserved : goal.loop-internal_counter-preserved
loop-internal_counter-preserved g c =
    let l = c.loop-internal_counter in
    (l.invariant.0 + 1, next _ _ _ _ _ c.corx_round-at.ensures l.invariant.1, omega (arith, l.invariant.2, c.if-internal_counter-eq0.false))

pub returns : goal.returns
returns g c =
    let n = g.N.Number.BITS in
    let l = c.loop-internal_counter in
    let b = g.N.Number.value c.args.tmpb in
    let m = multiplier n (g.N.Number.value c.args.tmpc) c.args.carry in
    let last = next _ _ _ _ _ c.corx_round-at.ensures l.invariant.1 in
    let all = subst (λ (k : ℕ). Walked b m c.args.steps k (jumped c.corx_round-at.result)) (let e : l.invariant.0 + 1 ≡ n = omega (arith, l.invariant.2, c.if-internal_counter-eq0.true) in e) last in
    ends n _ _ c.args.carry _ _ all (omega arith) (omega arith) (rw c.BITS-then-internal_counter-eq0.ensures at c.cut.ensures) c.cut-then-internal_counter-eq0.ensures
    (omega arith)
