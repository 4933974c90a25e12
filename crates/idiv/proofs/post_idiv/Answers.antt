-- `idiv::post_idiv` meets its contract: refused without the carry, and else both signs. Assumes nothing.
use Rattle.cord.specs.Views.{results}
use Rattle.idiv.proofs.{IdivLaws.post_refuses, IdivLaws.post_accepts}
use Rattle.idiv.proofs.post_idiv.Goals as goal

pub returns-then-not-carry : goal.returns-then-not-carry
returns-then-not-carry g c = post_refuses g.N.Number.BITS _ _ _ _ c.if-not-carry.true

pub returns : goal.returns
returns g c =
    let n = g.N.Number in
    post_accepts n.BITS (results n.value c.args.magnitudes) _ _ _ c.if-not-carry.false c.with_sign.ensures c.top_set.ensures c.with_sign-2.ensures
