-- `packed::string::work_string` meets its contract: what is chosen of the bytes made for either carry is the string, and a refusal
-- leaves the buffer. Assumes nothing.
use mathlib.Core.Path.{◌≡◌, sym, ap, ◌∙◌}
use Rattle.std.proofs.Common.{rules, Err}
use Rattle.packed.specs.{Sum.operation_of, Packed.Outcome, Packed.left}
use Rattle.packed.proofs.{JudgeLaws.admitted, JudgeLaws.refuses, HalvesLaws.fresh, HalvesLaws.work_done}
use Rattle.packed.proofs.string.work_string.Goals as goal

pub make_both-requires : goal.make_both-requires
make_both-requires g c = record { operands = (admitted _ _ _ (sym c.judge.ensures ∙ c.in_ok-judge.was)).0; work_space = fresh }

pub choose-requires : goal.choose-requires
choose-requires g c =
    let known = admitted _ _ _ (sym c.judge.ensures ∙ c.in_ok-judge.was) in
    record { work_space = c.make_both.ensures.space; size_bound = (known.0.few, known.1) }

pub returns : goal.returns
returns g c =
    let admits = sym c.judge.ensures ∙ c.in_ok-judge.was in
    work_done g.O.Operation.subtracts c.args.x.now c.args.y.now (admitted _ _ _ admits).0 c.make_both.ensures c.args.carry c.args.out.now admits c.choose.ensures

pub returns-in_err-judge : goal.returns-in_err-judge
returns-in_err-judge g c =
    let why : c.from_residual.result ≡ Err c.in_err-judge.field-0.0 = search rules in
    ap (λ (o : Outcome). left o c.args.out.now) why
    ∙ refuses (operation_of g.O.Operation.subtracts) c.args.x.now c.args.y.now c.args.carry c.args.out.now (sym c.judge.ensures ∙ c.in_err-judge.was)
