-- `request::decode::decode` meets its contract: each arm is what its key names, and what has none is refused. Assumes nothing.
use mathlib.Core.Path.{sym, ◌∙◌}
use Prim.Native.Nat.{◌+◌, ◌*◌}
use Rattle.request.specs.Operation.{ops, listed, operation_of}
use Rattle.request.proofs.RequestLaws.{wrong_mode_lem, alu_at_lem, other_keys, none_of, no_other}
use Rattle.request.proofs.decode.decode.Goals as goal

pub returns-in-Some : goal.returns-in-Some
returns-in-Some c =
    alu_at_lem c.args.op c.args.mode c.if-mode-gt7.false (sym c.in-Some.is ∙ c.alu_at.ensures)

pub returns-in_default-key : goal.returns-in_default-key
returns-in_default-key c =
    c.refused-in_default-key.ensures
    ∙ no_other c.args.op c.args.mode c.if-mode-gt7.false (sym c.in_default.is ∙ c.alu_at.ensures)
    (none_of (Unit {0}) (c.args.op * 8 + c.args.mode) other_keys c.in_default-key.in_default-key-own.rest)

pub returns-then-mode-gt7 : goal.returns-then-mode-gt7
unfolding operation_of listed ops
returns-then-mode-gt7 c = c.refused.ensures ∙ wrong_mode_lem c.args.op c.args.mode c.if-mode-gt7.true
