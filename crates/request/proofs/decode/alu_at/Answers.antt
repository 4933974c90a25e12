-- `request::decode::alu_at` meets its contract: an arm for each key, and the last for a key of none. Assumes nothing.
use Rattle.request.specs.Operation.{ops, listed, operation_of, alu_at}
use Rattle.request.proofs.{RequestLaws.alu_keys, RequestLaws.none_of, RequestLaws.no_alu}
use Rattle.request.proofs.decode.alu_at.Goals as goal

pub returns-in_default : goal.returns-in_default
unfolding alu_at operation_of listed ops
returns-in_default c = no_alu c.args.key (none_of (Unit {0}) c.args.key alu_keys c.in_default.in_default-own.rest)
