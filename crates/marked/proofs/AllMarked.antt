-- Every marked example is answered what the scope says: one statement over the whole list, by computation.
-- Assumes nothing.
use mathlib.Core.{Path.◌≡◌, Path.refl, Bool.xor, List.map}
use lib.Count.{ones, ones_in}
use Rattle.numbers.specs.Numbers.{signed, fits_signed, wrapped}
use Rattle.flags.specs.{Word.word_of, Word.flags_of, Word.is_flags, Parity.even_ones, Szp.szp}
use Rattle.alu.specs.{Sum.adc, Sum.sbb, Step.left, Step.right, Step.step, Step.steps, Shift.leftward, Shift.rightward, Shift.downward}
use Rattle.multiply.specs.Multiply.{multiply}
use Rattle.cord.specs.Cord.{road, tally, last_compare}
use Rattle.divide.specs.{Flags.compare_flags, Divide.refusal_of, Divide.divide}
use Rattle.bcd.specs.{Ascii.ascii, Ascii.aaa_of, Decimal.decimal, Decimal.daa_of}
use Rattle.request.specs.{Operation.ops, Operation.listed, Operation.operation_of, Judge.judged}
use Rattle.answer.specs.{Charted.charted, Asked.asked}
use Rattle.roads.specs.Told.{roads_told}
use Rattle.marked.specs.Marked.{Marked, marked}

pub all_marked : map (λ (m : Marked). m.tells m.request) marked ≡ map (λ (m : Marked). m.says) marked
unfolding word_of flags_of is_flags signed fits_signed wrapped adc sbb left right step steps leftward rightward downward xor road tally last_compare compare_flags refusal_of divide multiply ones ones_in ascii aaa_of decimal daa_of even_ones szp ops listed operation_of judged charted asked roads_told
all_marked = refl
