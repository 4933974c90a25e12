-- `program::input::keep_front` meets its contract: the bytes are moved. Assumes nothing.
use Rattle.std.proofs.Common.{◌≡◌, ◌-◌, rules}
use Rattle.blocks.proofs.Front.{at_front}
use Rattle.program.proofs.input.keep_front.Goals as goal

pub returns-clause-front : goal.returns-clause-front
returns-clause-front c =
    let a = c.args in
    let count : c.len.result ≡ a.kept.end - a.kept.start = search rules in
    rw count (at_front a.buffer.now c.keep.new.buffer a.kept.start a.kept.end c.requires.0 c.requires.1 c.keep.ensures)
