-- A round of CORX as the code makes it: the product stays in place and the addend shifts left. Over any width. Assumes nothing.
use Rattle.std.specs.Prelude.{◌+◌, ◌*◌, ◌/◌, ◌%◌}
use Rattle.corx.specs.declared.AddRound.{AddRound}

-- it adds if the multiplier's lowest bit is 1; the addend shifts left by one, and the multiplier right. 5 steps, and 1 more if it adds
unfoldable pub add_round : AddRound → AddRound
add_round s =
    record {
      product = s.product + s.addend * (s.multiplier % 2);
      addend = s.addend * 2;
      multiplier = s.multiplier / 2;
      steps = s.steps + 5 + s.multiplier % 2;
    }
