-- Demand 1: which raw requests are refused divides, and what they are answered. Assumes nothing.
use Rattle.std.specs.Prelude.{◌≡◌, true, ◌+◌, ◌^◌, ◌≤◌, ◌<◌}
use Rattle.std.specs.Int.Bits.{bit_and}
use Rattle.numbers.specs.Numbers.{is_set}
use Rattle.flags.specs.Word.{word_of, flags_of}
use Rattle.divide.specs.Divide.{applies, refused_flags, refused_steps}
pub use Rattle.divide.specs.declared.div.Refusal.{Refusal}
pub use Rattle.divide.specs.declared.div.Refusal.TheVariants.{ZeroDivisor, TooWide, SignRange}
use Rattle.answer.specs.Charted.{refusal_status}
use Rattle.answer.specs.Asked.{Raw}
use Rattle.answer.specs.Table.{width_by}
use Rattle.answer.specs.declared.answer.Answer.{Answer}

-- a divide, its operands in their limits and no flag outside 08D5, to which a reason to refuse it applies. Bit 0 of the mode is its width,
-- bit 1 its sign rule, bit 2 REP
pub record RefusedDivide (why : Refusal) (r : Raw) : Type 0 where
  pub op : r.op ≡ 0x11
  pub mode : r.mode ≤ 0x07
  pub dividend : r.x < 2 ^ (width_by r.mode + width_by r.mode)
  pub divisor : r.y < 2 ^ width_by r.mode
  pub flags : bit_and r.flags 0x08D5 ≡ r.flags
  pub reason : applies why (width_by r.mode) (is_set 1 r.mode) r.x r.y ≡ true

-- the status that tells why, 6, 8 or 9; the chart's flags and steps, and no result
abbrev pub refusal : Refusal → Raw → Answer
refusal why r =
    record {
      status = refusal_status why;
      flags = word_of (refused_flags (width_by r.mode) (is_set 1 r.mode) r.x r.y (flags_of r.flags));
      steps = refused_steps (width_by r.mode) (is_set 1 r.mode) r.x r.y;
      r = 0;
      s = 0;
    }
