-- `flags::word::Flags::from_word` meets its contract: a mask of one bit tests that bit. Assumes nothing.
use Rattle.flags.specs.Word.{flags_of}
use Rattle.numbers.proofs.Masks.{mask_bit}
use Rattle.flags.proofs.word.Flags.from_word.Goals as goal

pub returns : goal.returns
unfolding flags_of
returns c =
    let w = c.args.word in
    λ i. record {
      carry = mask_bit 0 w i;
      parity = mask_bit 2 w i;
      aux_carry = mask_bit 4 w i;
      zero = mask_bit 6 w i;
      sign = mask_bit 7 w i;
      overflow = mask_bit 11 w i;
    }
