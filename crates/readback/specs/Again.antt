-- A record written again, and a line in capitals. Assumes nothing.
use Rattle.std.specs.Prelude.{cond, List, [], ◌∷◌, ℕ, ◌-◌, ◌<◌, take}
use Rattle.numbers.specs.Numbers.{between}
use Rattle.line.specs.One.{text_by}
use Rattle.answer.specs.declared.answer.Answer.{Answer}

-- a to f become A to F, and any other byte stays
abbrev pub capital : ℕ → ℕ
capital b = cond (between 0x61 0x66 b) (b - 0x20) b

-- every byte of a line
abbrev pub capitals : List ℕ → List ℕ
capitals [] = []
capitals (b ∷ line) = capital b ∷ capitals line

-- the 18 digits of a record, without their line feed
abbrev pub line_of : Answer → List ℕ
line_of a = take 18 (text_by a)

-- the types of a record's fields: 16 bits each, and 8 of the status
pub record Typed (a : Answer) : Type 0 where
  pub status : a.status < 0x100
  pub flags : a.flags < 0x1_0000
  pub steps : a.steps < 0x1_0000
  pub r : a.r < 0x1_0000
  pub s : a.s < 0x1_0000
