-- What a generic function of the libraries is a function over: the numbers of one width. Assumes nothing: these are definitions.
use Rattle.std.specs.Prelude.{◌≡◌, ℕ}
use denote.RattleType.{RattleType}
use denote.Builtin.{u8, u16}
use mir.Syntax.{Dict}
use Rattle.std.specs.declared.clone.Clone as Clone
use Rattle.flags.specs.declared.number.Number as Number

-- a type; what the trait `Number` says of it, and that no two of its values stand for one number, which is a law of the trait; its methods;
-- and how it is copied
pub record Numbers : Type 1 where
  pub N : RattleType
  pub number : Number.Ghosts N.Denot
  pub faithful : (x y : N.Denot) → number.value x ≡ number.value y → x ≡ y
  pub methods : Dict
  pub clone : Clone.Ghosts N.Denot
  pub cloning : Dict

-- bytes are such, each standing for itself
abbrev pub bytes : Dict → Clone.Ghosts ℕ → Dict → Numbers
bytes methods clone cloning =
    record {
      N = u8;
      number = record { BITS = 8; TOP = 0x80; MAX = 0xFF; value = λ x. x };
      faithful = λ x y e. e;
      methods = methods;
      clone = clone;
      cloning = cloning;
    }

-- and words
abbrev pub words : Dict → Clone.Ghosts ℕ → Dict → Numbers
words methods clone cloning =
    record {
      N = u16;
      number = record { BITS = 16; TOP = 0x8000; MAX = 0xFFFF; value = λ x. x };
      faithful = λ x y e. e;
      methods = methods;
      clone = clone;
      cloning = cloning;
    }
