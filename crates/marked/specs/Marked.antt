-- The scope's marked examples, in its order: a request, what the scope tells of its answer, and what it says. An example says as much as
-- the scope does: the status, and a result, a flags word, a single flag or the steps. M7 and M8, two divides
-- with one quotient whose steps differ, also say by which road its one came. Assumes nothing.
use Rattle.std.specs.Prelude.{List, [], ◌∷◌, ℕ}
use Rattle.numbers.specs.Numbers.{bit, is_set}
use Rattle.answer.specs.Asked.{Raw, raw, asked}
use Rattle.answer.specs.declared.answer.Answer.{Answer}
use Rattle.roads.specs.Told.{roads_told}

-- an example; a request is op, mode, flags, X and Y
pub record Marked : Type 0 where
  pub request : Raw
  pub tells : Raw → List ℕ
  pub says : List ℕ

-- of the answer to a request
abbrev of_answer : (Answer → List ℕ) → Raw → List ℕ
of_answer tells r = tells (asked r)

-- a result and the flags word
abbrev result : Raw → List ℕ
result = of_answer (λ a. a.status ∷ a.r ∷ a.flags ∷ [])

-- a product and its steps
abbrev product : Raw → List ℕ
product = of_answer (λ a. a.status ∷ a.r ∷ a.steps ∷ [])

-- quotient, remainder and steps
abbrev divided : Raw → List ℕ
divided = of_answer (λ a. a.status ∷ a.r ∷ a.s ∷ a.steps ∷ [])

-- the same, and the quotient's ones by a bit shifted out and by no borrow
abbrev divided_by_roads : Raw → List ℕ
divided_by_roads r = let a = asked r in a.status ∷ a.r ∷ a.s ∷ a.steps ∷ (roads_told r.mode r.x r.y).roads

-- a refusal, its flags word and its steps
abbrev refused : Raw → List ℕ
refused = of_answer (λ a. a.status ∷ a.flags ∷ a.steps ∷ [])

-- one flag, by its bit: C is 0 and Z is 6
abbrev flag : ℕ → Raw → List ℕ
flag k = of_answer (λ a. a.status ∷ bit (is_set k a.flags) ∷ [])

-- a result and one flag
abbrev result_and_flag : ℕ → Raw → List ℕ
result_and_flag k = of_answer (λ a. a.status ∷ a.r ∷ bit (is_set k a.flags) ∷ [])

-- the list
abbrev pub marked : List Marked
marked =
    -- M1: ADC8 FF + 00 with C is 00, C A
    record { request = raw 0x01 0x00 0x0001 0xFF 0x00; tells = result; says = 0 ∷ 0x00 ∷ 0x0011 ∷ [] }
    -- M2: SBB8 00 - FF with C is 00, C A
    ∷ record { request = raw 0x03 0x00 0x0001 0x00 0xFF; tells = result; says = 0 ∷ 0x00 ∷ 0x0011 ∷ [] }
    -- M3: RCL8 80 by 0 with C is 80, C
    ∷ record { request = raw 0x0A 0x00 0x0001 0x80 0; tells = result; says = 0 ∷ 0x80 ∷ 0x0001 ∷ [] }
    -- M4: SHL8 01 by 8 is 00, C O; by 9 C is clear
    ∷ record { request = raw 0x05 0x00 0x0000 0x01 8; tells = result; says = 0 ∷ 0x00 ∷ 0x0801 ∷ [] }
    ∷ record { request = raw 0x05 0x00 0x0000 0x01 9; tells = flag 0; says = 0 ∷ 0 ∷ [] }
    -- M5: signed 80 x 80 is 4000 in 78 steps; under REP C000 in 89
    ∷ record { request = raw 0x10 0x02 0x0000 0x80 0x80; tells = product; says = 0 ∷ 0x4000 ∷ 78 ∷ [] }
    ∷ record { request = raw 0x10 0x06 0x0000 0x80 0x80; tells = product; says = 0 ∷ 0xC000 ∷ 89 ∷ [] }
    -- M6: unsigned FF x FF is FE01 in 74 steps
    ∷ record { request = raw 0x10 0x00 0x0000 0xFF 0xFF; tells = product; says = 0 ∷ 0xFE01 ∷ 74 ∷ [] }
    -- M7 and M8: 00FF / FF is 1 r 0 in 80 steps, 0100 / C8 is 1 r 38 in 79. The one of the first came by no borrow, which takes a step more,
    -- that of the second by a bit shifted out
    ∷ record { request = raw 0x11 0x00 0x0000 0x00FF 0xFF; tells = divided_by_roads; says = 0 ∷ 0x01 ∷ 0x00 ∷ 80 ∷ 0 ∷ 1 ∷ [] }
    ∷ record { request = raw 0x11 0x00 0x0000 0x0100 0xC8; tells = divided_by_roads; says = 0 ∷ 0x01 ∷ 0x38 ∷ 79 ∷ 1 ∷ 0 ∷ [] }
    -- M9: signed FF81 / 01 is 81 r 0 in 111 steps; FF80 / 01 is refused for sign range after 95, A P
    ∷ record { request = raw 0x11 0x02 0x0000 0xFF81 0x01; tells = divided; says = 0 ∷ 0x81 ∷ 0x00 ∷ 111 ∷ [] }
    ∷ record { request = raw 0x11 0x02 0x0000 0xFF80 0x01; tells = refused; says = 9 ∷ 0x0014 ∷ 95 ∷ [] }
    -- M10: signed FFF9 / 02 is FD r FF, and FFF5 / 03 is FD r FE, both in 106 steps
    ∷ record { request = raw 0x11 0x02 0x0000 0xFFF9 0x02; tells = divided; says = 0 ∷ 0xFD ∷ 0xFF ∷ 106 ∷ [] }
    ∷ record { request = raw 0x11 0x02 0x0000 0xFFF5 0x03; tells = divided; says = 0 ∷ 0xFD ∷ 0xFE ∷ 106 ∷ [] }
    -- M11: AAA of 00FA with A clear is 0100, with Z set
    ∷ record { request = raw 0x18 0x00 0x0000 0x00FA 0; tells = result_and_flag 6; says = 0 ∷ 0x0100 ∷ 1 ∷ [] }
    -- M12: DAA of 9A with C clear: with A set A0 and C clear, with A clear 00 and C
    ∷ record { request = raw 0x1B 0x00 0x0010 0x009A 0; tells = result_and_flag 0; says = 0 ∷ 0x00A0 ∷ 0 ∷ [] }
    ∷ record { request = raw 0x1B 0x00 0x0000 0x009A 0; tells = result_and_flag 0; says = 0 ∷ 0x0000 ∷ 1 ∷ [] }
    ∷ []
