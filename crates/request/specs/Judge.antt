-- The judging of a raw request: 3 op not listed, 4 wrong mode, 5 X or Y too large or a flag outside 08D5, in that order.
-- Assumes nothing.
use Rattle.std.specs.Prelude.{cond, Ok, Err, ℕ}
use Rattle.request.specs.declared.operation.Operation.{Operation}
use Rattle.request.specs.declared.decode.Undecoded.TheVariants.{Unlisted as NotListed, WrongMode as BadMode}
use Rattle.request.specs.Operation.{Decoded, operation_of}
use Rattle.request.specs.Limits.{in_limits}
use Rattle.request.specs.declared.raw.Raw.{Raw}
use Rattle.request.specs.declared.raw.Request.{Request}

-- admitted, or refused with 3, 4 or 5
pub data Judged : Type 0 where
  Admitted : Request → Judged
  Unlisted : Judged
  WrongMode : Judged
  TooLarge : Judged

-- the five together
abbrev pub raw : ℕ → ℕ → ℕ → ℕ → ℕ → Raw
raw op mode flags x y = record { op = op; mode = mode; flags = flags; x = x; y = y }

-- a request in memory
abbrev pub request_of : Operation → Raw → Request
request_of operation r = record { operation = operation; flags = r.flags; x = r.x; y = r.y }

-- status 5 where something is too large
abbrev pub judged_by : Decoded → Raw → Judged
judged_by (Ok operation) r = cond (in_limits operation r.flags r.x r.y) (Admitted (request_of operation r)) TooLarge
judged_by (Err NotListed) r = Unlisted
judged_by (Err BadMode) r = WrongMode

-- by op and mode, then by the limits
unfoldable pub judged : Raw → Judged
judged r = judged_by (operation_of r.op r.mode) r
