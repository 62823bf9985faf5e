-- Seconds in milliseconds, and a moment after a wait. Assumes nothing.
use Rattle.std.specs.Prelude.{ℕ, ◌+◌, ◌-◌, ◌*◌, ◌^◌, min}
use Rattle.terms.specs.declared.time.Seconds.{Seconds}
use Rattle.terms.specs.declared.time.Moment.{Moment}

abbrev pub milliseconds : Seconds → ℕ
milliseconds s = s.0 * 1000

-- the sum, or the last number of 64 bits where the sum passes it
abbrev pub later : Moment → Seconds → Moment
later m s = record { 0 = min (m.0 + milliseconds s) (2 ^ 64 - 1) }
