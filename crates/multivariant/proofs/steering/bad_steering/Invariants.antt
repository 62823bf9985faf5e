use Rattle.std.proofs.Common.{◌≡◌, false, length}
use Rattle.tags.specs.Lines.{rows_of}
use Rattle.tags.specs.Views.{lines_left}
use Rattle.multivariant.specs.Offences.{bad_steering}
use Rattle.multivariant.proofs.steering.bad_steering.Given as goal

abbrev pub invariant-loop-line : goal.invariant-loop-line
invariant-loop-line l =
    bad_steering (length l.text) false (rows_of l.text) ≡ bad_steering (length l.text) l.seen (lines_left l.line-iterator)
