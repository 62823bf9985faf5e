use Rattle.std.proofs.Common.{◌≡◌}
use Rattle.tags.specs.Lines.{rows_at}
use Rattle.tags.specs.Views.{lines_left}
use Rattle.multivariant.specs.Offences.{is_served}
use Rattle.multivariant.proofs.offences.is_served.Given as goal

abbrev pub invariant-loop-next : goal.invariant-loop-next
invariant-loop-next l = is_served (rows_at l.line.next l.line.waits l.text) ≡ is_served (lines_left l.next-iterator)
