use Rattle.std.proofs.Common.{◌≡◌, ◌+◌, ◌≤◌, length, drop}
use Rattle.table.specs.Contents.{count_of, contents}
use Rattle.table.specs.Offences.{overrun}
use Rattle.table.specs.Parts.{entries_left}
use Rattle.table.proofs.Loops.{left, number}
use Rattle.table.proofs.sense.check_counts.Given as goal

abbrev pub invariant-loop-i : goal.invariant-loop-i
invariant-loop-i l =
    (number l.i-iterator + length (left l.i-iterator) ≡ count_of l.table.file.now)
    × (l.tally.ids ≤ number l.i-iterator)
    × (l.tally.members ≤ number l.i-iterator)
    × (entries_left l.ahead ≡ drop 1 (left l.i-iterator))
    × (overrun 0 0 0 (contents l.table.file.now) ≡ overrun l.tally.ids l.tally.members (number l.i-iterator) (left l.i-iterator))
