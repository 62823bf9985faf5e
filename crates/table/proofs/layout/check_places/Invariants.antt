use Rattle.std.proofs.Common.{◌≡◌, ◌+◌, length}
use Rattle.table.specs.Contents.{count_of, spot, contents}
use Rattle.table.specs.Offences.{misplaced, end_of}
use Rattle.table.proofs.Loops.{left, number}
use Rattle.table.proofs.layout.check_places.Given as goal

abbrev pub invariant-loop-i : goal.invariant-loop-i
invariant-loop-i l =
    (number l.i-iterator + length (left l.i-iterator) ≡ count_of l.table.file.now)
    × (misplaced 0 (spot (count_of l.table.file.now)) (contents l.table.file.now) ≡ misplaced (number l.i-iterator) l.due (left l.i-iterator))
    × (end_of (spot (count_of l.table.file.now)) (contents l.table.file.now) ≡ end_of l.due (left l.i-iterator))
