use Rattle.std.proofs.Common.{◌≡◌, ◌+◌, length, None}
use Rattle.table.specs.Contents.{count_of, contents}
use Rattle.table.specs.Offences.{disordered}
use Rattle.table.proofs.Loops.{left, number}
use Rattle.table.proofs.sense.check_order.Given as goal

abbrev pub invariant-loop-i : goal.invariant-loop-i
invariant-loop-i l =
    (number l.i-iterator + length (left l.i-iterator) ≡ count_of l.table.file.now)
    × (disordered None 0 (contents l.table.file.now) ≡ disordered l.before (number l.i-iterator) (left l.i-iterator))
