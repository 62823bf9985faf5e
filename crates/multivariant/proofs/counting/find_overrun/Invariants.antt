use Rattle.std.proofs.Common.{◌≡◌, ◌+◌, ◌≤◌, [], length, take, drop}
use Rattle.std.specs.Iterator.Adapters.{enumerate_source, enumerate_count}
use Rattle.multivariant.specs.Streams.{streams_of}
use Rattle.multivariant.specs.Views.{streams_left}
use Rattle.multivariant.specs.Offences.{overrun}
use Rattle.multivariant.proofs.counting.find_overrun.Given as goal

abbrev pub invariant-loop-before : goal.invariant-loop-before
invariant-loop-before l =
    (overrun 0 [] (streams_of l.text) ≡ overrun l.pathways (take (enumerate_count l.before-iterator) (streams_of l.text)) (streams_left (enumerate_source l.before-iterator)))
    × (drop (enumerate_count l.before-iterator) (streams_of l.text) ≡ streams_left (enumerate_source l.before-iterator))
    × (l.pathways ≤ enumerate_count l.before-iterator)
    × (enumerate_count l.before-iterator + length (streams_left (enumerate_source l.before-iterator)) ≤ length l.text + 1)
    × (goal.iterator-loop-before).can_next l.before-iterator
    × (goal.iterator-loop-before).is_finite l.before-iterator
