use Rattle.std.proofs.Common.{◌≡◌, ◌≤◌, length, IfSome}
use Rattle.tags.specs.Views.{lines_left, whole}
use Rattle.multivariant.specs.Streams.{streams_in}
use Rattle.multivariant.specs.Views.{tag_row, streams_left, StandsIn}
use Rattle.multivariant.proofs.streams.StreamsIterator.next.Given as goal

abbrev pub invariant-loop-line : goal.invariant-loop-line
invariant-loop-line l =
    (streams_left l.fn.self ≡ streams_in (tag_row l.tag) (lines_left l.self.lines))
    × (whole l.self.lines ≡ whole l.fn.self.lines)
    × (l.fn.self.lines.at ≤ l.self.lines.at)
    × IfSome l.tag (StandsIn (whole l.fn.self.lines))

abbrev pub decreases-loop-line : goal.decreases-loop-line
decreases-loop-line l = length (lines_left l.self.lines)
