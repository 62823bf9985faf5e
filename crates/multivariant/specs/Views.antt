-- The streams that the code hands out, as texts. Assumes nothing.
use Rattle.std.specs.Prelude.{◌≡◌, ℕ, ◌+◌, ◌<◌, ◌≤◌, false, List, [], ◌∷◌, length, map, Some, None, Option, IfSome, MatchOption}
use Rattle.tags.specs.declared.line.Line.{Line}
use Rattle.tags.specs.Lines.{Row, rows_at}
use Rattle.tags.specs.Places.{Lies}
use Rattle.tags.specs.Views.{row, lines_left, whole}
use Rattle.multivariant.specs.declared.stream.Stream.{Stream}
use Rattle.multivariant.specs.declared.streams.Streams.{Streams}
use Rattle.multivariant.specs.declared.entry.Entry.{Entry}
use Rattle.multivariant.specs.declared.entries.Entries.{Entries}
use Rattle.multivariant.specs.Streams.{Served, no_tag, streams_in}
use Rattle.multivariant.specs.Items.{Item, item_of}
use Rattle.multivariant.specs.Rules.{Rule}
use Rattle.multivariant.specs.Offences.{offence}

-- the tag that was read, or the line that stands for none
abbrev pub tag_row : Option Line → Row
tag_row None = no_tag
tag_row (Some l) = row l

abbrev pub served : Stream → Served
served s = record { tag = tag_row s.tag; uri = row s.uri }

-- the streams that are still to come
abbrev pub streams_left : Streams → List Served
streams_left s = streams_in no_tag (lines_left s.lines)

-- the line lies in the playlist, which reads as the line does from its place on
abbrev pub StandsIn : (text : List ℕ) → Line → Type 0
StandsIn text l = Lies text l.place l.text.now × (l.place + length l.text.now ≤ length text)

-- what a stream that comes next is, where it stands, and what is left behind it
abbrev pub StreamStep : Streams → Option Stream → Streams → Type 0
StreamStep s r t = (whole t.lines ≡ whole s.lines) × MatchOption r ((streams_left s ≡ []) × (streams_left t ≡ []))
    (λ x. (streams_left s ≡ served x ∷ streams_left t)
    × (t.lines.at ≡ x.uri.next)
    × (t.lines.waits ≡ false)
    × (s.lines.at < x.uri.next)
    × (x.uri.next ≤ length (whole s.lines) + 1)
    × IfSome x.tag (StandsIn (whole s.lines))
    × StandsIn (whole s.lines) x.uri)

-- what an entry says of its stream
abbrev pub item : Entry → Item
item e = record { id = e.id.now; uri = e.uri.now }

-- what `tells` answers of each line is the line's offence against a rule
abbrev pub Tells : (tells : Line → Option ℕ → Type 0) (own text : List ℕ) → Rule → Type 0
Tells tells own text rule = (l : Line) (o : Option ℕ) → tells l o → o ≡ offence own text rule (row l) (rows_at l.next l.waits text)

-- the streams that are still to come, by what they say
abbrev pub entries_left : Entries → List Item
entries_left s = map item_of (streams_left s.streams)
