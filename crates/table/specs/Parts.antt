-- What the iterators over a checked file have left. Assumes nothing.
use Rattle.std.specs.Prelude.{ℕ, List, map}
use Rattle.table.specs.declared.entry.Entry.{Entry}
use Rattle.table.specs.declared.contents.Entries.{Entries}
use Rattle.table.specs.declared.bodies.parts.Part.{Part}
use Rattle.table.specs.declared.bodies.parts.Parts.{Parts}
use Rattle.table.specs.Contents.{body_of, entries_in}

-- entries that are left
abbrev pub entries_left : Entries → List Entry
entries_left s = entries_in s.bytes.now

-- each entry with the body that it names
abbrev pub with_bodies : List ℕ → List Entry → List (Entry × List ℕ)
with_bodies file es = map (λ e. (e, body_of file e)) es

-- a part is an entry and its body
abbrev pub shown : Part → Entry × List ℕ
shown p = (p.entry, p.body.now)

-- parts that are left
abbrev pub parts_left : Parts → List (Entry × List ℕ)
parts_left s = with_bodies s.file.now (entries_in s.entries.bytes.now)
