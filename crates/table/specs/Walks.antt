-- Pathways as the reader finds them in a checked file. Assumes nothing.
use Rattle.std.specs.Prelude.{List}
use Rattle.pathways.specs.Meaning.{Pathway}
use Rattle.table.specs.declared.reading.walking.Group.{Group}
use Rattle.table.specs.declared.reading.walking.Groups.{Groups}
use Rattle.table.specs.Contents.{entries_in}
use Rattle.table.specs.Reading.{members_in, pathways_in}

-- a pathway that was found: its ID, and the members that stand right behind it
abbrev pub pathway_of : Group → Pathway
pathway_of g = record { id = g.id.now; members = members_in g.behind.file.now (entries_in g.behind.entries.bytes.now) }

-- pathways that are left
abbrev pub pathways_left : Groups → List Pathway
pathways_left s = pathways_in s.parts.file.now (entries_in s.parts.entries.bytes.now)
