-- What a service table means, and what is made of any bytes. Assumes nothing.
use Rattle.std.specs.Prelude.{ℕ, cond, List, ◌∷◌, ◌++◌, is_ok, codes}
use Rattle.pathways.specs.Meaning.{Pathway, Meaning}
use Rattle.table.specs.declared.reading.ServiceTable.{ServiceTable}
use Rattle.table.specs.Contents.{contents}
use Rattle.table.specs.Reading.{pathways_in, meaning_of}
use Rattle.table.specs.Checks.{checked}

abbrev pub table_pathways : ServiceTable → List Pathway
table_pathways t = pathways_in t.bodies.contents.file.now (contents t.bodies.contents.file.now)

abbrev pub table_meaning : ServiceTable → Meaning
table_meaning t = meaning_of t.bodies.contents.file.now

-- the example: a table of 59 bytes with the entries (0, 21, 19), (1, 40, 1) and (2, 41, 18)
abbrev pub example : List ℕ
example =
    83 ∷ 84 ∷ 1 ∷ 1 ∷ 0 ∷ 3
    ∷ 0 ∷ 0 ∷ 21 ∷ 0 ∷ 19
    ∷ 1 ∷ 0 ∷ 40 ∷ 0 ∷ 1
    ∷ 2 ∷ 0 ∷ 41 ∷ 0 ∷ 18
    ∷ (codes "https://s.example/a" ++ (codes "a" ++ codes "https://c.example/"))

-- the file that is opened: the given one where it passes the check, else the example
abbrev pub opened : List ℕ → List ℕ
opened file = cond (is_ok (checked file)) file example

-- what is made of a file
abbrev pub described : List ℕ → Meaning
described file = meaning_of (opened file)
