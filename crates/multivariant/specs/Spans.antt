-- What spans of a text stand for. Assumes nothing.
use Rattle.std.specs.Prelude.{ℕ, ◌-◌, cond, ◌&&◌, List, [], ◌∷◌, length, take, drop, Some, None, codes, Option, nat_le}
use Rattle.multivariant.specs.declared.span.Span.{Span}
use Rattle.multivariant.specs.declared.placed.Placed.{Placed}
use Rattle.multivariant.specs.Items.{Item}

-- the bytes of a span, which are none where it is no part of the text
abbrev pub sliced : List ℕ → Span → List ℕ
sliced text s = cond (nat_le s.from s.to && nat_le s.to (length text)) (take (s.to - s.from) (drop s.from text)) []

-- the pathway that is named, which is `.` where none is
abbrev pub name_in : List ℕ → Option Span → List ℕ
name_in text None = codes "."
name_in text (Some s) = sliced text s

-- the pathway that is named, if one is
abbrev pub names_in : List ℕ → Option Span → List (List ℕ)
names_in text None = []
names_in text (Some s) = sliced text s ∷ []

abbrev pub item_in : List ℕ → Placed → Item
item_in text e = record { id = name_in text e.id; uri = sliced text e.uri }
