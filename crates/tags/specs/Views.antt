-- The lines, fields and values that the code hands out, as texts. Assumes nothing.
use Rattle.std.specs.Prelude.{◌≡◌, ℕ, ◌+◌, ◌<◌, ◌≤◌, List, [], ◌∷◌, length, Some, Option, MatchOption}
use Rattle.tags.specs.declared.line.Line.{Line}
use Rattle.tags.specs.declared.fields.Fields.{Fields}
use Rattle.tags.specs.declared.lines.Lines.{Lines}
use Rattle.tags.specs.declared.value.Value.{Value}
use Rattle.tags.specs.declared.field.Field as code
use Rattle.tags.specs.Lines.{Row, Shown, now_waits, rows_at, line_at}
use Rattle.tags.specs.Attributes.{Field, Found, fields_at}
use Rattle.tags.specs.Places.{Lies}

abbrev pub row : Line → Row
row l = record { kind = l.kind; place = l.place; text = l.text.now }

abbrev pub shown : Line → Shown
shown l = record { row = row l; next = l.next; waits = l.waits }

abbrev pub field : code.Field → Field
field f = record { place = f.place; text = f.text.now }

abbrev pub found : Value → Found
found v = record { place = v.place; text = v.text.now }

-- the fields that are still to come
abbrev pub fields_left : Fields → List Field
fields_left s = fields_at s.at s.list.now

-- what a field that comes next is, and what is left behind it
abbrev pub FieldStep : Fields → Option code.Field → Fields → Type 0
FieldStep s r t = MatchOption r ((fields_left s ≡ []) × (fields_left t ≡ []))
    (λ f. (fields_left s ≡ field f ∷ fields_left t)
    × (fields_left t ≡ fields_at f.next t.list.now)
    × (t.list.now ≡ s.list.now)
    × Lies t.list.now f.place f.text.now
    × (f.place + length f.text.now + 1 ≡ f.next)
    × (f.next ≤ length t.list.now + 1))

-- the playlist that lines are read from
abbrev pub whole : Lines → List ℕ
whole s = s.text.now

-- where the line that comes next begins
abbrev pub place_of : Lines → ℕ
place_of s = s.at

-- the lines that are still to come
abbrev pub lines_left : Lines → List Row
lines_left s = rows_at s.at s.waits (whole s)

-- what a line that comes next is, and what is left behind it
abbrev pub LineStep : Lines → Option Line → Lines → Type 0
LineStep s r t = (whole t ≡ whole s) × MatchOption r ((lines_left s ≡ []) × (lines_left t ≡ []))
    (λ l. (lines_left s ≡ row l ∷ lines_left t)
    × (line_at s.at s.waits (whole s) ≡ Some (shown l))
    × (t.at ≡ l.next)
    × (t.waits ≡ l.waits)
    × (l.place + length l.text.now ≤ length (whole s))
    × Lies (whole s) l.place l.text.now
    × (s.at < l.next)
    × (l.next ≤ length (whole s) + 1)
    × (l.waits ≡ now_waits s.waits l.kind))
