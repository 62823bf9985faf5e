-- The lines of a playlist, and what each of them is. Assumes nothing.
use Rattle.std.specs.Prelude.{ℕ, ◌+◌, ◌-◌, Bool, true, false, cond, not, ◌&&◌, List, [], ◌∷◌, length, take, drop, Some, None, codes, Option, ◌==◌, nat_le, nat_lt, slice_index}
use Rattle.std.specs.Str.{bytes_eq}
use Rattle.uri.specs.Cuts.{before, holds, parts}
use Rattle.tags.specs.declared.kind.Kind.{Kind}
use Rattle.tags.specs.declared.kind.Kind.TheVariants.{Steering, Stream, Uri, Other}

abbrev pub begins : (front text : List ℕ) → Bool
begins front text = bytes_eq front (take (length front) text)

-- a line that is neither empty nor begins with `#`
abbrev pub is_written : List ℕ → Bool
is_written [] = false
is_written (x ∷ xs) = not (x == 35)

-- A tag is told by its first bytes. The URI line of a stream tag, for which it waits, is the next line that is neither empty nor begins with `#`.
abbrev pub kind_of : (waits : Bool) → List ℕ → Kind
kind_of waits line =
    cond (begins (codes "#EXT-X-CONTENT-STEERING:") line) Steering
    (cond (begins (codes "#EXT-X-STREAM-INF:") line) Stream
    (cond (waits && is_written line) Uri Other))

abbrev pub now_waits : Bool → Kind → Bool
now_waits waits Steering = waits
now_waits waits Stream = true
now_waits waits Uri = false
now_waits waits Other = waits

abbrev pub ends_in_return : List ℕ → Bool
ends_in_return line = nat_lt 0 (length line) && slice_index line (length line - 1) == 13

-- a line as it is read: a CR at its end goes where an LF stands behind it
abbrev pub trimmed : (ended : Bool) → List ℕ → List ℕ
trimmed ended line = cond (ended && ends_in_return line) (take (length line - 1) line) line

-- a line: what it is, where it begins, and its bytes
pub record Row : Type 0 where
  pub kind : Kind
  pub place : ℕ
  pub text : List ℕ

abbrev pub row_of : (at : ℕ) (waits : Bool) → List ℕ → Row
row_of at waits line = record { kind = kind_of waits line; place = at; text = line }

abbrev pub is_more : List (List ℕ) → Bool
is_more [] = false
is_more (p ∷ ps) = true

-- the lines that the parts between the LFs are, the first of which begins at `at`
abbrev pub rows : (at : ℕ) (waits : Bool) → List (List ℕ) → List Row
rows at waits [] = []
rows at waits (p ∷ ps) =
    row_of at waits (trimmed (is_more ps) p) ∷ rows (at + length p + 1) (now_waits waits (kind_of waits (trimmed (is_more ps) p))) ps

-- the lines of a playlist
abbrev pub rows_of : List ℕ → List Row
rows_of text = rows 0 false (parts 10 text)

-- the lines from the one that begins at `at`
abbrev pub rows_at : (at : ℕ) (waits : Bool) → List ℕ → List Row
rows_at at waits text = cond (nat_le at (length text)) (rows at waits (parts 10 (drop at text))) []

-- a line with the place where the next one begins, and whether a stream tag waits there
pub record Shown : Type 0 where
  pub row : Row
  pub next : ℕ
  pub waits : Bool

abbrev pub shown_at : (at : ℕ) (waits : Bool) → (rest : List ℕ) → Shown
shown_at at waits rest =
    record {
      row = row_of at waits (trimmed (holds 10 rest) (before 10 rest));
      next = at + length (before 10 rest) + 1;
      waits = now_waits waits (kind_of waits (trimmed (holds 10 rest) (before 10 rest)));
    }

-- the line that begins at `at`: the bytes up to the next LF, or to the end
abbrev pub line_at : (at : ℕ) (waits : Bool) → List ℕ → Option Shown
line_at at waits text = cond (nat_le at (length text)) (Some (shown_at at waits (drop at text))) None
