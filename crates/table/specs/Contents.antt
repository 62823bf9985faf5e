-- The layout of a service table: header, count, contents, bodies. Assumes nothing.
use Rattle.std.specs.Prelude.{ℕ, zero, suc, ◌+◌, ◌*◌, ◌≤◌, Bool, true, false, cond, ◌&&◌, List, [], ◌∷◌, length, take, drop, ◌==◌, nat_le, slice_index}
use Rattle.std.specs.List.{AllByRecursion}
use Rattle.pathways.specs.declared.dialect.Dialect.{Dialect}
use Rattle.pathways.specs.declared.dialect.Dialect.TheVariants.{Hls, Dash}
use Rattle.table.specs.declared.kind.Kind.{Kind}
use Rattle.table.specs.declared.kind.Kind.TheVariants.{Steering, Id, Member, Unknown}
use Rattle.table.specs.declared.entry.Entry.{Entry}

-- the first four bytes: S, T, 1, and 0 for HLS or 1 for DASH
abbrev pub headed : List ℕ → Bool
headed file =
    nat_le 4 (length file)
    && (slice_index file 0 == 83 && (slice_index file 1 == 84 && (slice_index file 2 == 1 && nat_le (slice_index file 3) 1)))

abbrev pub dialect_by : ℕ → Dialect
dialect_by b = cond (b == 0) Hls Dash

abbrev pub dialect_of : List ℕ → Dialect
dialect_of file = dialect_by (slice_index file 3)

-- a number of two bytes, the high one first
abbrev pub pair : ℕ → ℕ → ℕ
pair high low = high * 256 + low

-- how many entries there are: bytes 4 and 5
abbrev pub count_of : List ℕ → ℕ
count_of file = pair (slice_index file 4) (slice_index file 5)

-- where entry i stands in the file: behind the count, five bytes each
abbrev pub spot : ℕ → ℕ
spot i = 6 + 5 * i

abbrev pub kind_of : ℕ → Kind
kind_of b = cond (b == 0) Steering (cond (b == 1) Id (cond (b == 2) Member Unknown))

-- the entry that five bytes stand for: kind, place, length
abbrev pub entry_of : List ℕ → Entry
entry_of bytes =
    record {
      kind = kind_of (slice_index bytes 0);
      place = pair (slice_index bytes 1) (slice_index bytes 2);
      size = pair (slice_index bytes 3) (slice_index bytes 4);
    }

-- the first n entries
abbrev pub entries_of : ℕ → List ℕ → List Entry
entries_of zero bytes = []
entries_of (suc n) bytes = entry_of bytes ∷ entries_of n (drop 5 bytes)

-- the entries that bytes stand for, five each
abbrev pub entries_in : List ℕ → List Entry
entries_in (a ∷ b ∷ c ∷ d ∷ e ∷ rest) = record { kind = kind_of a; place = pair b c; size = pair d e } ∷ entries_in rest
entries_in _ = []

abbrev pub contents : List ℕ → List Entry
contents file = entries_of (count_of file) (drop 6 file)

-- the bytes that an entry names
abbrev pub body_of : List ℕ → Entry → List ℕ
body_of file e = take e.size (drop e.place file)

-- each body lies in the file
abbrev pub Within : List ℕ → Type 0
Within file = AllByRecursion (λ e. e.place + e.size ≤ length file) (contents file)

abbrev pub is_id : Kind → Bool
is_id Steering = false
is_id Id = true
is_id Member = false
is_id Unknown = false

abbrev pub is_member : Kind → Bool
is_member Steering = false
is_member Id = false
is_member Member = true
is_member Unknown = false

abbrev pub is_unknown : Kind → Bool
is_unknown Steering = false
is_unknown Id = false
is_unknown Member = false
is_unknown Unknown = true
