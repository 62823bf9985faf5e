-- Each rule of a service table, as the place of the first offence against it, if there is one. `i` is the number of the entry that comes
-- next. Assumes nothing.
use Rattle.std.specs.Prelude.{ℕ, ◌+◌, Bool, true, false, cond, not, ◌&&◌, ◌||◌, List, [], ◌∷◌, ◌++◌, length, Some, None, Option, ◌==◌, nat_le, nat_lt}
use Rattle.std.specs.Str.{bytes_eq}
use Rattle.uri.specs.Legal.{legal}
use Rattle.pathways.specs.Limits.{legal_id}
pub use Rattle.pathways.specs.Rules.{placed, bad_length}
use Rattle.table.specs.declared.kind.Kind.{Kind}
use Rattle.table.specs.declared.kind.Kind.TheVariants.{Steering, Id, Member, Unknown}
use Rattle.table.specs.declared.entry.Entry.{Entry}
use Rattle.table.specs.Contents.{headed, count_of, spot, body_of, is_id, is_member, is_unknown}
use Rattle.table.specs.Reading.{pathways_in}

abbrev pub bad_header : List ℕ → Option ℕ
bad_header file = placed (not (headed file)) 0

-- the count is not there: the file's end
abbrev pub count_missing : List ℕ → Option ℕ
count_missing file = placed (nat_lt (length file) 6) (length file)

-- the contents do not fit into the file: the count
abbrev pub contents_long : List ℕ → Option ℕ
contents_long file = placed (nat_lt (length file) (spot (count_of file))) 4

-- an entry whose body does not begin where the body before it ends, which is at `due`
abbrev pub misplaced : (i due : ℕ) → List Entry → Option ℕ
misplaced i due [] = None
misplaced i due (e ∷ es) = cond (e.place == due) (misplaced (i + 1) (due + e.size) es) (Some (spot i))

-- an entry whose body passes the file's end
abbrev pub overlong : (end i : ℕ) → List Entry → Option ℕ
overlong end i [] = None
overlong end i (e ∷ es) = cond (nat_le (e.place + e.size) end) (overlong end (i + 1) es) (Some (spot i))

-- where the last body ends, the first beginning at `due`
abbrev pub end_of : ℕ → List Entry → ℕ
end_of due [] = due
end_of due (e ∷ es) = end_of (due + e.size) es

-- bytes behind the last body: the count
abbrev pub left_over : (end : ℕ) → ℕ → List Entry → Option ℕ
left_over end due es = placed (nat_lt (end_of due es) end) 4

-- an entry of no known kind
abbrev pub unknown_kind : ℕ → List Entry → Option ℕ
unknown_kind i [] = None
unknown_kind i (e ∷ es) = cond (is_unknown e.kind) (Some (spot i)) (unknown_kind (i + 1) es)

-- what may stand behind what: first the steering URI, then an ID, then IDs and members
abbrev pub follows : Option Kind → Kind → Bool
follows None Steering = true
follows None Id = false
follows None Member = false
follows None Unknown = false
follows (Some Steering) Steering = false
follows (Some Steering) Id = true
follows (Some Steering) Member = false
follows (Some Steering) Unknown = false
follows (Some Id) Steering = false
follows (Some Id) Id = true
follows (Some Id) Member = true
follows (Some Id) Unknown = false
follows (Some Member) Steering = false
follows (Some Member) Id = true
follows (Some Member) Member = true
follows (Some Member) Unknown = false
follows (Some Unknown) Steering = false
follows (Some Unknown) Id = false
follows (Some Unknown) Member = false
follows (Some Unknown) Unknown = false

-- an entry that may not stand behind the one before it
abbrev pub disordered : Option Kind → ℕ → List Entry → Option ℕ
disordered before i [] = None
disordered before i (e ∷ es) = cond (follows before e.kind) (disordered (Some e.kind) (i + 1) es) (Some (spot i))

-- the same of all entries; where there is none, the count
abbrev pub out_of_order : List Entry → Option ℕ
out_of_order [] = Some 4
out_of_order (e ∷ es) = disordered None 0 (e ∷ es)

-- an illegal ID: its first byte
abbrev pub bad_id : List ℕ → List Entry → Option ℕ
bad_id file [] = None
bad_id file (e ∷ es) = cond (is_id e.kind && not (legal_id (body_of file e))) (Some e.place) (bad_id file es)

-- whether an ID stands among the entries
abbrev pub has_id : List ℕ → List ℕ → List Entry → Bool
has_id file id [] = false
has_id file id (e ∷ es) = (is_id e.kind && bytes_eq (body_of file e) id) || has_id file id es

-- an ID that stands among the entries before it: its first byte
abbrev pub repeated : List ℕ → List Entry → List Entry → Option ℕ
repeated file before [] = None
repeated file before (e ∷ es) =
    cond (is_id e.kind && has_id file (body_of file e) before) (Some e.place) (repeated file (before ++ e ∷ []) es)

-- an illegal URI: its first byte
abbrev pub bad_uri : List ℕ → List Entry → Option ℕ
bad_uri file [] = None
bad_uri file (e ∷ es) = cond (not (is_id e.kind) && not (legal (body_of file e))) (Some e.place) (bad_uri file es)

-- the first entry is a member
abbrev pub member_first : List Entry → Bool
member_first [] = false
member_first (e ∷ es) = is_member e.kind

-- behind `ids` IDs and `members` members of the latest: an ID too many or without member, a member too many
abbrev pub excess : (ids members : ℕ) → Kind → List Entry → Bool
excess ids members Steering es = false
excess ids members Id es = nat_le 16 ids || not (member_first es)
excess ids members Member es = nat_le 32 members
excess ids members Unknown es = false

abbrev pub ids_now : ℕ → Kind → ℕ
ids_now ids k = cond (is_id k) (ids + 1) ids

abbrev pub members_now : ℕ → Kind → ℕ
members_now members k = cond (is_member k) (members + 1) 0

-- an entry by which a count passes its limit, or an ID without member
abbrev pub overrun : (ids members i : ℕ) → List Entry → Option ℕ
overrun ids members i [] = None
overrun ids members i (e ∷ es) =
    cond (excess ids members e.kind es) (Some (spot i)) (overrun (ids_now ids e.kind) (members_now members e.kind) (i + 1) es)

-- a count outside its limits; where there is no pathway, the count of entries
abbrev pub bad_count : List ℕ → List Entry → Option ℕ
bad_count file es = cond (length (pathways_in file es) == 0) (Some 4) (overrun 0 0 0 es)
