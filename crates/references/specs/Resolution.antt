-- References and the URIs that they stand for, by RFC 3986's strict resolution (sections 5.2.2, 5.2.3 and 5.3). Assumes nothing.
use Rattle.std.specs.Prelude.{ℕ, Bool, true, false, cond, not, ◌&&◌, ◌||◌, List, [], ◌∷◌, ◌++◌, length, Some, None, Option, ◌==◌, nat_le}
use Rattle.uri.specs.Cuts.{before, holds, marked}
use Rattle.uri.specs.Splits.{Split, split}
use Rattle.uri.specs.Legal.{is_path, legal}
use Rattle.references.specs.Paths.{directory, without_dots}

abbrev pub is_there : Option (List ℕ) → Bool
is_there None = false
is_there (Some x) = true

abbrev pub is_empty : List ℕ → Bool
is_empty [] = true
is_empty (x ∷ xs) = false

-- a path that begins at the root
abbrev pub is_rooted : List ℕ → Bool
is_rooted [] = false
is_rooted (x ∷ xs) = x == 47

-- a part, or where it is absent another one
abbrev pub or_else : Option (List ℕ) → Option (List ℕ) → Option (List ℕ)
or_else None other = other
or_else (Some x) other = Some x

-- a relative path behind the base's directory; a base with authority and no path has the root for it
abbrev pub merged : Split → List ℕ → List ℕ
merged base path = cond (is_there base.authority && is_empty base.path) (47 ∷ path) (directory base.path ++ path)

-- the path of a reference that has one, but no scheme and no authority
abbrev pub placed : Split → List ℕ → List ℕ
placed base path = cond (is_rooted path) path (merged base path)

-- the five cases: the parts of what a reference stands for
abbrev pub transformed : Split → Split → Split
transformed base ref =
    cond (is_there ref.scheme)
    (record { scheme = ref.scheme; authority = ref.authority; path = without_dots ref.path; query = ref.query; fragment = ref.fragment })
    (cond (is_there ref.authority)
    (record { scheme = base.scheme; authority = ref.authority; path = without_dots ref.path; query = ref.query; fragment = ref.fragment })
    (cond (is_empty ref.path)
    (record { scheme = base.scheme; authority = base.authority; path = base.path; query = or_else ref.query base.query; fragment = ref.fragment })
    (record { scheme = base.scheme; authority = base.authority; path = without_dots (placed base ref.path); query = ref.query; fragment = ref.fragment })))

-- a scheme and its colon
abbrev pub scheme_text : Option (List ℕ) → List ℕ
scheme_text None = []
scheme_text (Some s) = s ++ 58 ∷ []

-- `//` and an authority
abbrev pub authority_text : Option (List ℕ) → List ℕ
authority_text None = []
authority_text (Some a) = 47 ∷ 47 ∷ a

-- the text of the parts
abbrev pub recomposed : Split → List ℕ
recomposed p = scheme_text p.scheme ++ (authority_text p.authority ++ (p.path ++ (marked 63 p.query ++ marked 35 p.fragment)))

-- At most 512 bytes, a path of RFC 3986's bytes, and no colon in the first segment of a path without scheme. All other parts of a
-- reference stand in what it stands for as they are, and are judged there.
abbrev pub is_reference : List ℕ → Bool
is_reference ref = nat_le (length ref) 512 && (is_path (split ref).path && (is_there (split ref).scheme || not (holds 58 (before 47 (split ref).path))))

-- a text, where it is a legal URI
abbrev pub if_legal : List ℕ → Option (List ℕ)
if_legal text = cond (legal text) (Some text) None

-- a legal reference to a legal base stands for the text of its parts, which have to have an authority and make a legal URI
abbrev pub resolved : List ℕ → List ℕ → Option (List ℕ)
resolved base ref =
    cond (legal base && (is_reference ref && is_there (transformed (split base) (split ref)).authority))
    (if_legal (recomposed (transformed (split base) (split ref))))
    None
