-- Paths: the directory of one, and a path without its dot segments, as RFC 3986 removes them (section 5.2.4). Assumes nothing.
use Rattle.std.specs.Prelude.{◌≡◌, ℕ, ◌+◌, true, cond, List, [], ◌∷◌, ◌++◌, take, Some, None, codes, Option, ◌==◌}
use Rattle.std.specs.Str.{bytes_eq}
use Rattle.uri.specs.Cuts.{parts}
use Rattle.references.specs.declared.segment.Segment.{Segment}
use Rattle.references.specs.declared.segment.Segment.TheVariants.{Here, Above, Plain}

-- where the last `/` stands; `found` is the last one before the text, which begins at `i`
abbrev pub last_from : (found : Option ℕ) (i : ℕ) → List ℕ → Option ℕ
last_from found i [] = found
last_from found i (x ∷ xs) = last_from (cond (x == 47) (Some i) found) (i + 1) xs

abbrev pub last_slash : List ℕ → Option ℕ
last_slash text = last_from None 0 text

abbrev pub up_to : Option ℕ → List ℕ → List ℕ
up_to None text = []
up_to (Some n) text = take n text

-- a path up to its last `/`, which stays
abbrev pub past : Option ℕ → List ℕ → List ℕ
past None text = []
past (Some n) text = take (n + 1) text

abbrev pub directory : List ℕ → List ℕ
directory path = past (last_slash path) path

-- a path without its last segment and the `/` before that
abbrev pub parent : List ℕ → List ℕ
parent path = up_to (last_slash path) path

-- `.` is the place where it stands, `..` the one above it
abbrev pub segment_of : List ℕ → Segment
segment_of s = cond (bytes_eq s (codes ".")) Here (cond (bytes_eq s (codes "..")) Above Plain)

-- behind a dot segment that is the last one a `/` stays
abbrev pub ending : List ℕ → List (List ℕ) → List ℕ
ending out [] = out ++ 47 ∷ []
ending out (s ∷ ss) = out

-- what a segment makes of the path so far, with the segments `ss` behind it
abbrev pub moved : Segment → (out s : List ℕ) (ss : List (List ℕ)) → List ℕ
moved Here out s ss = ending out ss
moved Above out s ss = ending (parent out) ss
moved Plain out s ss = out ++ 47 ∷ s

-- the segments, each of which has a `/` before it, one by one
abbrev pub walked : (out : List ℕ) → List (List ℕ) → List ℕ
walked out [] = out
walked out (s ∷ ss) = walked (moved (segment_of s) out s ss) ss

-- dot segments in front of all go; the first other one, which has no `/` before it, begins the path
abbrev pub opening : List (List ℕ) → List ℕ
opening [] = []
opening (s ∷ ss) = elim (segment_of s) [ Here ↦ opening ss | Above ↦ opening ss | Plain ↦ walked s ss ]

abbrev pub without_dots : List ℕ → List ℕ
without_dots path = opening (parts 47 path)

-- a path that is empty or begins at the root, as every one behind an authority is
abbrev pub Absolute : List ℕ → Type 0
Absolute [] = Unit {0}
Absolute (x ∷ xs) = (x == 47) ≡ true
