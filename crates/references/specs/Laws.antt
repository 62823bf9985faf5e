-- What holds of every answer, in the words of those who use it. Assumes nothing.
use Rattle.std.specs.Prelude.{◌≡◌, ℕ, true, ◌⊎◌, List, [], Some, None, codes, Option, ◌≢◌}
use Rattle.std.specs.List.{AllByRecursion}
use Rattle.uri.specs.Cuts.{parts}
use Rattle.uri.specs.Splits.{split}
use Rattle.uri.specs.Legal.{legal}

-- whatever is answered is a legal URI
abbrev pub OnlyLegal : Option (List ℕ) → Type 0
OnlyLegal None = Unit {0}
OnlyLegal (Some uri) = legal uri ≡ true

-- a segment that is neither `.` nor `..`
abbrev pub Named : List ℕ → Type 0
Named s = (s ≢ codes ".") × (s ≢ codes "..")

-- no segment of the path is a dot segment
abbrev pub NoDots : List ℕ → Type 0
NoDots path = AllByRecursion Named (parts 47 path)

-- a reference to the base's own path: it has no scheme, no authority and no path
abbrev pub SamePath : List ℕ → Type 0
SamePath ref = ((split ref).scheme ≡ None) × ((split ref).authority ≡ None) × ((split ref).path ≡ [])

-- whatever is answered has no dot segment, unless the path is the base's own
abbrev pub Undotted : List ℕ → Option (List ℕ) → Type 0
Undotted ref None = Unit {0}
Undotted ref (Some uri) = SamePath ref ⊎ NoDots (split uri).path

-- a legal URI without dot segments, taken for a reference, stands for itself whatever the base is
abbrev pub Itself : (base ref : List ℕ) → Option (List ℕ) → Type 0
Itself base ref answer = legal base ≡ true → legal ref ≡ true → NoDots (split ref).path → answer ≡ Some ref
