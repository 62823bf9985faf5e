-- A URI with a parameter of its query set. Assumes nothing.
use Rattle.std.specs.Prelude.{ℕ, Bool, true, false, List, [], ◌∷◌, ◌++◌, Some, None, Option}
use Rattle.std.specs.Str.{bytes_eq}
use Rattle.uri.specs.Cuts.{before, further, joined_by, marked}
use Rattle.uri.specs.Splits.{without_query, query, fragment}
use Rattle.rewriting.specs.declared.change.Change.{Change}
use Rattle.rewriting.specs.declared.change.Change.TheVariants.{Kept, Set, Removed}

-- an empty query is as none
abbrev pub filled : Option (List ℕ) → Option (List ℕ)
filled None = None
filled (Some []) = None
filled (Some (x ∷ xs)) = Some (x ∷ xs)

-- the parts of a query, cut at each `&`
abbrev pub pieces : Option (List ℕ) → List (List ℕ)
pieces asked = further 38 (filled asked)

-- a part's name ends before its first `=`, or is the whole part
abbrev pub named : (name part : List ℕ) → Bool
named name part = bytes_eq (before 61 part) name

-- the part that gives a name a value
abbrev pub assigned : (name value : List ℕ) → List ℕ
assigned name value = name ++ 61 ∷ value

-- the parts of other names
abbrev pub others : List ℕ → List (List ℕ) → List (List ℕ)
others name [] = []
others name (p ∷ ps) = elim (named name p) [ true ↦ others name ps | false ↦ p ∷ others name ps ]

-- The first part of the name gives it the value, and later ones of the name are gone; where there was none, there is one more at the end.
abbrev pub set_in : (name value : List ℕ) → List (List ℕ) → List (List ℕ)
set_in name value [] = assigned name value ∷ []
set_in name value (p ∷ ps) =
    elim (named name p) [ true ↦ assigned name value ∷ others name ps | false ↦ p ∷ set_in name value ps ]

-- the text with the parameter set in its query
abbrev pub set_to : (name value text : List ℕ) → List ℕ
set_to name value text =
    (without_query text ++ 63 ∷ joined_by 38 (set_in name value (pieces (query text)))) ++ marked 35 (fragment text)

-- what becomes of a part, by whether it has the name and whether the parameter was set before it
abbrev pub change_of : (is_named is_set : Bool) → Change
change_of false is_set = Kept
change_of true false = Set
change_of true true = Removed
