-- Looking up a pathway and its members in an index. Assumes nothing.
use Rattle.std.specs.Prelude.{ℕ, zero, suc, cond, List, [], ◌∷◌, length, Some, None, Option, nat_lt, slice_index_or}
use Rattle.std.specs.Str.{bytes_eq}
use Rattle.references.specs.Resolution.{resolved}
use Rattle.playlist.specs.Items.{Item}

-- the ID of a number
abbrev pub nth_in : List (List ℕ) → ℕ → Option (List ℕ)
nth_in ids n = cond (nat_lt n (length ids)) (Some (slice_index_or ids n [])) None

-- how many streams a pathway has
abbrev pub count_in : List ℕ → List Item → ℕ
count_in id [] = 0
count_in id (x ∷ xs) = cond (bytes_eq x.id id) (suc (count_in id xs)) (count_in id xs)

-- the stream of a number, or the first one of the rest
abbrev pub step_to : ℕ → List ℕ → (ℕ → Option (List ℕ)) → Option (List ℕ)
step_to zero uri next = Some uri
step_to (suc n) uri next = next n

-- the URI line of a pathway's stream of a number
abbrev pub uri_in : List ℕ → ℕ → List Item → Option (List ℕ)
uri_in id n [] = None
uri_in id n (x ∷ xs) = cond (bytes_eq x.id id) (step_to n x.uri (λ m. uri_in id m xs)) (uri_in id n xs)

-- the same of a pathway that may be absent, and of a reference that may be
abbrev pub count_for : List Item → Option (List ℕ) → Option ℕ
count_for items None = None
count_for items (Some id) = Some (count_in id items)

abbrev pub uri_for : List Item → ℕ → Option (List ℕ) → Option (List ℕ)
uri_for items n None = None
uri_for items n (Some id) = uri_in id n items

abbrev pub target_for : (own : List ℕ) → Option (List ℕ) → Option (List ℕ)
target_for own None = None
target_for own (Some reference) = resolved own reference
