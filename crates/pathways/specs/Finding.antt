-- Where an ID stands in a set of pathways. Assumes nothing.
use Rattle.std.specs.Prelude.{◌≡◌, ℕ, ◌<◌, List, length, Some, None, Option, ◌≢◌, slice_index_or}
use Rattle.pathways.specs.Meaning.{Pathway, nowhere}

-- the number of the pathway that has the ID, and of none before it; or that none has it
abbrev pub Finds : Option ℕ → List Pathway → List ℕ → Type 0
Finds (Some k) ps id = (k < length ps) × ((slice_index_or ps k nowhere).id ≡ id) × ((j : ℕ) → j < k → (slice_index_or ps j nowhere).id ≢ id)
Finds None ps id = (j : ℕ) → j < length ps → (slice_index_or ps j nowhere).id ≢ id
