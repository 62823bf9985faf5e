-- The limits that every set of pathways and every description keeps. Assumes nothing.
use Rattle.std.specs.Prelude.{◌≡◌, ℕ, ◌≤◌, Bool, true, List, [], ◌∷◌, length, None, ◌≢◌}
use Rattle.std.specs.List.{AllByRecursion}
use Rattle.terms.specs.Classes.{is_name}
use Rattle.uri.specs.Legal.{legal}
use Rattle.uri.specs.Splits.{fragment}
use Rattle.pathways.specs.Meaning.{Pathway, Meaning, ids}

-- a pathway ID: 1 to 32 name bytes
abbrev pub legal_id : List ℕ → Bool
legal_id id = is_name 32 id

-- no two are equal
abbrev pub Different : List (List ℕ) → Type 0
Different [] = Unit {0}
Different (x ∷ xs) = AllByRecursion (λ y. x ≢ y) xs × Different xs

-- a pathway's ID is legal; it has 1 to 32 members, each a legal URI
pub record LawfulPathway (p : Pathway) : Type 0 where
  pub id : legal_id p.id ≡ true
  pub some : 1 ≤ length p.members
  pub few : length p.members ≤ 32
  pub uris : AllByRecursion (λ u. legal u ≡ true) p.members

-- 1 to 24 pathways with different IDs
pub record Lawful (ps : List Pathway) : Type 0 where
  pub some : 1 ≤ length ps
  pub few : length ps ≤ 24
  pub different : Different (ids ps)
  pub each : AllByRecursion LawfulPathway ps

-- a description means its set of pathways, has at most 16 of them, and a legal steering URI without fragment
pub record Described (m : Meaning) (ps : List Pathway) : Type 0 where
  pub same : m.pathways ≡ ps
  pub few : length ps ≤ 16
  pub steering : legal m.steering ≡ true
  pub whole : fragment m.steering ≡ None
