-- What a service table describes. Assumes nothing.
use Rattle.std.specs.Prelude.{ℕ, cond, List, [], ◌∷◌}
use Rattle.uri.specs.Splits.{without_fragment}
use Rattle.pathways.specs.Meaning.{Pathway, Meaning, nowhere}
use Rattle.table.specs.declared.entry.Entry.{Entry}
use Rattle.table.specs.Contents.{contents, body_of, dialect_of, is_id, is_member}

-- the members that stand in front, up to the next entry of another kind
abbrev pub members_in : List ℕ → List Entry → List (List ℕ)
members_in file [] = []
members_in file (e ∷ es) = cond (is_member e.kind) (body_of file e ∷ members_in file es) []

-- the pathway that begins with the first entry: its ID, and the members right behind it
abbrev pub pathway_at : List ℕ → List Entry → Pathway
pathway_at file [] = nowhere
pathway_at file (e ∷ es) = record { id = body_of file e; members = members_in file es }

-- a pathway for each ID, in order
abbrev pub pathways_in : List ℕ → List Entry → List Pathway
pathways_in file [] = []
pathways_in file (e ∷ es) = cond (is_id e.kind) (pathway_at file (e ∷ es) ∷ pathways_in file es) (pathways_in file es)

-- the steering URI is the first entry's body, without its fragment
abbrev pub steering_in : List ℕ → List Entry → List ℕ
steering_in file [] = []
steering_in file (e ∷ es) = without_fragment (body_of file e)

abbrev pub meaning_of : List ℕ → Meaning
meaning_of file =
    record {
      dialect = dialect_of file;
      steering = steering_in file (contents file);
      pathways = pathways_in file (contents file);
    }
