-- The check of a service table: its rules in their order, each over the whole file. Assumes nothing.
use Rattle.std.specs.Prelude.{ℕ, List, [], ◌∷◌, ◌++◌, length, Result}
use Rattle.terms.specs.Faults.{Told}
pub use Rattle.pathways.specs.Rules.{Rule, verdict, done, and_then, judged}
use Rattle.table.specs.Contents.{count_of, spot, contents}
use Rattle.table.specs.Offences.{bad_length, bad_header, count_missing, contents_long, misplaced, overlong, left_over, unknown_kind, out_of_order, bad_id, repeated, bad_uri, bad_count}

-- length, header, and how contents and bodies lie in the file
abbrev pub layout : List ℕ → List Rule
layout file =
    record { number = 10; offence = bad_length file }
    ∷ record { number = 11; offence = bad_header file }
    ∷ record { number = 12; offence = count_missing file }
    ∷ record { number = 12; offence = contents_long file }
    ∷ record { number = 12; offence = misplaced 0 (spot (count_of file)) (contents file) }
    ∷ record { number = 12; offence = overlong (length file) 0 (contents file) }
    ∷ record { number = 12; offence = left_over (length file) (spot (count_of file)) (contents file) }
    ∷ []

-- kinds and their order, IDs, URIs, counts
abbrev pub sense : List ℕ → List Rule
sense file =
    record { number = 13; offence = unknown_kind 0 (contents file) }
    ∷ record { number = 13; offence = out_of_order (contents file) }
    ∷ record { number = 15; offence = bad_id file (contents file) }
    ∷ record { number = 15; offence = repeated file [] (contents file) }
    ∷ record { number = 16; offence = bad_uri file (contents file) }
    ∷ record { number = 17; offence = bad_count file (contents file) }
    ∷ []

abbrev pub checked : List ℕ → Result (Unit {0}) Told
checked file = judged (layout file ++ sense file)
