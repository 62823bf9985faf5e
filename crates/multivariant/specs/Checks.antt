-- The check of a playlist: its rules in their order, each over the whole text. Assumes nothing.
use Rattle.std.specs.Prelude.{ℕ, false, List, [], ◌∷◌, length, Result}
use Rattle.terms.specs.Faults.{Told}
use Rattle.pathways.specs.Rules as rules
use Rattle.tags.specs.Lines.{rows_of}
use Rattle.multivariant.specs.Rules.{ListThere, ListSound, NamesApart, ServerQuoted, UriLine, IdLegal, IdQuoted, UriLegal, IdKnown}
use Rattle.multivariant.specs.Streams.{streams_of}
use Rattle.multivariant.specs.Offences.{bad_own, bad_length, bad_header, first, bad_steering, bad_count}

-- the URI of the playlist, its length and its first line
abbrev pub outer : (own text : List ℕ) → List rules.Rule
outer own text =
    record { number = 9; offence = bad_own own }
    ∷ record { number = 10; offence = bad_length text }
    ∷ record { number = 11; offence = bad_header (rows_of text) }
    ∷ []

-- the attribute lists, the steering tag, and that each stream tag has a URI line
abbrev pub form : (own text : List ℕ) → List rules.Rule
form own text =
    record { number = 12; offence = first own text ListThere (rows_of text) }
    ∷ record { number = 12; offence = first own text ListSound (rows_of text) }
    ∷ record { number = 12; offence = first own text NamesApart (rows_of text) }
    ∷ record { number = 13; offence = bad_steering (length text) false (rows_of text) }
    ∷ record { number = 13; offence = first own text ServerQuoted (rows_of text) }
    ∷ record { number = 14; offence = first own text UriLine (rows_of text) }
    ∷ []

-- IDs, URIs, counts
abbrev pub sense : (own text : List ℕ) → List rules.Rule
sense own text =
    record { number = 15; offence = first own text IdLegal (rows_of text) }
    ∷ record { number = 15; offence = first own text IdQuoted (rows_of text) }
    ∷ record { number = 16; offence = first own text UriLegal (rows_of text) }
    ∷ record { number = 17; offence = bad_count (length text) (streams_of text) }
    ∷ record { number = 17; offence = first own text IdKnown (rows_of text) }
    ∷ []

abbrev pub checked : (own text : List ℕ) → Result (Unit {0}) Told
checked own text = rules.and_then (rules.judged (outer own text)) (rules.and_then (rules.judged (form own text)) (rules.judged (sense own text)))
