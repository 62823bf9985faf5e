-- A URI with another host. Assumes nothing.
use Rattle.std.specs.Prelude.{ℕ, List, [], ◌∷◌, ◌++◌, Some, None, Option}
use Rattle.uri.specs.Cuts.{behind, marked}
use Rattle.uri.specs.Splits.{Split, split}

-- a scheme, if there is one, with its colon
abbrev pub schemed : Option (List ℕ) → List ℕ
schemed None = []
schemed (Some text) = text ++ 58 ∷ []

-- an authority with another host; the port stays with its colon
abbrev pub rehosted : (host owner : List ℕ) → List ℕ
rehosted host owner = host ++ marked 58 (behind 58 owner)

-- the parts put together with an authority
abbrev pub with_authority : Split → List ℕ → List ℕ
with_authority p owner = ((schemed p.scheme ++ 47 ∷ 47 ∷ (owner ++ p.path)) ++ marked 63 p.query) ++ marked 35 p.fragment

-- a text of those parts with another host, by its authority; without one it stays as it is
abbrev pub hosted : (host text : List ℕ) → Split → Option (List ℕ) → List ℕ
hosted host text p None = text
hosted host text p (Some owner) = with_authority p (rehosted host owner)

-- the text with another host
abbrev pub with_host : (host text : List ℕ) → List ℕ
with_host host text = hosted host text (split text) (split text).authority
