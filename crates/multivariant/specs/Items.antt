-- The streams and the steering tag of a playlist, by what they say. Assumes nothing.
use Rattle.std.specs.Prelude.{ℕ, List, [], ◌∷◌, map, Some, None, Option}
use Rattle.std.specs.Option.{option_map}
use Rattle.tags.specs.Lines.{Row, rows_of}
use Rattle.tags.specs.Attributes.{Found, unquoted}
use Rattle.multivariant.specs.Streams.{Served, streams_of, streams_at, pathway_of, steering_in}

-- a stream: the ID of its pathway, and its URI line
pub record Item : Type 0 where
  pub id : List ℕ
  pub uri : List ℕ

abbrev pub item_of : Served → Item
item_of s = record { id = pathway_of s; uri = s.uri.text }

abbrev pub items_of : List ℕ → List Item
items_of text = map item_of (streams_of text)

-- the streams from the line that begins at `at`
abbrev pub items_at : (at : ℕ) → List ℕ → List Item
items_at at text = map item_of (streams_at at text)

-- the playlist's steering tag
abbrev pub steering_of : List ℕ → Row
steering_of text = steering_in (rows_of text)

-- the pathway that the steering tag names comes first
abbrev pub foremost : Option Found → List (List ℕ)
foremost None = []
foremost (Some v) = unquoted v.text ∷ []

-- what stands between the quotes of a value, if there is one
abbrev pub inner_of : Option Found → Option (List ℕ)
inner_of v = option_map (λ (f : Found). unquoted f.text) v

-- the reference to the steering server
abbrev pub server_text : Option Found → List ℕ
server_text None = []
server_text (Some v) = unquoted v.text
