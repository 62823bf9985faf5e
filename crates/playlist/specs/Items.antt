-- What a playlist describes. Assumes nothing.
use Rattle.std.specs.Prelude.{ℕ, Bool, cond, List, [], ◌∷◌, ◌++◌, map, Some, None, Option}
use Rattle.std.specs.List.{list_any}
use Rattle.std.specs.Str.{bytes_eq}
use Rattle.uri.specs.Splits.{without_fragment}
use Rattle.references.specs.Resolution.{resolved}
use Rattle.pathways.specs.declared.dialect.Dialect.TheVariants.{Hls}
use Rattle.pathways.specs.Meaning.{Pathway, Meaning}
use Rattle.tags.specs.Attributes.{or_nothing}
use Rattle.multivariant.specs.Tags.{server_of, id_of}
pub use Rattle.multivariant.specs.Items.{Item, item_of, items_of, steering_of, inner_of, foremost, server_text}

-- the IDs of streams, and their URI lines
abbrev pub ids_in : List Item → List (List ℕ)
ids_in items = map (λ x. x.id) items

abbrev pub uris_in : List Item → List (List ℕ)
uris_in items = map (λ x. x.uri) items

-- whether an ID is one of those
abbrev pub is_among : List ℕ → List (List ℕ) → Bool
is_among id ids = list_any (λ x. bytes_eq x id) ids

-- an ID that is new comes last
abbrev pub joining : List ℕ → List (List ℕ) → List (List ℕ)
joining id ids = cond (is_among id ids) ids (ids ++ id ∷ [])

-- the IDs of streams as they first appear, behind those that come before
abbrev pub in_order : (ids : List (List ℕ)) → List Item → List (List ℕ)
in_order ids [] = ids
in_order ids (x ∷ xs) = in_order (joining x.id ids) xs

-- the list of what is there
abbrev pub only : Option (List ℕ) → List (List ℕ)
only None = []
only (Some id) = id ∷ []

abbrev pub order_of : List ℕ → List (List ℕ)
order_of text = in_order (foremost (id_of (steering_of text))) (items_of text)

-- what a reference stands for
abbrev pub target_of : (own reference : List ℕ) → List ℕ
target_of own reference = or_nothing (resolved own reference)

-- the members of a pathway: the URIs of its streams
abbrev pub members_of : (own id : List ℕ) → List Item → List (List ℕ)
members_of own id [] = []
members_of own id (x ∷ xs) = cond (bytes_eq x.id id) (target_of own x.uri ∷ members_of own id xs) (members_of own id xs)

abbrev pub pathway_for : (own : List ℕ) → List Item → (id : List ℕ) → Pathway
pathway_for own items id = record { id = id; members = members_of own id items }

abbrev pub pathways_of : (own : List ℕ) → List Item → (order : List (List ℕ)) → List Pathway
pathways_of own items order = map (pathway_for own items) order

-- the steering URI is what SERVER-URI stands for, without its fragment
abbrev pub steering_for : (own server : List ℕ) → List ℕ
steering_for own server = without_fragment (target_of own server)

abbrev pub steering_uri : (own text : List ℕ) → List ℕ
steering_uri own text = steering_for own (server_text (server_of (steering_of text)))

-- the pathway that the steering tag names comes first, and the others as they first appear
abbrev pub pathways_in : (own text : List ℕ) → List Pathway
pathways_in own text = pathways_of own (items_of text) (order_of text)

-- a playlist of that text, which was fetched from `own`
abbrev pub meaning_of : (own text : List ℕ) → Meaning
meaning_of own text = record { dialect = Hls; steering = steering_uri own text; pathways = pathways_in own text }
