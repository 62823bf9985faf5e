-- What the two tags say. Assumes nothing.
use Rattle.std.specs.Prelude.{ℕ, ◌+◌, Bool, true, false, List, drop, Some, None, codes, Option}
use Rattle.tags.specs.declared.kind.Kind.{Kind}
use Rattle.tags.specs.declared.kind.Kind.TheVariants.{Steering, Stream, Uri, Other}
use Rattle.tags.specs.Lines.{Row}
use Rattle.tags.specs.Attributes.{Found, value_of, is_quoted, unquoted}

abbrev pub is_tag : Kind → Bool
is_tag Steering = true
is_tag Stream = true
is_tag Uri = false
is_tag Other = false

abbrev pub is_steering : Kind → Bool
is_steering Steering = true
is_steering Stream = false
is_steering Uri = false
is_steering Other = false

abbrev pub is_stream : Kind → Bool
is_stream Steering = false
is_stream Stream = true
is_stream Uri = false
is_stream Other = false

-- how many bytes the tag's name has: `#EXT-X-CONTENT-STEERING:` or `#EXT-X-STREAM-INF:`
abbrev pub name_length : Kind → ℕ
name_length Steering = 24
name_length Stream = 18
name_length Uri = 0
name_length Other = 0

-- the attribute list of a tag, which stands behind its name
abbrev pub list_of : Row → List ℕ
list_of r = drop (name_length r.kind) r.text

abbrev pub server_of : Row → Option Found
server_of r = value_of (codes "SERVER-URI") (list_of r)

abbrev pub id_of : Row → Option Found
id_of r = value_of (codes "PATHWAY-ID") (list_of r)

-- where a value stands in the playlist
abbrev pub spot_of : Row → Found → ℕ
spot_of r v = r.place + name_length r.kind + v.place

-- the pathway of a stream tag: what stands between the quotes, and `.` where no pathway is named
abbrev pub named : Option Found → List ℕ
named None = codes "."
named (Some v) = unquoted v.text

abbrev pub is_quoted_value : Option Found → Bool
is_quoted_value None = false
is_quoted_value (Some v) = is_quoted v.text
