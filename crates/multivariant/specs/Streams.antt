-- The streams of a playlist: each has a tag and a URI line. Assumes nothing.
use Rattle.std.specs.Prelude.{ℕ, suc, Bool, false, cond, List, [], ◌∷◌}
use Rattle.std.specs.List.{list_any}
use Rattle.std.specs.Str.{bytes_eq}
use Rattle.tags.specs.declared.kind.Kind.TheVariants.{Steering, Stream, Uri, Other}
use Rattle.tags.specs.Lines.{Row, rows_of, rows_at}
use Rattle.multivariant.specs.Tags.{is_steering, id_of, named}

pub record Served : Type 0 where
  pub tag : Row
  pub uri : Row

-- the line that stands for a tag where none was read
abbrev pub no_tag : Row
no_tag = record { kind = Other; place = 0; text = [] }

-- each URI line, with the latest stream tag before it
abbrev pub streams_in : (tag : Row) → List Row → List Served
streams_in tag [] = []
streams_in tag (r ∷ rs) = elim r.kind [
  | Steering ↦ streams_in tag rs
  | Stream ↦ streams_in r rs
  | Uri ↦ record { tag = tag; uri = r } ∷ streams_in no_tag rs
  | Other ↦ streams_in tag rs
]

abbrev pub streams_of : List ℕ → List Served
streams_of text = streams_in no_tag (rows_of text)

-- the streams from the line that begins at `at`
abbrev pub streams_at : (at : ℕ) → List ℕ → List Served
streams_at at text = streams_in no_tag (rows_at at false text)

-- the pathway that a stream belongs to
abbrev pub pathway_of : Served → List ℕ
pathway_of s = named (id_of s.tag)

abbrev pub is_of : List ℕ → Served → Bool
is_of id s = bytes_eq (pathway_of s) id

-- whether a pathway has a stream
abbrev pub has_stream : List ℕ → List Served → Bool
has_stream id ss = list_any (is_of id) ss

-- how many streams a pathway has
abbrev pub count_of : List ℕ → List Served → ℕ
count_of id [] = 0
count_of id (s ∷ ss) = cond (is_of id s) (suc (count_of id ss)) (count_of id ss)

-- the first steering tag
abbrev pub steering_in : List Row → Row
steering_in [] = no_tag
steering_in (r ∷ rs) = cond (is_steering r.kind) r (steering_in rs)
