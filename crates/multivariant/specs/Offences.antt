-- Each rule of a playlist, as the place of the first offence against it, if there is one. Assumes nothing.
use Rattle.std.specs.Prelude.{ℕ, ◌+◌, Bool, true, false, cond, not, ◌&&◌, ◌||◌, List, [], ◌∷◌, ◌++◌, length, Some, None, codes, Option, ◌==◌, nat_le}
use Rattle.std.specs.Str.{bytes_eq}
use Rattle.uri.specs.Cuts.{before}
use Rattle.uri.specs.Legal.{legal}
use Rattle.references.specs.Resolution.{resolved}
use Rattle.pathways.specs.Limits.{legal_id}
use Rattle.pathways.specs.Rules.{placed}
pub use Rattle.pathways.specs.Rules.{bad_length}
use Rattle.tags.specs.declared.kind.Kind.{Kind}
use Rattle.tags.specs.declared.kind.Kind.TheVariants.{Steering, Stream, Uri, Other}
use Rattle.tags.specs.Lines.{Row}
use Rattle.tags.specs.Attributes.{Found, is_list, repeats_name, is_quoted, unquoted}
use Rattle.multivariant.specs.Rules.{Rule, ListThere, ListSound, NamesApart, ServerQuoted, UriLine, IdLegal, IdQuoted, UriLegal, IdKnown}
use Rattle.multivariant.specs.Tags.{is_tag, is_steering, is_stream, list_of, server_of, id_of, spot_of, is_quoted_value}
use Rattle.multivariant.specs.Streams.{Served, streams_of, pathway_of, has_stream, count_of}

-- the playlist's own URI is illegal
abbrev pub bad_own : List ℕ → Option ℕ
bad_own own = placed (not (legal own)) 0

abbrev pub is_first : List Row → Bool
is_first [] = false
is_first (r ∷ rs) = bytes_eq r.text (codes "#EXTM3U")

-- the first line is not `#EXTM3U`
abbrev pub bad_header : List Row → Option ℕ
bad_header rows = placed (not (is_first rows)) 0

-- whether a URI line comes before the next stream tag
abbrev pub is_served : List Row → Bool
is_served [] = false
is_served (r ∷ rs) = elim r.kind [ Steering ↦ is_served rs | Stream ↦ false | Uri ↦ true | Other ↦ is_served rs ]

abbrev pub stands : Option (List ℕ) → Bool
stands None = false
stands (Some uri) = true

-- a quoted PATHWAY-ID that is no legal ID
abbrev pub bad_id : Row → Option Found → Option ℕ
bad_id r None = None
bad_id r (Some v) = placed (is_quoted v.text && not (legal_id (unquoted v.text))) (spot_of r v)

abbrev pub bare_id : Row → Option Found → Option ℕ
bare_id r None = None
bare_id r (Some v) = placed (not (is_quoted v.text)) (spot_of r v)

-- a SERVER-URI that stands for no URI
abbrev pub bad_value : (own : List ℕ) → Row → Found → Option ℕ
bad_value own r v = placed (not (stands (resolved own (unquoted v.text)))) (spot_of r v)

abbrev pub bad_server : (own : List ℕ) → Row → Option Found → Option ℕ
bad_server own r None = None
bad_server own r (Some v) = bad_value own r v

abbrev pub bad_uri : (own : List ℕ) → Row → Kind → Option ℕ
bad_uri own r Steering = bad_server own r (server_of r)
bad_uri own r Stream = None
bad_uri own r Uri = placed (not (stands (resolved own r.text))) r.place
bad_uri own r Other = None

-- whether a steering tag's PATHWAY-ID, if it has one, is the pathway of a stream
abbrev pub is_known : List Served → Option Found → Bool
is_known streams None = true
is_known streams (Some v) = has_stream (unquoted v.text) streams

abbrev pub if_tag : Kind → Option ℕ → Option ℕ
if_tag k o = cond (is_tag k) o None

-- whether a line, behind which the lines `rest` stand, breaks a rule as a whole
abbrev pub breaks : (text : List ℕ) → Rule → Row → (rest : List Row) → Bool
breaks text ListThere r rest = is_tag r.kind && length (list_of r) == 0
breaks text ListSound r rest = is_tag r.kind && not (is_list (list_of r))
breaks text NamesApart r rest = is_tag r.kind && repeats_name (list_of r)
breaks text ServerQuoted r rest = is_steering r.kind && not (is_quoted_value (server_of r))
breaks text UriLine r rest = is_stream r.kind && not (is_served rest)
breaks text IdKnown r rest = is_steering r.kind && not (is_known (streams_of text) (id_of r))
breaks text IdLegal r rest = false
breaks text IdQuoted r rest = false
breaks text UriLegal r rest = false

-- an offence of one line against a rule: a value in it, or else the line
abbrev pub offence : (own text : List ℕ) → Rule → Row → (rest : List Row) → Option ℕ
offence own text IdLegal r rest = if_tag r.kind (bad_id r (id_of r))
offence own text IdQuoted r rest = if_tag r.kind (bare_id r (id_of r))
offence own text UriLegal r rest = bad_uri own r r.kind
offence own text ListThere r rest = placed (breaks text ListThere r rest) r.place
offence own text ListSound r rest = placed (breaks text ListSound r rest) r.place
offence own text NamesApart r rest = placed (breaks text NamesApart r rest) r.place
offence own text ServerQuoted r rest = placed (breaks text ServerQuoted r rest) r.place
offence own text UriLine r rest = placed (breaks text UriLine r rest) r.place
offence own text IdKnown r rest = placed (breaks text IdKnown r rest) r.place

abbrev pub or_else : Option ℕ → Option ℕ → Option ℕ
or_else None other = other
or_else (Some p) other = Some p

-- the first line that breaks a rule
abbrev pub first : (own text : List ℕ) → Rule → List Row → Option ℕ
first own text rule [] = None
first own text rule (r ∷ rs) = or_else (offence own text rule r rs) (first own text rule rs)

-- no steering tag: the text's end; a second one: its line
abbrev pub bad_steering : (end : ℕ) (seen : Bool) → List Row → Option ℕ
bad_steering end seen [] = placed (not seen) end
bad_steering end seen (r ∷ rs) =
    cond (is_steering r.kind && seen) (Some r.place) (bad_steering end (is_steering r.kind || seen) rs)

-- a stream too many, where `same` streams of its pathway and `pathways` pathways stand before it
abbrev pub excess : (pathways same : ℕ) → Bool
excess pathways same = cond (same == 0) (nat_le 16 pathways) (nat_le 32 same)

abbrev pub pathways_now : (pathways same : ℕ) → ℕ
pathways_now pathways same = cond (same == 0) (pathways + 1) pathways

-- the tag of the first stream by which a count passes its limit; the streams `before` stand before
abbrev pub overrun : (pathways : ℕ) (before : List Served) → List Served → Option ℕ
overrun pathways before [] = None
overrun pathways before (s ∷ ss) =
    cond (excess pathways (count_of (pathway_of s) before)) (Some s.tag.place)
    (overrun (pathways_now pathways (count_of (pathway_of s) before)) (before ++ s ∷ []) ss)

-- a count outside its limits; where there is no stream, the text's end
abbrev pub bad_count : (end : ℕ) → List Served → Option ℕ
bad_count end [] = Some end
bad_count end (s ∷ ss) = overrun 0 [] (s ∷ ss)
