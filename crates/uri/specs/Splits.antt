-- The five parts of a URI or a reference, as RFC 3986 cuts them (section 3 and appendix B). Assumes nothing.
use Rattle.std.specs.Prelude.{ℕ, ◌+◌, Bool, false, cond, not, ◌&&◌, List, [], ◌∷◌, drop, Some, None, Option, ◌==◌, nat_lt}
use Rattle.uri.specs.Cuts.{place, before, behind, holds}

-- the fragment stands behind the first `#`
abbrev pub without_fragment : List ℕ → List ℕ
without_fragment text = before 35 text

abbrev pub fragment : List ℕ → Option (List ℕ)
fragment text = behind 35 text

-- the query stands behind the first `?` before that
abbrev pub without_query : List ℕ → List ℕ
without_query text = before 63 (without_fragment text)

abbrev pub query : List ℕ → Option (List ℕ)
query text = behind 63 (without_fragment text)

-- one or more bytes before a `:`, none of them `/`, are a scheme
abbrev pub has_scheme : List ℕ → Bool
has_scheme text = holds 58 text && (nat_lt 0 (place 58 text) && not (holds 47 (before 58 text)))

abbrev pub scheme : List ℕ → Option (List ℕ)
scheme text = cond (has_scheme text) (Some (before 58 text)) None

abbrev pub behind_scheme : List ℕ → List ℕ
behind_scheme text = cond (has_scheme text) (drop (place 58 text + 1) text) text

-- `//` begins an authority, which goes on to the next `/`
abbrev pub slashes : List ℕ → Bool
slashes [] = false
slashes (x ∷ []) = false
slashes (x ∷ y ∷ rest) = x == 47 && y == 47

abbrev pub authority : List ℕ → Option (List ℕ)
authority text = cond (slashes text) (Some (before 47 (drop 2 text))) None

-- the path is the rest
abbrev pub path : List ℕ → List ℕ
path text = cond (slashes text) (drop (place 47 (drop 2 text)) (drop 2 text)) text

pub record Split : Type 0 where
  pub scheme : Option (List ℕ)
  pub authority : Option (List ℕ)
  pub path : List ℕ
  pub query : Option (List ℕ)
  pub fragment : Option (List ℕ)

abbrev pub split : List ℕ → Split
split text =
    record {
      scheme = scheme (without_query text);
      authority = authority (behind_scheme (without_query text));
      path = path (behind_scheme (without_query text));
      query = query text;
      fragment = fragment text;
    }
