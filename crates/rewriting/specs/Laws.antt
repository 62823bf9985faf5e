-- What setting a parameter and replacing a host promise of the text that is answered. Assumes nothing.
use Rattle.std.specs.Prelude.{◌≡◌, ℕ, ◌≤◌, true, false, List, [], ◌∷◌, length, Some, None, Option}
use Rattle.std.specs.Option.{option_map}
use Rattle.terms.specs.Classes.{unreserved}
use Rattle.uri.specs.Cuts.{before, behind, holds}
use Rattle.uri.specs.Splits.{Split, split}
use Rattle.uri.specs.Legal.{is_host, escaped, legal}
use Rattle.rewriting.specs.Parameters.{pieces, named, assigned, others, set_to}

-- what holds of the text, if there is one
abbrev pub Answered : Option (List ℕ) → (List ℕ → Type 0) → Type 0
Answered None P = Unit {0}
Answered (Some text) P = P text

-- a name without `=`, `&` and `#`, and a value without `&` and `#`
pub record Plain (name value : List ℕ) : Type 0 where
  pub equals : holds 61 name ≡ false
  pub divider : holds 38 name ≡ false
  pub hash : holds 35 name ≡ false
  pub value_divider : holds 38 value ≡ false
  pub value_hash : holds 35 value ≡ false

-- the parts of a name
abbrev pub of_name : List ℕ → List (List ℕ) → List (List ℕ)
of_name name [] = []
of_name name (p ∷ ps) = elim (named name p) [ true ↦ p ∷ of_name name ps | false ↦ of_name name ps ]

-- one part of the query has the name, and gives it the value
abbrev pub Once : (name value : List ℕ) → Option (List ℕ) → Type 0
Once name value answer =
    Plain name value → Answered answer (λ text. of_name name (pieces (split text).query) ≡ assigned name value ∷ [])

-- the parts of other names are as they were, in their order
abbrev pub Others : (name value uri : List ℕ) → Option (List ℕ) → Type 0
Others name value uri answer =
    Plain name value → Answered answer (λ text. others name (pieces (split text).query) ≡ others name (pieces (split uri).query))

-- all but the query is the same
pub record SameButQuery (new old : Split) : Type 0 where
  pub scheme : new.scheme ≡ old.scheme
  pub authority : new.authority ≡ old.authority
  pub path : new.path ≡ old.path
  pub fragment : new.fragment ≡ old.fragment

abbrev pub Elsewhere : (name value uri : List ℕ) → Option (List ℕ) → Type 0
Elsewhere name value uri answer = Plain name value → Answered answer (λ text. SameButQuery (split text) (split uri))

-- setting the same once more changes nothing
abbrev pub Again : (name value : List ℕ) → Option (List ℕ) → Type 0
Again name value answer = Plain name value → Answered answer (λ text. set_to name value text ≡ text)

-- a legal URI stays legal up to 512 bytes, where the name and the value are unreserved bytes and escapes
abbrev pub StaysLegal : (name value uri : List ℕ) → Option (List ℕ) → Type 0
StaysLegal name value uri answer =
    legal uri ≡ true → escaped unreserved 0 name ≡ true → escaped unreserved 0 value ≡ true
    → Answered answer (λ text. length text ≤ 512 → legal text ≡ true)

-- the host is the new one
abbrev pub NewHost : (host uri : List ℕ) → Option (List ℕ) → Type 0
NewHost host uri answer =
    legal uri ≡ true → is_host host ≡ true → Answered answer (λ text. option_map (before 58) (split text).authority ≡ Some host)

-- all but the host is the same
pub record SameButHost (new old : Split) : Type 0 where
  pub scheme : new.scheme ≡ old.scheme
  pub port : option_map (behind 58) new.authority ≡ option_map (behind 58) old.authority
  pub path : new.path ≡ old.path
  pub query : new.query ≡ old.query
  pub fragment : new.fragment ≡ old.fragment

abbrev pub HostAlone : (host uri : List ℕ) → Option (List ℕ) → Type 0
HostAlone host uri answer = legal uri ≡ true → is_host host ≡ true → Answered answer (λ text. SameButHost (split text) (split uri))

-- a legal URI stays legal up to 512 bytes
abbrev pub HostLegal : (host uri : List ℕ) → Option (List ℕ) → Type 0
HostLegal host uri answer =
    legal uri ≡ true → is_host host ≡ true → Answered answer (λ text. length text ≤ 512 → legal text ≡ true)
