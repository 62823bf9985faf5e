-- What RFC 3986's grammar derives, with the narrower schemes and authorities of this crate. Assumes nothing.
use Rattle.std.specs.Prelude.{◌≡◌, ℕ, ◌≤◌, Bool, true, ◌⊎◌, List, [], ◌∷◌, ◌++◌, length, codes}
use Rattle.terms.specs.Classes.{hex_digit}
use Rattle.uri.specs.Legal.{is_scheme, is_host, is_port, pchar, query_byte}

-- Bytes that are allowed as they stand, and escapes: `%` with two hex digits.
pub data Run (allowed : ℕ → Bool) : List ℕ → Type 0 where
  end : Run allowed []
  byte : {b : ℕ} {bs : List ℕ} → allowed b ≡ true → Run allowed bs → Run allowed (b ∷ bs)
  escape : {h l : ℕ} {bs : List ℕ} → hex_digit h ≡ true → hex_digit l ≡ true → Run allowed bs → Run allowed (37 ∷ h ∷ l ∷ bs)

-- path-abempty = *( "/" segment ), where a segment is a run of `pchar`.
pub data Path : List ℕ → Type 0 where
  none : Path []
  segment : {s rest : List ℕ} → Run pchar s → Path rest → Path (47 ∷ (s ++ rest))

-- Nothing, or a mark and a text behind it that P derives.
abbrev pub Optional : ℕ → (List ℕ → Type 0) → List ℕ → Type 0
Optional mark P text = (text ≡ []) ⊎ ((rest : List ℕ) × (text ≡ mark ∷ rest) × P rest)

-- scheme "://" host [ ":" port ] path-abempty [ "?" query ] [ "#" fragment ], in at most 512 bytes.
pub record Uri (text : List ℕ) : Type 0 where
  pub scheme : List ℕ
  pub host : List ℕ
  pub port : List ℕ
  pub path : List ℕ
  pub query : List ℕ
  pub fragment : List ℕ
  pub whole : text ≡ scheme ++ (codes "://" ++ (host ++ (port ++ (path ++ (query ++ fragment)))))
  pub scheme_is : is_scheme scheme ≡ true
  pub host_is : is_host host ≡ true
  pub port_is : Optional 58 (λ digits. is_port digits ≡ true) port
  pub path_is : Path path
  pub query_is : Optional 63 (Run query_byte) query
  pub fragment_is : Optional 35 (Run query_byte) fragment
  pub short : length text ≤ 512
