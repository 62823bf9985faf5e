-- Which URIs are legal: RFC 3986's `scheme "://" authority path-abempty [ "?" query ] [ "#" fragment ]`, with narrower schemes and
-- authorities, in at most 512 bytes. Assumes nothing.
use Rattle.std.specs.Prelude.{ℕ, zero, suc, ◌+◌, ◌-◌, ◌*◌, Bool, true, false, ◌&&◌, ◌||◌, List, [], ◌∷◌, map, length, Some, None, codes, Option, ◌==◌, nat_le}
use Rattle.std.specs.Char.{to_ascii_lowercase}
use Rattle.std.specs.Str.{bytes_eq}
use Rattle.terms.specs.Classes.{digit, unreserved, sub_delimiter, hex_digit, every, is_name}
use Rattle.uri.specs.Cuts.{before, behind}
use Rattle.uri.specs.Splits.{Split, split}

-- scheme: http or https, in any case of the letters
abbrev pub is_scheme : List ℕ → Bool
is_scheme text = bytes_eq (map to_ascii_lowercase text) (codes "http") || bytes_eq (map to_ascii_lowercase text) (codes "https")

-- host: 1 to 128 name bytes
abbrev pub is_host : List ℕ → Bool
is_host text = is_name 128 text

-- the number that decimal digits stand for, behind those that stand for n
abbrev pub value : ℕ → List ℕ → ℕ
value n [] = n
value n (b ∷ bs) = value (n * 10 + (b - 48)) bs

-- port: 1 to 5 digits of a number up to 65,535
abbrev pub is_port : List ℕ → Bool
is_port text = (nat_le 1 (length text) && nat_le (length text) 5) && (every digit text && nat_le (value 0 text) 65535)

-- a part that may be absent
abbrev pub if_present : (List ℕ → Bool) → Option (List ℕ) → Bool
if_present test None = true
if_present test (Some text) = test text

-- a part that has to be present
abbrev pub present : (List ℕ → Bool) → Option (List ℕ) → Bool
present test None = false
present test (Some text) = test text

-- authority: host [ ":" port ]
abbrev pub is_authority : List ℕ → Bool
is_authority text = is_host (before 58 text) && if_present is_port (behind 58 text)

-- pchar, but for escapes: unreserved, sub-delimiter, `:` or `@`
abbrev pub pchar : ℕ → Bool
pchar b = unreserved b || (sub_delimiter b || (b == 58 || b == 64))

-- `pchar` or `/`
abbrev pub path_byte : ℕ → Bool
path_byte b = pchar b || b == 47

-- `pchar`, `/` or `?`
abbrev pub query_byte : ℕ → Bool
query_byte b = pchar b || (b == 47 || b == 63)

-- Each byte is allowed as it stands, or is `%` with two hex digits behind it. `due` digits of an escape are still to come.
abbrev pub escaped : (ℕ → Bool) → ℕ → List ℕ → Bool
escaped allowed zero [] = true
escaped allowed (suc due) [] = false
escaped allowed zero (b ∷ bs) = elim (b == 37) [ true ↦ escaped allowed 2 bs | false ↦ allowed b && escaped allowed 0 bs ]
escaped allowed (suc due) (b ∷ bs) = hex_digit b && escaped allowed due bs

-- path-abempty: segments of `pchar`, each behind a `/`. (Behind an authority a path begins with `/` or is empty.)
abbrev pub is_path : List ℕ → Bool
is_path text = escaped path_byte 0 text

abbrev pub is_query : List ℕ → Bool
is_query text = escaped query_byte 0 text

abbrev pub legal_parts : Split → Bool
legal_parts p =
    (present is_scheme p.scheme && present is_authority p.authority)
    && (is_path p.path && (if_present is_query p.query && if_present is_query p.fragment))

abbrev pub legal : List ℕ → Bool
legal text = nat_le (length text) 512 && legal_parts (split text)
