-- The four sets of bytes that texts are judged by. Assumes nothing.
use Rattle.std.specs.Prelude.{ℕ, suc, ◌+◌, Bool, true, false, cond, not, ◌&&◌, ◌||◌, List, [], ◌∷◌, length, codes, ◌==◌, bit_and, nat_le}
use Rattle.std.specs.List.{list_all}

-- from one byte to another, both included
abbrev pub within : ℕ → ℕ → ℕ → Bool
within low high b = nat_le low b && nat_le b high

-- 0 to 9
abbrev pub digit : ℕ → Bool
digit b = within 48 57 b

-- A to Z, a to z
abbrev pub letter : ℕ → Bool
letter b = within 65 90 b || within 97 122 b

abbrev pub one_of : List ℕ → ℕ → Bool
one_of [] b = false
one_of (x ∷ xs) b = b == x || one_of xs b

abbrev pub unreserved : ℕ → Bool
unreserved b = letter b || (digit b || one_of (codes "-._~") b)

abbrev pub sub_delimiter : ℕ → Bool
sub_delimiter b = one_of (codes "!$&'()*+,;=") b

-- 0 to 9, A to F, a to f
abbrev pub hex_digit : ℕ → Bool
hex_digit b = digit b || (within 65 70 b || within 97 102 b)

abbrev pub name_byte : ℕ → Bool
name_byte b = letter b || (digit b || one_of (codes ".-_") b)

-- every byte of a text passes
abbrev pub every : (ℕ → Bool) → List ℕ → Bool
every test text = list_all test text

-- 1 to `most` name bytes
abbrev pub is_name : ℕ → List ℕ → Bool
is_name most text = nat_le 1 (length text) && (nat_le (length text) most && every name_byte text)

-- one number for the four: a bit for each set that the byte is in
abbrev pub classes : ℕ → ℕ
classes b = cond (unreserved b) 1 0 + (cond (sub_delimiter b) 2 0 + (cond (hex_digit b) 4 0 + cond (name_byte b) 8 0))

-- a number has a bit
abbrev pub holds : ℕ → ℕ → Bool
holds n bit = not (bit_and n bit == 0)

-- each entry of a table is what the rule says of its place, the first place being i
abbrev pub obeys : (ℕ → ℕ) → ℕ → List ℕ → Bool
obeys rule i [] = true
obeys rule i (x ∷ xs) = x == rule i && obeys rule (suc i) xs
