-- The attribute list of a tag, as RFC 8216 writes it (section 4.2): name `=` value, with commas between. Assumes nothing.
use Rattle.std.specs.Prelude.{ℕ, suc, ◌+◌, Bool, true, false, cond, not, ◌&&◌, ◌||◌, List, [], ◌∷◌, length, drop, Some, None, Option, ◌==◌, nat_le, nat_lt}
use Rattle.std.specs.List.{list_all, list_any}
use Rattle.std.specs.Str.{bytes_eq}
use Rattle.terms.specs.Classes.{digit, every}
use Rattle.uri.specs.Cuts.{before, behind, onto}

-- whether a byte stands between quotes, behind the byte b
abbrev pub now_quoted : (quoted : Bool) → ℕ → Bool
now_quoted quoted b = cond (b == 34) (not quoted) quoted

-- a comma that does not stand between quotes
abbrev pub parting : (quoted : Bool) → ℕ → Bool
parting quoted b = b == 44 && not quoted

-- the fields of a list: what stands between the commas that do not stand between quotes
abbrev pub fields : (quoted : Bool) → List ℕ → List (List ℕ)
fields quoted [] = [] ∷ []
fields quoted (b ∷ bs) = onto b (parting quoted b) (fields (now_quoted quoted b) bs)

-- how many bytes the first field has
abbrev pub field_length : (quoted : Bool) → List ℕ → ℕ
field_length quoted [] = 0
field_length quoted (b ∷ bs) = cond (parting quoted b) 0 (suc (field_length (now_quoted quoted b) bs))

-- a field and the place where it begins
pub record Field : Type 0 where
  pub place : ℕ
  pub text : List ℕ

-- each field with its place, the first of them at `at`
abbrev pub placed : (at : ℕ) → List (List ℕ) → List Field
placed at [] = []
placed at (f ∷ fs) = record { place = at; text = f } ∷ placed (at + length f + 1) fs

abbrev pub fields_of : List ℕ → List Field
fields_of list = placed 0 (fields false list)

-- the fields from the one that begins at `at`
abbrev pub fields_at : (at : ℕ) → List ℕ → List Field
fields_at at list = cond (nat_le at (length list)) (placed at (fields false (drop at list))) []

-- a name has one or more of A to Z, 0 to 9 and `-`
abbrev pub attribute_byte : ℕ → Bool
attribute_byte b = (nat_le 65 b && nat_le b 90) || (digit b || b == 45)

abbrev pub is_attribute_name : List ℕ → Bool
is_attribute_name name = nat_lt 0 (length name) && every attribute_byte name

-- between quotes stands any byte but a quote, CR and LF
abbrev pub quotable : ℕ → Bool
quotable b = not (b == 34) && (not (b == 13) && not (b == 10))

-- without quotes, any byte above the space but a quote, a comma and DEL
abbrev pub unquotable : ℕ → Bool
unquotable b = nat_lt 32 b && (not (b == 34) && (not (b == 44) && not (b == 127)))

abbrev pub is_nothing : Option (List ℕ) → Bool
is_nothing None = false
is_nothing (Some []) = true
is_nothing (Some (x ∷ xs)) = false

-- what stands behind the opening quote: quotable bytes, the closing quote, and no more
abbrev pub is_closed : List ℕ → Bool
is_closed rest = is_nothing (behind 34 rest) && every quotable (before 34 rest)

abbrev pub is_plain : List ℕ → Bool
is_plain value = nat_lt 0 (length value) && every unquotable value

abbrev pub is_quoted : List ℕ → Bool
is_quoted [] = false
is_quoted (b ∷ bs) = b == 34

-- a value: a quoted string, or bytes without quotes
abbrev pub is_value : List ℕ → Bool
is_value value = cond (is_quoted value) (is_closed (drop 1 value)) (is_plain value)

abbrev pub if_value : Option (List ℕ) → Bool
if_value None = false
if_value (Some value) = is_value value

-- a field: name, `=`, value
abbrev pub is_attribute : List ℕ → Bool
is_attribute field = is_attribute_name (before 61 field) && if_value (behind 61 field)

abbrev pub are_attributes : List Field → Bool
are_attributes fs = list_all (λ (f : Field). is_attribute f.text) fs

-- whether a list has the syntax
abbrev pub is_list : List ℕ → Bool
is_list list = are_attributes (fields_of list)

abbrev pub is_named : List ℕ → Field → Bool
is_named name f = bytes_eq (before 61 f.text) name

-- whether one of the fields has the name
abbrev pub has_name : List ℕ → List Field → Bool
has_name name fs = list_any (is_named name) fs

-- whether a name occurs twice
abbrev pub repeats : List Field → Bool
repeats [] = false
repeats (f ∷ fs) = has_name (before 61 f.text) fs || repeats fs

abbrev pub repeats_name : List ℕ → Bool
repeats_name list = repeats (fields_of list)

-- a value: where it begins in the list, quote included, and its bytes
pub record Found : Type 0 where
  pub place : ℕ
  pub text : List ℕ

abbrev pub or_nothing : Option (List ℕ) → List ℕ
or_nothing None = []
or_nothing (Some text) = text

-- what stands behind the name and its `=`
abbrev pub found_in : Field → Found
found_in f = record { place = f.place + length (before 61 f.text) + 1; text = or_nothing (behind 61 f.text) }

-- the value of the first field that has the name
abbrev pub value_in : List ℕ → List Field → Option Found
value_in name [] = None
value_in name (f ∷ fs) = cond (is_named name f) (Some (found_in f)) (value_in name fs)

abbrev pub value_of : (name list : List ℕ) → Option Found
value_of name list = value_in name (fields_of list)

-- what stands between the quotes of a quoted value
abbrev pub unquoted : List ℕ → List ℕ
unquoted value = before 34 (drop 1 value)
