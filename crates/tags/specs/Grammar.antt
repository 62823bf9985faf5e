-- What the grammar after RFC 8216, section 4.2, derives as an attribute list. Assumes nothing.
use Rattle.std.specs.Prelude.{◌≡◌, ℕ, true, List, [], ◌∷◌, ◌++◌}
use Rattle.terms.specs.Classes.{every}
use Rattle.tags.specs.Attributes.{is_attribute_name, quotable, unquotable}

-- A quoted string, or one or more bytes without quotes.
pub data AttributeValue : List ℕ → Type 0 where
  quoted : (inner : List ℕ) → every quotable inner ≡ true → AttributeValue (34 ∷ (inner ++ 34 ∷ []))
  plain : {b : ℕ} {bs : List ℕ} → every unquotable (b ∷ bs) ≡ true → AttributeValue (b ∷ bs)

-- attribute = name "=" value.
pub data Attribute : List ℕ → Type 0 where
  named : (name : List ℕ) {value : List ℕ} → is_attribute_name name ≡ true → AttributeValue value → Attribute (name ++ 61 ∷ value)

-- attribute-list = attribute *( "," attribute ).
pub data AttributeList : List ℕ → Type 0 where
  one : {a : List ℕ} → Attribute a → AttributeList a
  more : {a rest : List ℕ} → Attribute a → AttributeList rest → AttributeList (a ++ 44 ∷ rest)
