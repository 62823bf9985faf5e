-- The bytes that may stand in a part of an attribute. Assumes nothing.
use Rattle.std.specs.Prelude.{ℕ, Bool}
use Rattle.tags.specs.declared.charset.Charset.{Charset}
use Rattle.tags.specs.declared.charset.Charset.TheVariants.{Name, Quoted, Plain}
use Rattle.tags.specs.Attributes.{attribute_byte, quotable, unquotable}

abbrev pub stands : Charset → ℕ → Bool
stands Name = attribute_byte
stands Quoted = quotable
stands Plain = unquotable
