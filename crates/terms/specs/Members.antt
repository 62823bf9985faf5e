-- The bytes of each class, and the class's bit in an entry of the table. Assumes nothing.
use Rattle.std.specs.Prelude.{ℕ, Bool}
use Rattle.terms.specs.declared.classes.Class.{Class}
use Rattle.terms.specs.declared.classes.Class.TheVariants.{Unreserved, SubDelimiter, HexDigit, NameByte}
use Rattle.terms.specs.Classes.{unreserved, sub_delimiter, hex_digit, name_byte}

-- the bit that stands for the class in an entry of the table
abbrev pub class_bit : Class → ℕ
class_bit Unreserved = 1
class_bit SubDelimiter = 2
class_bit HexDigit = 4
class_bit NameByte = 8

-- whether a byte is of the class, by the set that the class names
abbrev pub belongs : Class → ℕ → Bool
belongs Unreserved = unreserved
belongs SubDelimiter = sub_delimiter
belongs HexDigit = hex_digit
belongs NameByte = name_byte
