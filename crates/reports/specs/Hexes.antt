-- The bytes that small hex digits stand for. Assumes nothing.
use Rattle.std.specs.Prelude.{ℕ, ◌+◌, ◌*◌, cond, List, [], ◌∷◌, Some, None, Ok, Err, Option, Result}
use Rattle.std.specs.Char.{is_ascii_uppercase}
use Rattle.std.specs.List.{list_any}
use Rattle.std.specs.declared.io.ErrorKind.{ErrorKind}
use Rattle.std.specs.declared.io.ErrorKind.TheVariants as kinds
use Rattle.hex.specs.declared.error.FromHexError.{FromHexError}
use Rattle.hex.specs.declared.error.FromHexError.TheVariants.{InvalidHexCharacter, OddLength, InvalidStringLength, OutOfMemory}
use Rattle.hex.specs.Hex.{hex_digit_value, decode_of}
use Rattle.reports.specs.declared.hexes.Unreadable.{Unreadable}
use Rattle.reports.specs.declared.hexes.Unreadable.TheVariants.{Damaged, NoMemory}

-- what the library that reads them gives, without its error
abbrev pub if_decoded : Result (List ℕ) FromHexError → Option (List ℕ)
if_decoded (Ok bytes) = Some bytes
if_decoded (Err e) = None

-- what a digit counts, if it is one and not in upper case
abbrev pub digit_of : ℕ → Option ℕ
digit_of c = cond (is_ascii_uppercase c) None (hex_digit_value c)

-- a byte of what its two digits count, where both do
abbrev pub of_pair : Option ℕ → Option ℕ → Option ℕ
of_pair (Some high) (Some low) = Some (high * 16 + low)
of_pair _ _ = None

-- the byte of two digits; none where these are not two, or no such digits
abbrev pub byte_of : List ℕ → Option ℕ
byte_of (high ∷ low ∷ []) = of_pair (digit_of high) (digit_of low)
byte_of _ = None

-- two digits a byte, none of them in upper case
abbrev pub bytes_of : List ℕ → Option (List ℕ)
bytes_of digits = cond (list_any is_ascii_uppercase digits) None (if_decoded (decode_of digits))

-- why there are no bytes, by the error of the library that reads them
abbrev pub reason_of : FromHexError → Unreadable
reason_of OutOfMemory = NoMemory
reason_of OddLength = Damaged
reason_of InvalidStringLength = Damaged
reason_of (InvalidHexCharacter c i) = Damaged

-- as what kind of error a program hands it on
abbrev pub kind_of : Unreadable → ErrorKind
kind_of Damaged = kinds.InvalidData
kind_of NoMemory = kinds.OutOfMemory
