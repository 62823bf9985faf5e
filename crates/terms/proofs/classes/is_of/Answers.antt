use Rattle.std.proofs.Common.{◌≡◌, ℕ, get_or, ap, ◌∙◌, arith}
use Rattle.terms.specs.declared.classes.Class.{Class}
use Rattle.terms.specs.declared.classes.Class.TheVariants.{Unreserved, SubDelimiter, HexDigit, NameByte}
use Rattle.terms.specs.Classes.{classes, holds, unreserved, sub_delimiter, hex_digit, name_byte}
use Rattle.terms.specs.Members.{class_bit, belongs}
use Rattle.terms.proofs.Bitsets.{answers}
use Rattle.terms.proofs.Entries.{entry_obeys}
use Rattle.terms.proofs.classes.is_of.Goals as goal

has_bit : (b : ℕ) (class : Class) → holds (classes b) (class_bit class) ≡ belongs class b
has_bit b Unreserved = (answers (unreserved b) (sub_delimiter b) (hex_digit b) (name_byte b)).first
has_bit b SubDelimiter = (answers (unreserved b) (sub_delimiter b) (hex_digit b) (name_byte b)).second
has_bit b HexDigit = (answers (unreserved b) (sub_delimiter b) (hex_digit b) (name_byte b)).third
has_bit b NameByte = (answers (unreserved b) (sub_delimiter b) (hex_digit b) (name_byte b)).fourth

-- the table's rule at the byte's entry
pub returns : goal.returns
returns c =
    let b = c.args.byte in
    let is : get_or c.table.result.now b 0 ≡ classes b = entry_obeys classes c.table.result.now 256 c.table.ensures.len c.table.ensures.rule b (omega arith) in
    ap (λ (i : ℕ). holds (get_or c.table.result.now i 0) c.bit.result) c.from.ensures
    ∙ ap (λ (n : ℕ). holds (get_or c.table.result.now b 0) n) c.bit.ensures
    ∙ ap (λ (n : ℕ). holds n (class_bit c.args.class)) is
    ∙ has_bit b c.args.class
