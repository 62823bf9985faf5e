-- A test of every byte, byte by byte. Assumes nothing.
use Rattle.std.proofs.Common.{◌≡◌, ℕ, ◌≤◌, Bool, List, length}
use Rattle.std.proofs.lemmas.Bool.{le-leb}
use Rattle.terms.specs.Classes.{every, name_byte, is_name}

pub name_by_bytes : (most : ℕ) (text : List ℕ) (b : Bool) → 1 ≤ length text → length text ≤ most → every name_byte text ≡ b → is_name most text ≡ b
name_by_bytes most text b h k e = rw (le-leb 1 (length text) h, le-leb (length text) most k) e
