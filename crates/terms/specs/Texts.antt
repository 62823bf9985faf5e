-- The bytes of a bounded text. Assumes nothing.
use Rattle.std.specs.Prelude.{ℕ, cond, List, length, take, Some, None, Option, nat_le}
use Rattle.terms.specs.declared.text.Text.{Text}

abbrev pub content : {N : ℕ} → Text N → List ℕ
content t = take t.len t.bytes

-- a text, where it has at most n bytes
abbrev pub bounded : ℕ → List ℕ → Option (List ℕ)
bounded n text = cond (nat_le (length text) n) (Some text) None
