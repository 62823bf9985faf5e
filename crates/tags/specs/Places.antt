-- Where a part of a text stands. Assumes nothing.
use Rattle.std.specs.Prelude.{◌≡◌, ℕ, List, length, take, drop}

-- from the place on, the text reads as the part does
abbrev pub Lies : (text : List ℕ) (place : ℕ) (part : List ℕ) → Type 0
Lies text place part = take (length part) (drop place text) ≡ part
