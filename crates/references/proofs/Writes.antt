-- A path whose dot segments are removed where it stands, at the end of a text. Assumes nothing.
use Rattle.std.proofs.Common.{◌≡◌, ℕ, ◌+◌, ◌-◌, ◌≤◌, List, ◌++◌, length, take, drop, sym, refl, ap, ◌∙◌, append_assoc, arith, length-append, take-append-drop}
use borrow.Rule.Slice.PartMut.{put_mid}
use Rattle.std.proofs.lemmas.List.{take-take, take_at, length-take-le}
use Rattle.std.proofs.lemmas.Slice.{between_is, take-put_mid}
use Rattle.references.specs.Paths.{without_dots}

-- after a write to a part of a text, the front goes on with what was written
put_front : (a k n : ℕ) (xs ys : List ℕ) → a ≤ length xs → n ≤ length ys → take (a + n) (put_mid a k xs ys) ≡ take a xs ++ take n ys
put_front a k n xs ys inside h =
    sym (take-take (a + n) (a + length ys) (put_mid a k xs ys) (omega arith))
    ∙ ap (take (a + n)) (take-put_mid a k xs ys (a + length ys) refl inside)
    ∙ ap (λ (l : List ℕ). take (a + n) (take a xs ++ l)) (sym (take-append-drop n ys))
    ∙ ap (take (a + n)) (sym (append_assoc (take a xs) (take n ys) (drop n ys)))
    ∙ take_at (take a xs ++ take n ys) (drop n ys) (a + n) (omega (arith, length-append (take a xs) (take n ys), length-take-le a xs inside, length-take-le n ys h))

-- the text is the first `len` bytes, and its path begins at `from`
pub removed :
    (bytes now text : List ℕ) (from len n : ℕ) → take len bytes ≡ text → from ≤ length text → len ≤ length bytes → n ≤ length now
    → take n now ≡ without_dots (take (len - from) (drop from bytes)) → take (from + n) (put_mid from (len - from) bytes now) ≡ take from text ++ without_dots (drop from text)
removed bytes now text from len n is inside within short value =
    let start : from ≤ len = omega (arith, ap length is, length-take-le len bytes within) in
    put_front from (len - from) n bytes now (omega arith) short
    ∙ ap (λ (l : List ℕ). take from bytes ++ l) (value ∙ ap without_dots (between_is bytes from len))
    ∙ ap (λ (l : List ℕ). l ++ without_dots (drop from (take len bytes))) (sym (take-take from len bytes start))
    ∙ ap (λ (l : List ℕ). take from l ++ without_dots (drop from l)) is
