-- The place of the first of a byte, byte by byte. Assumes nothing.
use Rattle.std.proofs.Common.{◌≡◌, ℕ, suc, ◌+◌, ◌-◌, ◌<◌, ◌≤◌, Bool, true, false, cond, eqb, ltb, List, [], ◌∷◌, length, take, drop, Some, None, sym, ap, ◌∙◌, suc-le-suc, zero-le, arith}
use Rattle.std.proofs.lemmas.List.{take_rest}
use Rattle.std.proofs.lemmas.Bool.{cond-true, cond-false, lt-ltb, le-ltb, and_from, not_from_false}
use Rattle.uri.specs.Cuts.{place, before, behind_at, holds}
use Rattle.uri.specs.Splits.{has_scheme}

le_cond : (t : Bool) (n m : ℕ) → n ≤ m → cond t 0 (suc n) ≤ suc m
le_cond true n m h = zero-le
le_cond false n m h = suc-le-suc h

pub place-within : (b : ℕ) (text : List ℕ) → place b text ≤ length text
place-within b [] = zero-le
place-within b (x ∷ xs) = le_cond (eqb x b) (place b xs) (length xs) (place-within b xs)

-- what stands behind a place, as the code takes it
module _ (text : List ℕ) (n : ℕ) where
  pub behind-some : n < length text → Some (take (length text - (n + 1)) (drop (n + 1) text)) ≡ behind_at n text
  behind-some h = ap Some (take_rest text (n + 1)) ∙ sym (cond-true (ltb n (length text)) (Some (drop (n + 1) text)) None (lt-ltb n (length text) h))

  pub behind-none : length text ≤ n → None ≡ behind_at n text
  behind-none h = sym (cond-false (ltb n (length text)) (Some (drop (n + 1) text)) None (le-ltb n (length text) h))

-- the front of a slice as the code takes it
front_part : (n m : ℕ) (text : List ℕ) → n ≡ m → take (n - 0) text ≡ take m text
front_part n m text e = ap (λ (k : ℕ). take k text) (omega arith)

-- a text has a scheme where its first colon stands behind its front and no slash before it
module _ (text : List ℕ) (n m : ℕ) (colon : n ≡ place 58 text) (slash : m ≡ place 47 (take (n - 0) text)) where
  pub has_scheme_lem : (n ≡ 0 → ⊥) → n < length text → length (take (n - 0) text) ≤ m → has_scheme text ≡ true
  has_scheme_lem some inside none =
      let front : take (n - 0) text ≡ before 58 text = front_part n (place 58 text) text colon in
      let free : holds 47 (before 58 text) ≡ false = ap (holds 47) (sym front) ∙ le-ltb (place 47 (take (n - 0) text)) (length (take (n - 0) text)) (omega arith) in
      and_from _ _ (lt-ltb (place 58 text) (length text) (omega arith))
      (and_from _ _ (lt-ltb 0 (place 58 text) (omega arith)) (not_from_false _ free))
