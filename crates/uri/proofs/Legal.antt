-- Escapes, ports and schemes, byte by byte. Assumes nothing.
use Rattle.std.proofs.Common.{◌≡◌, ℕ, zero, suc, ◌+◌, ◌-◌, ◌<◌, ◌≤◌, Bool, true, false, ◌&&◌, eqb, List, ◌∷◌, length, get_or, drop, sym, ap, ◌∙◌, arith}
use Rattle.std.proofs.lemmas.List.{at_drop_more, at_drop_all}
use Rattle.std.proofs.lemmas.Bool.{eq-eqb, ne_eqb}
use Rattle.terms.specs.Classes.{hex_digit}
use Rattle.uri.specs.Legal.{escaped}

module _ (f : ℕ → Bool) (text : List ℕ) (i : ℕ) (inside : i < length text) where
  at : (n : ℕ) → escaped f n (drop i text) ≡ escaped f n (get_or text i 0 ∷ drop (i + 1) text)
  at n = at_drop_more (escaped f n) text i 0 inside

  -- what a byte leads to outside an escape, by whether it is `%`
  abbrev way : Bool → Bool
  way t = elim t [ true ↦ escaped f 2 (drop (i + 1) text) | false ↦ f (get_or text i 0) && escaped f 0 (drop (i + 1) text) ]

  pub digit_due : (n : ℕ) → 0 < n → hex_digit (get_or text i 0) ≡ true → escaped f n (drop i text) ≡ escaped f (n - 1) (drop (i + 1) text)
  digit_due zero h e = absurd (omega arith)
  digit_due (suc n) h e =
      at (suc n)
      ∙ ap (λ (b : Bool). b && escaped f n (drop (i + 1) text)) e
      ∙ ap (λ (m : ℕ). escaped f m (drop (i + 1) text)) (omega arith)

  pub digit_missing : (n : ℕ) → 0 < n → hex_digit (get_or text i 0) ≡ false → escaped f n (drop i text) ≡ false
  digit_missing zero h e = absurd (omega arith)
  digit_missing (suc n) h e = at (suc n) ∙ ap (λ (b : Bool). b && escaped f n (drop (i + 1) text)) e

  pub escape-begins : (n : ℕ) → n ≤ 0 → get_or text i 0 ≡ 37 → escaped f n (drop i text) ≡ escaped f 2 (drop (i + 1) text)
  escape-begins zero h e = at 0 ∙ ap way (eq-eqb (get_or text i 0) 37 e)
  escape-begins (suc n) h e = absurd (omega arith)

  pub stands : (n : ℕ) → n ≤ 0 → (get_or text i 0 ≡ 37 → ⊥) → f (get_or text i 0) ≡ true → escaped f n (drop i text) ≡ escaped f n (drop (i + 1) text)
  stands zero h p e = at 0 ∙ ap way (ne_eqb (get_or text i 0) 37 p) ∙ ap (λ (b : Bool). b && escaped f 0 (drop (i + 1) text)) e
  stands (suc n) h p e = absurd (omega arith)

  pub stands_not : (n : ℕ) → n ≤ 0 → (get_or text i 0 ≡ 37 → ⊥) → f (get_or text i 0) ≡ false → escaped f n (drop i text) ≡ false
  stands_not zero h p e = at 0 ∙ ap way (ne_eqb (get_or text i 0) 37 p) ∙ ap (λ (b : Bool). b && escaped f 0 (drop (i + 1) text)) e
  stands_not (suc n) h p e = absurd (omega arith)

pub escaped-end : (f : ℕ → Bool) (text : List ℕ) (i : ℕ) → length text ≤ i → (n : ℕ) → eqb n 0 ≡ escaped f n (drop i text)
escaped-end f text i h zero = sym (at_drop_all (escaped f 0) text i h)
escaped-end f text i h (suc n) = ne_eqb (suc n) 0 (λ e. omega arith) ∙ sym (at_drop_all (escaped f (suc n)) text i h)
