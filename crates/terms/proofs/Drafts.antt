-- Parts written one behind the other, and the bytes of one part. Assumes nothing.
use Rattle.std.proofs.Common.{◌≡◌, ℕ, ◌<◌, leb, List, ◌++◌, length, Some, None, Option, sym, refl, ap, ◌∙◌, ⊎_elim, append_assoc, arith}
use Rattle.std.proofs.lemmas.List.{length-append}
use Rattle.std.proofs.lemmas.Bool.{cond-true, cond-false, lt-leb, leb-false, cases_Bool}
use Rattle.terms.specs.Texts.{bounded}
use Rattle.terms.specs.Drafts.{extended}

pub bounded_over : (n : ℕ) (text : List ℕ) → n < length text → bounded n text ≡ None
bounded_over n text h = cond-false (leb (length text) n) (Some text) None (lt-leb (length text) n h)

-- a part behind a bounded text
pub extended-bounded : (n : ℕ) (text part : List ℕ) → extended n (bounded n text) part ≡ bounded n (text ++ part)
extended-bounded n text part = ⊎_elim
    (λ e. ap (λ (o : Option (List ℕ)). extended n o part) (cond-true (leb (length text) n) (Some text) None e))
    (λ e.
    ap (λ (o : Option (List ℕ)). extended n o part) (cond-false (leb (length text) n) (Some text) None e)
    ∙ sym (bounded_over n (text ++ part) (omega (arith, leb-false (length text) n e, length-append text part))))
    (cases_Bool (leb (length text) n))

-- two parts are written as one
pub extended_twice : (n : ℕ) (d : Option (List ℕ)) (xs ys : List ℕ) → extended n (extended n d xs) ys ≡ extended n d (xs ++ ys)
extended_twice n None xs ys = refl
extended_twice n (Some text) xs ys = extended-bounded n (text ++ xs) ys ∙ ap (bounded n) (append_assoc text xs ys)
