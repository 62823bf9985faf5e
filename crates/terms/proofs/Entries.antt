-- A rule of a table, proved at all of its entries by one test that is computed, one entry after the other. Assumes nothing.
use Rattle.std.proofs.Common.{◌≡◌, ℕ, zero, suc, ◌+◌, ◌<◌, true, eqb, List, [], ◌∷◌, length, get_or, sym, ◌∙◌, subst, le_of_suc-le-suc, not-suc-le-zero, add-zero, add-suc, suc-add, zero-add}
use Rattle.terms.specs.Classes.{obeys}
use Rattle.std.proofs.lemmas.Bool.{and_parts, eqb-true}

from : (rule : ℕ → ℕ) (xs : List ℕ) (i : ℕ) → obeys rule i xs ≡ true → (k : ℕ) → k < length xs → get_or xs k 0 ≡ rule (i + k)
from rule [] i t k h = absurd (not-suc-le-zero h)
from rule (x ∷ xs) i t zero h =
    subst (λ (m : ℕ). x ≡ rule m) (sym (add-zero i)) (eqb-true x (rule i) (and_parts (eqb x (rule i)) (obeys rule (suc i) xs) t).0)
from rule (x ∷ xs) i t (suc k) h =
    subst (λ (m : ℕ). get_or xs k 0 ≡ rule m) (suc-add i k ∙ sym (add-suc i k))
    (from rule xs (suc i) (and_parts (eqb x (rule i)) (obeys rule (suc i) xs) t).1 k (le_of_suc-le-suc h))

-- the list has n entries
pub entry_obeys : (rule : ℕ → ℕ) (xs : List ℕ) (n : ℕ) → length xs ≡ n → obeys rule 0 xs ≡ true → (k : ℕ) → k < n → get_or xs k 0 ≡ rule k
entry_obeys rule xs n e t k h =
    subst (λ (m : ℕ). get_or xs k 0 ≡ rule m) (zero-add k) (from rule xs 0 t k (subst (λ (m : ℕ). k < m) (sym e) h))
