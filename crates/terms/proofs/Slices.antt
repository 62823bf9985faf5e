-- What `==` says of two slices. Assumes nothing.
use Rattle.std.proofs.Common.{◌≡◌, ℕ, Bool, List, Decides, subst}
use Rattle.std.specs.Str.{bytes_eq}
use Rattle.std.proofs.lemmas.Slice.Eq.{bytes_eq-Decides}
use Rattle.std.proofs.lemmas.Bool.Decides.{same_from_decides}

pub same_slices : (xs ys zs : List ℕ) (r : Bool) → Decides r (xs ≡ ys) → xs ≡ zs → r ≡ bytes_eq zs ys
same_slices xs ys zs r h e =
    same_from_decides r (bytes_eq zs ys) (subst (λ (l : List ℕ). Decides r (l ≡ ys)) e h) (bytes_eq-Decides zs ys)
