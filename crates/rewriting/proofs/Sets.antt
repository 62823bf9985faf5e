-- The parts of a name and the others, where a parameter is set. Assumes nothing.
use Rattle.std.proofs.Common.{◌≡◌, ℕ, true, List, [], ◌∷◌, Some, refl, ap, ◌∙◌, arith}
use Rattle.std.proofs.lemmas.Slice.Eq.{bytes_eq-Decides}
use Rattle.std.specs.Str.{bytes_eq}
use Rattle.uri.proofs.Free.{Free, before-marked}
use Rattle.rewriting.specs.Parameters.{named, assigned, others, set_in}
use Rattle.rewriting.specs.Laws.{of_name}

-- the part that is set has the name
pub own-named : (name value : List ℕ) → Free 61 name → named name (assigned name value) ≡ true
own-named name value f = ap (λ (xs : List ℕ). bytes_eq xs name) (before-marked f (Some value)) ∙ (bytes_eq-Decides name name).1 refl

module _ (name : List ℕ) where
  others-none : (ps : List (List ℕ)) → of_name name (others name ps) ≡ []
  others-none [] = refl
  others-none (p ∷ ps) = grind (arith, others-none ps)

  others_twice : (ps : List (List ℕ)) → others name (others name ps) ≡ others name ps
  others_twice [] = refl
  others_twice (p ∷ ps) = grind (arith, others_twice ps)

module _ (name value : List ℕ) (own : named name (assigned name value) ≡ true) where
  pub set_once : (ps : List (List ℕ)) → of_name name (set_in name value ps) ≡ assigned name value ∷ []
  set_once [] = grind (arith, own)
  set_once (p ∷ ps) = grind (arith, set_once ps, own, others-none name ps)

  pub set_others : (ps : List (List ℕ)) → others name (set_in name value ps) ≡ others name ps
  set_others [] = grind (arith, own)
  set_others (p ∷ ps) = grind (arith, set_others ps, own, others_twice name ps)

  pub set_again : (ps : List (List ℕ)) → set_in name value (set_in name value ps) ≡ set_in name value ps
  set_again [] = grind (arith, own)
  set_again (p ∷ ps) = grind (arith, set_again ps, own, others_twice name ps)
