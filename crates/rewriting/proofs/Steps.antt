-- The parts of a query written one by one. Assumes nothing.
use Rattle.std.proofs.Common.{◌≡◌, ℕ, Bool, true, false, List, [], ◌∷◌, ◌++◌, Option, refl, ap, ◌∙◌}
use Rattle.terms.specs.Drafts.{extended}
use Rattle.terms.proofs.Drafts.{extended_twice}
use Rattle.uri.specs.Cuts.{led}
use Rattle.rewriting.specs.Parameters.{others, set_in}

-- what is still to be written for the parts that are left, by whether the parameter is set
abbrev pub set_from : (name value : List ℕ) → Bool → List (List ℕ) → List (List ℕ)
set_from name value true ps = others name ps
set_from name value false ps = set_in name value ps

-- parts with a mark before the first and `&` before each other
abbrev pub listed : ℕ → List (List ℕ) → List ℕ
listed mark [] = []
listed mark (p ∷ ps) = mark ∷ (p ++ led 38 ps)

led_listed : (ps : List (List ℕ)) → listed 38 ps ≡ led 38 ps
led_listed [] = refl
led_listed (p ∷ ps) = refl

-- a part is written, and then the others
pub part_then : (n mark : ℕ) (d : Option (List ℕ)) (p : List ℕ) (ps : List (List ℕ)) → extended n (extended n d (mark ∷ p)) (listed 38 ps) ≡ extended n d (listed mark (p ∷ ps))
part_then n mark d p ps =
    extended_twice n d (mark ∷ p) (listed 38 ps) ∙ ap (λ (xs : List ℕ). extended n d (mark ∷ (p ++ xs))) (led_listed ps)
