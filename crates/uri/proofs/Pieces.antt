-- The parts of a text that is cut at each of a byte, one by one. Assumes nothing.
use Rattle.std.proofs.Common.{◌≡◌, ℕ, Bool, false, List, ◌∷◌, ◌++◌, Some, None, Option, refl, ap, ◌∙◌}
use Rattle.std.proofs.lemmas.Bool.{eq-eqb}
use Rattle.uri.specs.Cuts.{before, behind, onto, parts, further, marked}
use Rattle.uri.proofs.Free.{Free, text_is, before_free}

-- a first part without b, and those behind it
pub parts-marked : {b : ℕ} {p : List ℕ} → Free b p → (rest : Option (List ℕ)) → parts b (p ++ marked b rest) ≡ p ∷ further b rest
parts-marked Free.none None = refl
parts-marked {b} Free.none (Some rest) = ap (λ (t : Bool). onto b t (parts b rest)) (eq-eqb b b refl)
parts-marked {b} (Free.more {x} {xs} e f) rest =
    ap (λ (t : Bool). onto x t (parts b (xs ++ marked b rest))) e ∙ ap (onto x false) (parts-marked f rest)

pub parts_are : (b : ℕ) (text : List ℕ) → parts b text ≡ before b text ∷ further b (behind b text)
parts_are b text = ap (parts b) (text_is b text) ∙ parts-marked (before_free b text) (behind b text)
