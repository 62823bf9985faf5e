use Rattle.std.proofs.Common.{◌≡◌, ℕ, ◌<◌, ◌≤◌, List, length, get_or, Some, None, Option, MatchOption, zero-le, rules}
use Rattle.std.proofs.lemmas.Iterator.{first_from_Range}
use Rattle.std.proofs.lemmas.Bool.Decides.{not_from_Decides}
use Rattle.std.proofs.lemmas.Slice.Eq.{bytes_eq-Decides}
use Rattle.pathways.specs.Meaning.{Pathway, nowhere}
use Rattle.pathways.specs.Finding.{Finds}
use Rattle.pathways.proofs.finding.find.Goals as goal

-- what `find` over the numbers says
finds : (ps : List Pathway) (id : List ℕ) (r : Option ℕ)
    → MatchOption r ((k : ℕ) → 0 ≤ k → k < length ps → (get_or ps k nowhere).id ≡ id → ⊥)
    (λ i. (0 ≤ i) × (i < length ps) × ((get_or ps i nowhere).id ≡ id) × ((k : ℕ) → 0 ≤ k → k < i → (get_or ps k nowhere).id ≡ id → ⊥))
    → Finds r ps id
finds ps id None h = λ j l. h j zero-le l
finds ps id (Some i) h = (h.1, h.2, λ j l. h.3 j zero-le l)

pub returns : goal.returns
returns g c =
    let ps = g.P.Pathways.pathways c.args.set.now in
    finds ps c.args.id.now c.find.result
    (rw (← c.count.ensures.value)
    (first_from_Range _ _ _ c.find.result (λ k. (get_or ps k nowhere).id ≡ c.args.id.now) (λ k. (get_or ps k nowhere).id ≡ c.args.id.now → ⊥) c.find.ensures.ran
    (λ x q k. (bytes_eq-Decides _ _).0 (search rules))
    (λ x q k. (search rules, not_from_Decides _ (bytes_eq-Decides _ _) (search rules)))))
