use Rattle.std.proofs.Common.{◌≡◌, ◌≢◌, suc, refl, sym, rules, arith, ◌∙◌}
use Rattle.std.proofs.lemmas.Bool.{cond-true, cond-false, eq-eqb, ne_eqb}
use Rattle.std.proofs.lemmas.Iterator.{YieldsList-from_slice, IsFirst-from_position, index_from_first}
use borrow.Author.Tests.{tests}
use Rattle.uri.specs.Cuts.{place}
use Rattle.uri.proofs.cutting.place_of.Goals as goal

pub returns-clause-value : goal.returns-clause-value
returns-clause-value c =
    let b = c.args.byte in
    let text = c.args.text.now in
    c.unwrap_or.ensures
    ∙ sym (index_from_first (place b) (λ x. x ≡ b) (λ x. x ≢ b) refl
    (λ x xs h. cond-true _ 0 (suc (place b xs)) (eq-eqb x b h))
    (λ x xs h. cond-false _ 0 (suc (place b xs)) (ne_eqb x b h) ∙ omega arith) text c.position.result
    (IsFirst-from_position _ _ c.position.result (λ x. x ≡ b) (λ x. x ≢ b) c.position.ensures.ran (YieldsList-from_slice text cc) (λ x q k. search (rules, tests)) (λ x q k. search (rules, tests))))
