use Rattle.std.proofs.Common.{ℕ, List, Err, sym, ap, ◌∙◌}
use Rattle.std.proofs.lemmas.Result.{err_from_is_err_and}
use Rattle.terms.specs.declared.fault.Fault.{Fault}
use Rattle.terms.specs.Faults.{told}
use Rattle.pathways.specs.Rules.{done, judged}
use Rattle.pathways.proofs.Chains.{skip, judged-append, stop}
use Rattle.table.specs.Checks.{layout, sense}
use Rattle.table.proofs.check.check_all.Goals as goal

pub returns-in_err-bodies-clause-answer : goal.returns-in_err-bodies-clause-answer
returns-in_err-bodies-clause-answer c =
    let file = c.args.file.now in
    let p = err_from_is_err_and c.from_residual.result c.from_residual.ensures.1 in
    ap done p.1
    ∙ ap (λ (f : Fault). Err (told f)) p.2
    ∙ stop (judged (layout file)) (judged (sense file)) _ c.in_err-bodies.ensures.answer
    ∙ sym (judged-append (layout file) (sense file))

pub returns-in_err-check_sense-clause-answer : goal.returns-in_err-check_sense-clause-answer
returns-in_err-check_sense-clause-answer c =
    let file = c.args.file.now in
    let p = err_from_is_err_and c.from_residual-in_err-check_sense.result c.from_residual-in_err-check_sense.ensures.1 in
    ap done p.1
    ∙ ap (λ (f : Fault). Err (told f)) p.2
    ∙ c.in_err-check_sense.ensures
    ∙ ap (λ (l : List ℕ). judged (sense l)) c.in_ok-bodies.ensures.same
    ∙ sym (judged-append (layout file) (sense file) ∙ skip (judged (layout file)) (judged (sense file)) c.in_ok-bodies.ensures.answer)
