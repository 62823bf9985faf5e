use Rattle.std.proofs.Common.{ap, length, rules}
use borrow.Author.Tests.{tests}
use Rattle.table.proofs.Walks.{no_pathway, next_pathway}
use Rattle.table.proofs.reading.walking.GroupsIterator.next.Goals as goal

pub returns-in_err-part-clause-steps : goal.returns-in_err-part-clause-steps
returns-in_err-part-clause-steps c =
    let none = no_pathway _ _ (λ x q k. search (rules, tests)) c.args.self.now.parts c.find.new.self c.in_err-part.ensures.ran in
    rw c.from_residual.ensures none

pub returns-clause-steps : goal.returns-clause-steps
returns-clause-steps c =
    next_pathway _ _ (λ x q k. search (rules, tests)) (λ x p q k. search (rules, tests)) c.args.self.now.parts c.find.new.self c.in_ok-part.part c.in_ok-part.ensures.ran

pub returns-clause-goes : goal.returns-clause-goes
returns-clause-goes c =
    let less = ap length (next_pathway _ _ (λ x q k. search (rules, tests)) (λ x p q k. search (rules, tests)) c.args.self.now.parts c.find.new.self c.in_ok-part.part c.in_ok-part.ensures.ran) in
    search rules
