use Rattle.std.proofs.Common.{ℕ, List, Option, ap, ◌∙◌, rules}
use Rattle.pathways.specs.Meaning.{Pathway}
use Rattle.pathways.specs.Questions.{member_of, handed_out}
use Rattle.table.proofs.Walks.{member_told}
use Rattle.table.proofs.reading.questions.ServiceTablePathways.member.Goals as goal

pub returns : goal.returns
returns c =
    c.hand_out.ensures
    ∙ ap (λ (o : Option (List ℕ)). handed_out o c.args.buffer.now)
    (member_told c.args.member c.and_then-uri.result c.pathway.result (search rules) ∙ ap (λ (o : Option Pathway). member_of o c.args.member) c.pathway.ensures)
