use Rattle.std.proofs.Common.{ℕ, List, length, inl, arith, refl, sym, ap, ◌∙◌, rules}
use borrow.Author.Tests.{tests}
use Rattle.std.proofs.lemmas.List.{length-map}
use Rattle.std.proofs.lemmas.Iterator.Consumers.{YieldsList-from_first, YieldsList-at, count_from_yields_List}
use Rattle.std.proofs.lemmas.Iterator.Search.{YieldsList-from_take_while}
use Rattle.table.specs.declared.entry.Entry.{Entry}
use Rattle.table.specs.Parts.{shown, parts_left}
use Rattle.table.proofs.Walks.{is_member_part, body, front_is}
use Rattle.table.proofs.reading.walking.Group.count_members.Goals as goal

pub count-requires-clause-fits : goal.count-requires-clause-fits
count-requires-clause-fits c = inl (omega (arith, length-map {A = Entry} {B = Entry × List ℕ}, c.take_while.result.iter.entries.few))

pub returns : goal.returns
returns c =
    let behind = c.args.self.behind in
    count_from_yields_List c.take_while.result c.count.result c.count.ensures.ran
    (YieldsList-from_take_while _ is_member_part (YieldsList-at c.take_while.ensures.source (YieldsList-from_first shown parts_left (parts_left behind) refl)) c.take_while.ensures.closure c.take_while.ensures.done (λ x b q k. search (rules, tests)))
    ∙ sym (length-map _ body)
    ∙ ap length (front_is behind)
