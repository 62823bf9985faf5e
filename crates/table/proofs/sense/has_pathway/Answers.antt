use Rattle.std.proofs.Common.{Bool, ◌∙◌, rules}
use borrow.Author.Tests.{tests}
use Rattle.std.proofs.lemmas.Iterator.Consumers.{YieldsList-from_first}
use Rattle.std.proofs.lemmas.Iterator.Search.{any_from_yields_List}
use Rattle.table.specs.declared.entry.Entry.{Entry}
use Rattle.table.specs.Contents.{contents, is_id}
use Rattle.table.specs.Parts.{entries_left}
use Rattle.table.proofs.Loops.{any_pathway}
use Rattle.table.proofs.sense.has_pathway.Goals as goal

pub returns : goal.returns
returns c =
    let file = c.args.table.now.file.now in
    let test : Entry → Bool = λ e. is_id e.kind in
    any_from_yields_List test c.any.new.self _ c.any.result c.any.ensures.ran (YieldsList-from_first (λ e. e) entries_left _ c.entries.ensures) (λ x b q k. search (rules, tests))
    ∙ any_pathway file (contents file)
