use Rattle.std.proofs.Common.{ℕ, Bool, ◌&&◌, List, ◌∙◌, rules}
use borrow.Author.Tests.{tests}
use Rattle.std.specs.Str.{bytes_eq}
use Rattle.std.proofs.lemmas.Iterator.{YieldsList-from_take}
use Rattle.std.proofs.lemmas.Iterator.Consumers.{YieldsList-from_first, YieldsList-at}
use Rattle.std.proofs.lemmas.Iterator.Search.{any_from_yields_List}
use Rattle.table.specs.declared.entry.Entry.{Entry}
use Rattle.table.specs.Contents.{contents, is_id}
use Rattle.table.specs.Parts.{shown, parts_left}
use Rattle.table.proofs.Searches.{has_any}
use Rattle.table.proofs.sense.stands_before.Goals as goal

pub returns : goal.returns
returns c =
    let file = c.args.table.now.contents.file.now in
    let test : Entry × List ℕ → Bool = λ p. is_id p.0.kind && bytes_eq p.1 c.args.id.now in
    any_from_yields_List test c.any.new.self _ c.any.result c.any.ensures.ran (YieldsList-from_take c.args.end (YieldsList-at c.take.ensures.source (YieldsList-from_first shown parts_left _ c.parts.ensures)) c.take.ensures.count) (λ x b q k. search (rules, tests))
    ∙ has_any file c.args.id.now c.args.end (contents file)
