use Rattle.std.proofs.Common.{◌≡◌, ◌+◌, Bool, ltb, length, ap, ◌∙◌, rules}
use borrow.Author.Tests.{tests}
use Rattle.std.specs.Option.{option_map}
use Rattle.std.proofs.lemmas.Iterator.Adapters.{position_from-zero}
use Rattle.std.proofs.lemmas.Iterator.Consumers.{YieldsList-from_first}
use Rattle.std.proofs.lemmas.Iterator.Search.{position_from_yields_List}
use Rattle.table.specs.declared.entry.Entry.{Entry}
use Rattle.table.specs.Contents.{spot, contents}
use Rattle.table.specs.Parts.{entries_left}
use Rattle.table.proofs.Searches.{overlong_first}
use Rattle.table.proofs.layout.find_overlong.Goals as goal

pub returns : goal.returns
returns c =
    let file = c.args.table.now.file.now in
    let test : Entry → Bool = λ e. ltb (length file) (e.place + e.size) in
    let found = position_from_yields_List test c.position-offence.new.self _ c.position-offence.result c.position-offence.ensures.ran (YieldsList-from_first (λ e. e) entries_left _ c.entries.ensures) (λ x b q k. search (rules, tests)) ∙ position_from-zero test (contents file) in
    let told : c.map.result ≡ option_map spot c.position-offence.result = search rules in
    told ∙ ap (option_map spot) found ∙ overlong_first (length file) 0 (contents file)
