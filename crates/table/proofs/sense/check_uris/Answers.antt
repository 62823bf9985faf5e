use Rattle.std.proofs.Common.{ℕ, Bool, not, ◌&&◌, List, refl, ap, ◌∙◌, rules}
use borrow.Author.Tests.{tests}
use Rattle.std.proofs.lemmas.Iterator.Consumers.{YieldsList-from_first}
use Rattle.std.proofs.lemmas.Iterator.Search.{find_from_yields_List}
use Rattle.uri.specs.Legal.{legal}
use Rattle.pathways.specs.Rules.{verdict}
use Rattle.table.specs.declared.entry.Entry.{Entry}
use Rattle.table.specs.Contents.{contents, is_id}
use Rattle.table.specs.Offences.{bad_uri}
use Rattle.table.specs.Parts.{shown, parts_left}
use Rattle.table.proofs.Searches.{told_place}
use Rattle.table.proofs.sense.check_uris.Goals as goal

pub returns : goal.returns
returns c =
    let file = c.args.table.now.contents.file.now in
    let test : Entry × List ℕ → Bool = λ p. not (is_id p.0.kind) && not (legal p.1) in
    let found = find_from_yields_List test c.find-offence.new.self _ c.find-offence.result c.find-offence.ensures.ran (YieldsList-from_first shown parts_left _ c.parts.ensures) (λ x b q k. search (rules, tests)) in
    c.hold.ensures ∙ ap (verdict 16) (told_place file test (bad_uri file) refl (λ e es. refl) (contents file) c.find-offence.result c.map.result (search rules) found)
