use Rattle.std.proofs.Common.{ℕ, List, ap, ◌∙◌, inl, arith, rules}
use borrow.Author.Tests.{tests}
use Rattle.std.proofs.lemmas.List.{length-map}
use Rattle.std.proofs.lemmas.Iterator.Consumers.{YieldsList-from_first, YieldsList-from_enumerate, YieldsList-at}
use Rattle.std.proofs.lemmas.Iterator.Search.{find_from_yields_List}
use Rattle.pathways.specs.Rules.{verdict}
use Rattle.table.specs.declared.entry.Entry.{Entry}
use Rattle.table.specs.Contents.{contents}
use Rattle.table.specs.Parts.{shown, parts_left}
use Rattle.table.proofs.Searches.{repeats, told_repeat}
use Rattle.table.proofs.sense.check_repeats.Goals as goal

pub find-offence-requires-clause-can : goal.find-offence-requires-clause-can
find-offence-requires-clause-can c =
    (tt, tt, inl (omega (arith, length-map {A = Entry} {B = Entry × List ℕ}, c.enumerate.result.iter.entries.few, c.enumerate.ensures.count)))

pub returns : goal.returns
returns c =
    let file = c.args.table.now.contents.file.now in
    let es = contents file in
    let found = find_from_yields_List (repeats file es) c.find-offence.new.self _ c.find-offence.result c.find-offence.ensures.ran (YieldsList-from_enumerate (YieldsList-at c.enumerate.ensures.source (YieldsList-from_first shown parts_left _ c.parts.ensures)) c.enumerate.ensures.count) (λ x b q k. search (rules, tests)) in
    c.hold.ensures ∙ ap (verdict 15) (told_repeat file es c.find-offence.result c.map.result (search rules) found)
