use Rattle.std.proofs.Common.{◌≡◌, Bool, refl, ap, ◌∙◌, rules}
use borrow.Author.Tests.{tests}
use Rattle.std.specs.Option.{option_map}
use Rattle.std.proofs.lemmas.Iterator.Adapters.{position_from-zero}
use Rattle.std.proofs.lemmas.Iterator.Consumers.{YieldsList-from_first}
use Rattle.std.proofs.lemmas.Iterator.Search.{position_from_yields_List}
use Rattle.pathways.specs.Rules.{verdict}
use Rattle.table.specs.declared.entry.Entry.{Entry}
use Rattle.table.specs.Contents.{spot, contents, is_unknown}
use Rattle.table.specs.Offences.{unknown_kind}
use Rattle.table.specs.Parts.{entries_left}
use Rattle.table.proofs.Searches.{first_spot}
use Rattle.table.proofs.sense.check_kinds.Goals as goal

pub returns : goal.returns
returns c =
    let es = contents c.args.table.now.file.now in
    let test : Entry → Bool = λ e. is_unknown e.kind in
    let found = position_from_yields_List test c.position-offence.new.self _ c.position-offence.result c.position-offence.ensures.ran (YieldsList-from_first (λ e. e) entries_left _ c.entries.ensures) (λ x b q k. search (rules, tests)) ∙ position_from-zero test es in
    let told : c.map.result ≡ option_map spot c.position-offence.result = search rules in
    c.hold.ensures ∙ ap (verdict 13) (told ∙ ap (option_map spot) found ∙ first_spot test unknown_kind (λ i. refl) (λ i e es. refl) 0 es)
