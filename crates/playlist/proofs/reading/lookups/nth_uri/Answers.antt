use Rattle.std.proofs.Common.{◌≡◌, Bor, rules, ap, ◌∙◌}
use Rattle.std.proofs.lemmas.Iterator.{YieldsList-from_slice}
use Rattle.std.proofs.lemmas.Iterator.Consumers.{YieldsList-at, YieldsList-from_filter, nth_from_yields_List}
use Rattle.std.specs.Option.{option_map}
use borrow.Author.Tests.{tests}
use Rattle.multivariant.specs.declared.entry.Entry.{Entry}
use Rattle.playlist.proofs.Looking.{belongs, found}
use Rattle.playlist.proofs.reading.lookups.nth_uri.Goals as goal

pub returns : goal.returns
returns c =
    let nth =
    nth_from_yields_List c.nth.result _ c.args.number c.nth.ensures.ran
    (YieldsList-from_filter _ (belongs c.args.id.now) (YieldsList-at c.filter.ensures.source (YieldsList-from_slice c.args.index.now cc)) c.filter.ensures.closure (λ x r q k. search (rules, tests))) in
    let seen : option_map (λ x. x.now) c.map.result ≡ option_map (λ (e : Entry). e.uri.now) (option_map (λ (x : Bor Entry). x.now) c.nth.result) = search rules in
    seen ∙ ap (option_map (λ (e : Entry). e.uri.now)) nth ∙ found c.args.id.now c.args.index.now c.args.number
