use Rattle.std.proofs.Common.{rules, ◌∙◌}
use Rattle.std.proofs.lemmas.Iterator.{YieldsList-from_slice}
use Rattle.std.proofs.lemmas.Iterator.Consumers.{YieldsList-at, YieldsList-from_filter, count_from_yields_List}
use borrow.Author.Tests.{tests}
use Rattle.playlist.proofs.Looking.{belongs, counted}
use Rattle.playlist.proofs.reading.lookups.count_streams.Goals as goal

pub returns : goal.returns
returns c =
    count_from_yields_List c.filter.result c.count.result c.count.ensures.ran
    (YieldsList-from_filter _ (belongs c.args.id.now) (YieldsList-at c.filter.ensures.source (YieldsList-from_slice c.args.index.now cc)) c.filter.ensures.closure (λ x r q k. search (rules, tests)))
    ∙ counted c.args.id.now c.args.index.now
