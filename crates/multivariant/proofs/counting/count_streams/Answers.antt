use Rattle.std.proofs.Common.{rules, take, ap, ◌∙◌}
use Rattle.std.proofs.lemmas.Iterator.{YieldsList-from_take}
use Rattle.std.proofs.lemmas.Iterator.Consumers.{YieldsList-at, YieldsList-from_filter, count_from_yields_List}
use borrow.Author.Tests.{tests}
use Rattle.multivariant.specs.Streams.{is_of, count_of}
use Rattle.multivariant.specs.Views.{streams_left}
use Rattle.multivariant.proofs.Counts.{counted}
use Rattle.multivariant.proofs.Roads.{all_streams}
use Rattle.multivariant.proofs.counting.count_streams.Goals as goal

pub returns : goal.returns
returns c =
    count_from_yields_List c.filter.result c.count.result c.count.ensures.ran
    (YieldsList-from_filter _ (is_of c.args.id.now)
    (YieldsList-at c.filter.ensures.source (YieldsList-from_take c.args.end (YieldsList-at c.take.ensures.source (all_streams c.streams_of.result)) c.take.ensures.count))
    c.filter.ensures.closure (λ x r q k. search (rules, tests)))
    ∙ counted c.args.id.now (take c.args.end (streams_left c.streams_of.result))
    ∙ ap (λ ss. count_of c.args.id.now (take c.args.end ss)) c.streams_of.ensures
