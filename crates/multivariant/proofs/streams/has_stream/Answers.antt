use Rattle.std.proofs.Common.{rules, ap, ◌∙◌}
use Rattle.std.proofs.lemmas.Iterator.Search.{any_from_yields_List}
use borrow.Author.Tests.{tests}
use Rattle.multivariant.specs.Streams.{is_of, has_stream}
use Rattle.multivariant.proofs.Roads.{all_streams}
use Rattle.multivariant.proofs.streams.has_stream.Goals as goal

pub returns : goal.returns
returns c =
    any_from_yields_List (is_of c.args.id.now) c.any.new.self _ c.any.result c.any.ensures.ran (all_streams c.streams_of.result) (λ x b q k. search (rules, tests))
    ∙ ap (has_stream c.args.id.now) c.streams_of.ensures
