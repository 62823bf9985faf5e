use Rattle.std.proofs.Common.{rules, ap, ◌∙◌}
use Rattle.std.proofs.lemmas.Iterator.Search.{any_from_yields_List}
use borrow.Author.Tests.{tests}
use Rattle.tags.specs.Attributes.{is_named, has_name}
use Rattle.tags.proofs.Roads.{all_fields}
use Rattle.tags.proofs.attributes.has_name.Goals as goal

pub returns : goal.returns
returns c =
    any_from_yields_List (is_named c.args.name.now) c.any.new.self _ c.any.result c.any.ensures.ran (all_fields c.fields_from.result) (λ x b q k. search (rules, tests))
    ∙ ap (has_name c.args.name.now) c.fields_from.ensures.left
