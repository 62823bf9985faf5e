use Rattle.std.proofs.Common.{rules, ap, ◌∙◌}
use Rattle.std.proofs.lemmas.Iterator.Search.{all_from_yields_List}
use borrow.Author.Tests.{tests}
use Rattle.tags.specs.Attributes.{Field, is_attribute, are_attributes}
use Rattle.tags.proofs.Roads.{all_fields}
use Rattle.tags.proofs.attributes.keeps_syntax.Goals as goal

pub returns : goal.returns
returns c =
    all_from_yields_List (λ (f : Field). is_attribute f.text) c.all.new.self _ c.all.result c.all.ensures.ran (all_fields c.fields_of.result) (λ x b q k. search (rules, tests))
    ∙ ap are_attributes c.fields_of.ensures.left
