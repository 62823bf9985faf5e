use Rattle.std.proofs.Common.{◌≡◌}
use Rattle.tags.specs.Attributes.{value_of, value_in}
use Rattle.tags.specs.Views.{fields_left}
use Rattle.tags.proofs.attributes.value_of.Given as goal

abbrev pub invariant-loop-attribute : goal.invariant-loop-attribute
invariant-loop-attribute l =
    (value_of l.name l.list ≡ value_in l.name (fields_left l.attribute-iterator)) × (l.attribute-iterator.list.now ≡ l.list)
