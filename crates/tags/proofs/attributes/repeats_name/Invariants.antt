use Rattle.std.proofs.Common.{◌≡◌}
use Rattle.tags.specs.Attributes.{repeats_name, repeats}
use Rattle.tags.specs.Views.{fields_left}
use Rattle.tags.proofs.attributes.repeats_name.Given as goal

abbrev pub invariant-loop-field : goal.invariant-loop-field
invariant-loop-field l =
    (repeats_name l.list ≡ repeats (fields_left l.field-iterator)) × (l.field-iterator.list.now ≡ l.list)
