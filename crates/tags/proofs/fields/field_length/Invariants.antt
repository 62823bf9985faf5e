use Rattle.std.proofs.Common.{◌≡◌, ◌+◌, false, drop}
use Rattle.tags.specs.Attributes.{field_length}
use Rattle.tags.proofs.fields.field_length.Given as goal

abbrev pub invariant-loop-i : goal.invariant-loop-i
invariant-loop-i l = field_length false l.list ≡ l.i + field_length l.quoted (drop l.i l.list)
