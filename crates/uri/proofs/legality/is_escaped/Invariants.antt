use Rattle.std.proofs.Common.{◌≡◌, drop}
use Rattle.uri.specs.Allowed.{allowed}
use Rattle.uri.specs.Legal.{escaped}
use Rattle.uri.proofs.legality.is_escaped.Given as goal

abbrev pub invariant-loop-byte : goal.invariant-loop-byte
invariant-loop-byte l = escaped (allowed l.component) 0 l.text ≡ escaped (allowed l.component) l.due (drop l.byte-index l.text)
