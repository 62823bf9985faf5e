use Rattle.std.proofs.Common.{◌≡◌, ◌^◌, ◌<◌, drop}
use Rattle.terms.specs.Classes.{digit, every}
use Rattle.uri.specs.Legal.{value}
use Rattle.uri.proofs.legality.is_port.Given as goal

abbrev pub invariant-loop-byte : goal.invariant-loop-byte
invariant-loop-byte l =
    (l.port < 10 ^ l.byte-index)
    × (every digit l.digits ≡ every digit (drop l.byte-index l.digits))
    × (value 0 l.digits ≡ value l.port (drop l.byte-index l.digits))
