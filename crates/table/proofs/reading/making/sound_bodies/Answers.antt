use Rattle.std.proofs.Common.{List, ℕ, is_ok, ap}
use Rattle.table.specs.Checks.{checked}
use Rattle.table.proofs.reading.making.sound_bodies.Goals as goal

-- that the example passes the check is computed
pub returns-in-Err-clause-sound : goal.returns-in-Err-clause-sound
returns-in-Err-clause-sound c = ap (λ (l : List ℕ). is_ok (checked l)) c.example_bodies.ensures
