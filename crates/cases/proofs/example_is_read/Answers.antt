use Rattle.std.proofs.Common.{refl}
use Rattle.cases.proofs.example_is_read.Goals as goal

-- each fact is computed
pub returns : goal.returns
returns c = record { count = refl; holds = record { long = refl; entries = refl; legal = refl; meaning = refl } }
