use Rattle.std.proofs.Common.{refl}
use Rattle.cases.proofs.root_is_kept.Goals as goal

pub returns : goal.returns
returns c = record { count = refl; holds = refl }
