use Rattle.std.proofs.Common.{refl}
use Rattle.cases.proofs.scheme_alone_is_illegal.Goals as goal

pub returns : goal.returns
returns c = record { count = refl; holds = refl }
