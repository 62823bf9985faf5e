use Rattle.std.proofs.Common.{refl}
use Rattle.cases.proofs.member_is_rewritten.Goals as goal

pub returns : goal.returns
returns c = record { count = refl; holds = refl }
