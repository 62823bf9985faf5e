use Rattle.std.proofs.Common.{arith}
use Rattle.std.proofs.lemmas.Grind.{common_steps}
use Rattle.std.specs.Option.{MatchOption}
use Rattle.references.proofs.Walks.{NoSlash, Last, last_is}
use Rattle.references.proofs.slashes.last_slash.Goals as goal

pub returns-clause-value : goal.returns-clause-value
returns-clause-value c =
    let found : MatchOption c.rposition.result (NoSlash c.args.path.now) (Last c.args.path.now) = grind (arith, common_steps) in
    last_is c.args.path.now c.rposition.result found
