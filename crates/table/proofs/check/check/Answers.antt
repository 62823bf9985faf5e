use Rattle.std.proofs.Common.{Ok, rules}
use Rattle.table.proofs.Format.{decided}
use Rattle.table.proofs.check.check.Goals as goal

pub returns-in_err-check_all-clause-format : goal.returns-in_err-check_all-clause-format
returns-in_err-check_all-clause-format c = decided c.args.file.now c.from_residual.result c.type_inv.file (search rules)

pub returns-clause-format : goal.returns-clause-format
returns-clause-format c = decided c.args.file.now (Ok tt) c.type_inv.file c.in_ok-check_all.ensures.answer
