use Rattle.std.proofs.Common.{ap, ◌∙◌}
use Rattle.table.specs.Reading.{meaning_of}
use Rattle.table.proofs.Format.{described-meant}
use Rattle.table.proofs.reading.ServiceTable.new.Goals as goal

pub returns-clause-written : goal.returns-clause-written
returns-clause-written c = λ t. ap meaning_of c.sound_bodies-bodies.ensures.is ∙ described-meant c.args.file.now t
