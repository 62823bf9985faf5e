use Rattle.table.proofs.Lawful.{sound_some, sound_lawful, sound_described}
use Rattle.table.proofs.reading.ServiceTable.checked.Goals as goal

pub returns-clause-lawful : goal.returns-clause-lawful
returns-clause-lawful c = sound_lawful c.args.self.now.bodies.contents.file.now c.args.self.now.sound

pub returns-clause-described : goal.returns-clause-described
returns-clause-described c = sound_described c.args.self.now.bodies.contents.file.now c.args.self.now.sound

pub returns-clause-some : goal.returns-clause-some
returns-clause-some c = sound_some c.args.self.now.bodies.contents.file.now c.args.self.now.sound
