use Rattle.std.proofs.lemmas.Iterator.Consumers.{YieldsList-from_first, map_from_collect}
use Rattle.multivariant.specs.Views.{item, entries_left}
use Rattle.playlist.specs.Items.{items_of}
use Rattle.playlist.proofs.reading.indexing.index_of.Goals as goal

pub returns : goal.returns
returns c = map_from_collect c.collect.result c.collect.ensures.ran (YieldsList-from_first item entries_left (items_of c.args.text.now) c.entries_of.ensures)
