use Rattle.std.proofs.Common.{map, ap, ◌∙◌}
use Rattle.playlist.specs.Items.{items_of}
use Rattle.multivariant.specs.Views.{item}
use Rattle.playlist.proofs.Answering.{same-items}
use Rattle.playlist.proofs.reading.Playlist.streams.Goals as goal

pub returns : goal.returns
returns c =
    ap (map item) c.as_slice.ensures.value
    ∙ same-items _ (items_of c.args.self.now.text.now) c.args.self.now.names c.args.self.now.uris
