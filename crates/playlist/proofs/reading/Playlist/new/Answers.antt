use Rattle.std.proofs.Common.{◌≡◌}
use Rattle.playlist.specs.declared.reading.Playlist.{Playlist}
use Rattle.playlist.specs.Sources.{read_from}
use Rattle.playlist.specs.Playlists.{playlist_meaning, read_by, described}
use Rattle.playlist.proofs.StandIn.{read_means, made_so}
use Rattle.playlist.proofs.reading.Playlist.new.Goals as goal

pub returns : goal.returns
returns c =
    made_so {P = λ (p : Playlist). read_by p ≡ read_from c.sound_source.result} {Q = λ (p : Playlist). playlist_meaning p ≡ described c.args.own.now c.args.text.now} c.open.result
    (λ p e. read_means c.args.own.now c.args.text.now (read_by p) (read_from c.sound_source.result) e c.sound_source.ensures.is)
    c.open.ensures
