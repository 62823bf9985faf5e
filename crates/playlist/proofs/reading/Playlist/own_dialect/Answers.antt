use Rattle.std.proofs.Common.{refl}
use Rattle.playlist.proofs.Sound.{sound_described}
use Rattle.playlist.proofs.reading.Playlist.own_dialect.Goals as goal

pub returns : goal.returns
returns c =
    record {
      value = refl;
      described = sound_described c.args.self.now.own.now c.args.self.now.text.now c.args.self.now.sound c.args.self.now.dialect;
    }
