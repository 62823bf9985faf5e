use Rattle.std.proofs.Common.{map, ap, ◌∙◌}
use Rattle.playlist.proofs.Sound.{sound_lawful}
use Rattle.playlist.proofs.reading.Playlist.ids.Goals as goal

pub returns : goal.returns
returns c =
    record {
      order = ap (map (λ x. x.now)) c.as_slice.ensures.value ∙ c.args.self.now.ordered;
      lawful = sound_lawful c.args.self.now.own.now c.args.self.now.text.now c.args.self.now.sound;
    }
