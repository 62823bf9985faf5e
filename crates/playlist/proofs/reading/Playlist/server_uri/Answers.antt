use Rattle.std.proofs.Common.{ℕ, List, Option, ap, ◌∙◌}
use Rattle.uri.specs.Splits.{without_fragment}
use Rattle.tags.specs.Attributes.{or_nothing}
use Rattle.playlist.specs.Items.{steering_for}
use Rattle.playlist.proofs.Sound.{sound_described}
use Rattle.playlist.proofs.reading.Playlist.server_uri.Goals as goal

pub returns : goal.returns
returns c =
    record {
      value =
          ap (λ (o : Option (List ℕ)). without_fragment (or_nothing o)) c.resolve.ensures.value
          ∙ ap (steering_for c.args.self.now.own.now) c.args.self.now.steers;
      described = sound_described c.args.self.now.own.now c.args.self.now.text.now c.args.self.now.sound c.args.self.now.dialect;
    }
