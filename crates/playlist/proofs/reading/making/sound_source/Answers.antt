use Rattle.std.proofs.Common.{is_ok, sym, ap, ◌∙◌}
use Rattle.std.proofs.lemmas.Bool.{cond-false}
use Rattle.multivariant.specs.Checks.{checked}
use Rattle.playlist.specs.Sources.{Read, stand_in}
use Rattle.playlist.proofs.StandIn.{stand_in_sound}
use Rattle.playlist.proofs.reading.making.sound_source.Goals as goal

pub returns-in-Err : goal.returns-in-Err
returns-in-Err c =
    record {
      is = c.example.ensures ∙ sym (cond-false (is_ok (checked c.args.own.now c.args.text.now)) _ stand_in (ap is_ok (sym c.in-Err.ensures)));
      sound = ap (λ (r : Read). is_ok (checked r.own r.text)) c.example.ensures ∙ stand_in_sound;
    }
