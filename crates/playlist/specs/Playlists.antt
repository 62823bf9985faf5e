-- What a playlist means, and what is made of any text. Assumes nothing.
use Rattle.std.specs.Prelude.{ℕ, cond, List, is_ok}
use Rattle.pathways.specs.Meaning.{Pathway, Meaning}
use Rattle.table.specs.Tables.{example}
use Rattle.table.specs.Reading as table
use Rattle.multivariant.specs.Checks.{checked}
use Rattle.playlist.specs.declared.reading.Playlist.{Playlist}
use Rattle.playlist.specs.Sources.{Read}
pub use Rattle.playlist.specs.Items.{pathways_in, steering_uri}
use Rattle.playlist.specs.Items.{meaning_of}

abbrev pub playlist_pathways : Playlist → List Pathway
playlist_pathways p = pathways_in p.own.now p.text.now

abbrev pub playlist_meaning : Playlist → Meaning
playlist_meaning p = record { dialect = p.dialect; steering = steering_uri p.own.now p.text.now; pathways = playlist_pathways p }

abbrev pub read_by : Playlist → Read
read_by p = record { dialect = p.dialect; own = p.own.now; text = p.text.now }

-- what is made of a text: its meaning where it passes the check, else that of the example table
abbrev pub described : (own text : List ℕ) → Meaning
described own text = cond (is_ok (checked own text)) (meaning_of own text) (table.meaning_of example)
