-- The playlist that stands in for a refused one. Assumes nothing.
use Rattle.std.proofs.Common.{◌≡◌, ℕ, Bool, true, false, cond, List, is_ok, IfOk, Ok, Err, Result, refl, ap, ◌∙◌}
use Rattle.pathways.specs.declared.dialect.Dialect.TheVariants.{Hls}
use Rattle.pathways.specs.Meaning.{Meaning}
use Rattle.table.specs.Tables.{example}
use Rattle.table.specs.Reading as table
use Rattle.multivariant.specs.Checks.{checked}
use Rattle.playlist.specs.Sources.{Read, stand_in, opened}
use Rattle.playlist.specs.Items.{meaning_of}
use Rattle.playlist.specs.Playlists.{pathways_in, steering_uri, described}

-- what is meant by what was read
abbrev pub meant : Read → Meaning
meant r = record { dialect = r.dialect; steering = steering_uri r.own r.text; pathways = pathways_in r.own r.text }

pub stand_in_sound : is_ok (checked stand_in.own stand_in.text) ≡ true
stand_in_sound = refl

stand_in_meaning : meant stand_in ≡ table.meaning_of example
stand_in_meaning = refl

abbrev given : List ℕ → List ℕ → Read
given own text = record { dialect = Hls; own = own; text = text }

either : (own text : List ℕ) (b : Bool) → meant (cond b (given own text) stand_in) ≡ cond b (meaning_of own text) (table.meaning_of example)
either own text true = refl
either own text false = stand_in_meaning

opened_means : (own text : List ℕ) → meant (opened own text) ≡ described own text
opened_means own text = either own text (is_ok (checked own text))

pub read_means : (own text : List ℕ) (p s : Read) → p ≡ s → s ≡ opened own text → meant p ≡ described own text
read_means own text p s e f = ap meant e ∙ ap meant f ∙ opened_means own text

pub made_so : {X Y : Type 0} {P Q : X → Type 0} (r : Result X Y) → ((x : X) → P x → Q x) → IfOk r P → IfOk r Q
made_so (Ok x) f p = f x p
made_so (Err y) f p = tt
