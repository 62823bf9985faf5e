-- What is read where a text is refused: a playlist that describes what the example table does. Assumes nothing.
use Rattle.std.specs.Prelude.{ℕ, cond, List, [], ◌∷◌, ◌++◌, is_ok, codes}
use Rattle.pathways.specs.declared.dialect.Dialect.{Dialect}
use Rattle.pathways.specs.declared.dialect.Dialect.TheVariants.{Hls, Dash}
use Rattle.multivariant.specs.Checks.{checked}
use Rattle.playlist.specs.declared.source.Source.{Source}

pub record Read : Type 0 where
  pub dialect : Dialect
  pub own : List ℕ
  pub text : List ℕ

abbrev pub read_from : Source → Read
read_from s = record { dialect = s.dialect; own = s.own.now; text = s.text.now }

abbrev pub stand_in : Read
stand_in =
    record {
      dialect = Dash;
      own = codes "https://s.example/a";
      text =
          codes "#EXTM3U" ++ 10 ∷ codes "#EXT-X-CONTENT-STEERING:SERVER-URI=" ++ 34 ∷ codes "https://s.example/a" ++ 34 ∷ 10
          ∷ codes "#EXT-X-STREAM-INF:PATHWAY-ID=" ++ 34 ∷ 97 ∷ 34 ∷ 10 ∷ codes "https://c.example/" ++ 10 ∷ [];
    }

-- the text where it passes the check, else the one that stands in for it
abbrev pub opened : (own text : List ℕ) → Read
opened own text = cond (is_ok (checked own text)) (record { dialect = Hls; own = own; text = text }) stand_in
