-- A service table, worked out byte by byte. Assumes nothing.
use Rattle.std.specs.Prelude.{◌≡◌, ℕ, List, [], ◌∷◌, ◌++◌, length, Ok, codes}
use Rattle.pathways.specs.declared.dialect.Dialect.TheVariants.{Dash}
use Rattle.table.specs.declared.kind.Kind.TheVariants.{Steering, Id, Member}
use Rattle.table.specs.Contents.{contents}
use Rattle.table.specs.Reading.{meaning_of}
use Rattle.table.specs.Checks.{checked}

-- S, T, 1, DASH; three entries; their kinds, places and lengths; their bodies
abbrev pub bytes : List ℕ
bytes =
    codes "ST" ++ (1 ∷ 1 ∷ 0 ∷ 3 ∷ [])
    ++ (0 ∷ 0 ∷ 21 ∷ 0 ∷ 19 ∷ [])
    ++ (1 ∷ 0 ∷ 40 ∷ 0 ∷ 1 ∷ [])
    ++ (2 ∷ 0 ∷ 41 ∷ 0 ∷ 18 ∷ [])
    ++ codes "https://s.example/a"
    ++ codes "a"
    ++ codes "https://c.example/"

-- it passes the check, and describes one pathway with one member
pub record ExampleIsRead : Type 0 where
  pub long : length bytes ≡ 59
  pub entries :
      contents bytes
      ≡ record { kind = Steering; place = 21; size = 19 } ∷ record { kind = Id; place = 40; size = 1 } ∷ record { kind = Member; place = 41; size = 18 } ∷ []
  pub legal : checked bytes ≡ Ok tt
  pub meaning :
      meaning_of bytes
      ≡ record {
        dialect = Dash;
        steering = codes "https://s.example/a";
        pathways = record { id = codes "a"; members = codes "https://c.example/" ∷ [] } ∷ [];
      }
