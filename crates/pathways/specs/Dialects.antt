-- The word for each dialect. Assumes nothing.
use Rattle.std.specs.Prelude.{ℕ, List, codes}
use Rattle.pathways.specs.declared.dialect.Dialect.{Dialect}
use Rattle.pathways.specs.declared.dialect.Dialect.TheVariants.{Hls, Dash}

abbrev pub dialect_name : Dialect → List ℕ
dialect_name Hls = codes "hls"
dialect_name Dash = codes "dash"
