-- The bytes that may stand in a part as they are. Assumes nothing.
use Rattle.std.specs.Prelude.{ℕ, Bool}
use Rattle.uri.specs.declared.component.Component.{Component}
use Rattle.uri.specs.declared.component.Component.TheVariants.{Path, Query}
use Rattle.uri.specs.Legal.{path_byte, query_byte}

abbrev pub allowed : Component → ℕ → Bool
allowed Path = path_byte
allowed Query = query_byte
