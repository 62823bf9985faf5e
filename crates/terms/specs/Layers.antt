-- The word for each layer. Assumes nothing.
use Rattle.std.specs.Prelude.{ℕ, List, codes}
use Rattle.terms.specs.declared.layer.Layer.{Layer}
use Rattle.terms.specs.declared.layer.Layer.TheVariants.{Session, Set, Description, Text, Manifest}

abbrev pub layer_name : Layer → List ℕ
layer_name Session = codes "session"
layer_name Set = codes "set"
layer_name Description = codes "description"
layer_name Text = codes "text"
layer_name Manifest = codes "manifest"
