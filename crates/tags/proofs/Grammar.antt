-- The test of an attribute list decides the grammar. Assumes nothing.
use Rattle.std.proofs.Common.{◌≡◌, ℕ, Bool, List, Decides}
use Rattle.std.proofs.lemmas.Bool.Decides.{Decides-at}
use Rattle.tags.specs.Attributes.{is_list}
use Rattle.tags.specs.Grammar.{AttributeList}
use Rattle.tags.proofs.Derivations.{list_passes, list_derived}

-- a list has the syntax if and only if the grammar derives it
pub list_decides : (list : List ℕ) → Decides (is_list list) (AttributeList list)
list_decides list = (list_derived list, list_passes)

pub decided : (list : List ℕ) (r : Bool) → r ≡ is_list list → Decides r (AttributeList list)
decided list r e = Decides-at r (is_list list) e (list_decides list)
