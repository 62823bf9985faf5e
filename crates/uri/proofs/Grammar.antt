-- The test of a legal URI decides the grammar. Assumes nothing.
use Rattle.std.proofs.Common.{◌≡◌, ℕ, Bool, List, Decides}
use Rattle.std.proofs.lemmas.Bool.Decides.{Decides-at}
use Rattle.uri.specs.Legal.{legal}
use Rattle.uri.specs.Grammar.{Uri}
use Rattle.uri.proofs.Sound.{derived}
use Rattle.uri.proofs.Complete.{complete}

-- a text is legal if and only if the grammar derives it
pub legal_decides : (text : List ℕ) → Decides (legal text) (Uri text)
legal_decides text = (derived text, complete text)

pub decided : (text : List ℕ) (r : Bool) → r ≡ legal text → Decides r (Uri text)
decided text r e = Decides-at r (legal text) e (legal_decides text)
