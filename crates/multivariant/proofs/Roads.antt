-- The iterator of streams gives the list that it is seen as, and the lines that come stand in the playlist. Assumes nothing.
use Rattle.std.proofs.Common.{◌≡◌, ℕ, List, [], ◌∷◌, Some, None, Option, IfSome, length, sym, ap, ◌∙◌, subst}
use Rattle.std.proofs.lemmas.Iterator.{YieldsList}
use Rattle.std.proofs.lemmas.Iterator.Consumers.{YieldsList-from_shown}
use Rattle.std.specs.Iterator.{YieldsThen}
use Rattle.tags.specs.declared.line.Line.{Line}
use Rattle.tags.specs.declared.lines.Lines.{Lines}
use Rattle.tags.specs.Views.{whole, LineStep}
use Rattle.multivariant.specs.declared.streams.Streams.{Streams}
use Rattle.multivariant.specs.Views.{served, streams_left, StreamStep, StandsIn}

pub all_streams : (s : Streams) → YieldsList StreamStep served s (streams_left s)
all_streams s = YieldsList-from_shown StreamStep served streams_left (λ s t e. ap length e.1.0) (λ s x t e. e.1.0) s

-- the line that comes behind others stands in the playlist
pub stands_then : (text : List ℕ) (s u : Lines) (xs : List Line) (r : Option Line) → whole s ≡ text → YieldsThen LineStep s xs r u → IfSome r (StandsIn text)
stands_then text s u [] None e (t, y, z) = tt
stands_then text s u [] (Some l) e (t, y, z) =
    let same : whole t ≡ text = ap whole (sym y) ∙ e in
    subst (λ (w : List ℕ). StandsIn w l) same (z.1.5, z.1.4)
stands_then text s u (x ∷ xs) r e (t, (j, step, y), z) = stands_then text j u xs r (step.0 ∙ e) (t, y, z)
