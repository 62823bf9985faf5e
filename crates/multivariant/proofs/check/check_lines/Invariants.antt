use Rattle.std.proofs.Common.{◌≡◌, ℕ, List}
use Rattle.tags.specs.Lines.{rows_of}
use Rattle.tags.specs.Views.{lines_left, whole}
use Rattle.multivariant.specs.Rules.{Rule}
use Rattle.multivariant.specs.Offences.{first}
use Rattle.multivariant.specs.Views.{Tells}
use Rattle.multivariant.proofs.check.check_lines.Given as goal

abbrev pub invariant-loop-line : goal.invariant-loop-line
invariant-loop-line g l =
    ((own : List ℕ) (rule : Rule) → Tells (goal.F-post g l.offence) own l.text rule → first own l.text rule (rows_of l.text) ≡ first own l.text rule (lines_left l.line-iterator))
    × (whole l.line-iterator ≡ l.text)
