-- The iterators of fields and lines give the lists that they are seen as. Assumes nothing.
use Rattle.std.proofs.Common.{ap}
use Rattle.std.proofs.lemmas.Iterator.{YieldsList}
use Rattle.std.proofs.lemmas.Iterator.Consumers.{YieldsList-from_shown}
use Rattle.std.specs.Prelude.{length}
use Rattle.tags.specs.declared.fields.Fields.{Fields}
use Rattle.tags.specs.declared.lines.Lines.{Lines}
use Rattle.tags.specs.Views.{row, field, fields_left, FieldStep, lines_left, LineStep}

pub all_fields : (s : Fields) → YieldsList FieldStep field s (fields_left s)
all_fields s = YieldsList-from_shown FieldStep field fields_left (λ s t e. ap length e.0) (λ s f t e. e.0) s

pub all_lines : (s : Lines) → YieldsList LineStep row s (lines_left s)
all_lines s = YieldsList-from_shown LineStep row lines_left (λ s t e. ap length e.1.0) (λ s l t e. e.1.0) s
