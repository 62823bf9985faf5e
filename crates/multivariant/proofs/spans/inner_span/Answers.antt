use Rattle.tags.specs.Views.{row}
use Rattle.multivariant.proofs.Slicing.{inner_sliced}
use Rattle.multivariant.proofs.spans.inner_span.Goals as goal

pub returns : goal.returns
returns c =
    inner_sliced c.args.text.now c.args.value.text.now c.unquote.result.now (row c.args.line) c.name_length.result c.args.value.place c.requires.line.0 c.requires.value
    c.name_length.ensures.value c.unquote.ensures
