use Rattle.std.proofs.Common.{◌-◌}
use Rattle.tags.proofs.Lying.{front_found_lies}
use Rattle.tags.proofs.Splitting.{field_read}
use Rattle.tags.proofs.fields.field_at.Goals as goal

pub returns : goal.returns
returns c =
    let (step, forth, span) =
    field_read c.args.list.now c.args.at c.if-at-list.false c.rest_from-rest.result.now c.field_length-length.result c.rest_from-rest.ensures
    c.field_length-length.ensures.value in
    record {
      step = step;
      forth = forth;
      lies = front_found_lies c.args.list.now c.rest_from-rest.result.now c.args.at (c.field_length-length.result - 0) c.rest_from-rest.ensures;
      span = span;
    }
