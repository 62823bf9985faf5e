use Rattle.std.proofs.Common.{◌-◌}
use Rattle.tags.proofs.Rows.{line_read}
use Rattle.tags.proofs.Lying.{line_found_lies}
use Rattle.tags.proofs.lines.line_at.Goals as goal

pub returns : goal.returns
returns c =
    let (value, step, forth, within) =
    line_read c.args.text.now c.args.at c.args.waits c.if-at-text.false c.rest_from-rest.result.now c.trim-line.result.now c.kind_of-kind.result
    c.place_of-length.result c.now_waits.result c.rest_from-rest.ensures c.place_of-length.ensures.value c.trim-line.ensures c.kind_of-kind.ensures
    c.now_waits.ensures in
    record {
      value = value;
      step = step;
      forth = forth;
      within = within;
      lies = line_found_lies c.args.text.now c.rest_from-rest.result.now c.trim-line.result.now c.args.at (c.place_of-length.result - 0) _ c.rest_from-rest.ensures c.trim-line.ensures;
      waits = c.now_waits.ensures;
    }
