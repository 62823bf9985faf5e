use Rattle.std.proofs.Common.{sym, ap, ◌∙◌}
use Rattle.table.specs.Contents.{contents}
use Rattle.table.proofs.Walks.{among, pathways_among, pathways-among}
use Rattle.table.proofs.reading.walking.pathways.Goals as goal

pub returns : goal.returns
returns c =
    let file = c.args.bodies.now.contents.file.now in
    sym (among c.parts.result) ∙ ap pathways_among c.parts.ensures ∙ pathways-among file (contents file)
