use Rattle.std.proofs.Common.{length, ap, ◌∙◌, arith}
use Rattle.table.specs.Contents.{spot}
use Rattle.table.proofs.Entries.{contents_in, length-contents}
use Rattle.table.proofs.contents.Contents.entries.Goals as goal

pub returns : goal.returns
returns c =
    contents_in c.args.self.now.file.now c.spot_of-end.result c.args.self.now.fits (c.spot_of-end.ensures ∙ ap spot (c.from.ensures ∙ c.count.ensures))

pub invariant_of-result : goal.invariant_of-result
invariant_of-result c =
    let file = c.args.self.now.file.now in
    let is = contents_in file c.spot_of-end.result c.args.self.now.fits (c.spot_of-end.ensures ∙ ap spot (c.from.ensures ∙ c.count.ensures)) in
    record { few = omega (arith, ap length is, length-contents file, c.count.ensures, c.count.type_inv) }
