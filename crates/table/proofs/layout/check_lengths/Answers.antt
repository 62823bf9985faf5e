use Rattle.std.proofs.Common.{length, ap, ◌∙◌}
use Rattle.pathways.specs.Rules.{verdict}
use Rattle.pathways.proofs.Chains.{kept}
use Rattle.table.specs.Contents.{contents}
use Rattle.table.proofs.Lawful.{all_within}
use Rattle.table.proofs.layout.check_lengths.Goals as goal

pub invariant_of-result : goal.invariant_of-result
invariant_of-result c =
    record { within = all_within (length c.args.table.file.now) 0 (contents c.args.table.file.now) (kept 12 _ (c.in_ok-hold.ensures ∙ ap (verdict 12) c.find_overlong.ensures)) }
