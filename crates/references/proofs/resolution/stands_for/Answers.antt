use Rattle.std.proofs.Common.{sym}
use Rattle.uri.specs.Views.{texts}
use Rattle.references.specs.Views.{pieces}
use Rattle.references.proofs.Outcome.{room, rooted, there_found}
use Rattle.references.proofs.resolution.stands_for.Goals as goal

pub compose-requires : goal.compose-requires
compose-requires c =
    record {
      empty = c.new-uri.ensures;
      room = room c.args.base.now c.args.reference.now (texts c.split.result) (texts c.split-2.result) (pieces c.target_of-target.result) c.split.ensures c.split-2.ensures c.target_of-target.ensures
          (sym c.if-not-is_legal.ensures.value) (sym c.if-not-is_reference.ensures) (there_found c.target_of-target.result.authority c.if-is_none.ensures);
      rooted = rooted c.args.base.now c.args.reference.now (texts c.split.result) (texts c.split-2.result) (pieces c.target_of-target.result) c.split.ensures c.split-2.ensures c.target_of-target.ensures
          (sym c.if-not-is_legal.ensures.value) (sym c.if-not-is_reference.ensures) (there_found c.target_of-target.result.authority c.if-is_none.ensures);
    }
