use Rattle.std.specs.Option.{option_map}
use Rattle.terms.specs.Texts.{content}
use Rattle.references.proofs.Laws.{only_legal, undotted, itself}
use Rattle.references.proofs.Loops.{looped}
use Rattle.references.proofs.resolution.resolve.Goals as goal

pub returns : goal.returns
returns c =
    record {
      value = c.stands_for.ensures;
      legal = only_legal c.args.base.now c.args.reference.now (option_map content c.stands_for.result) c.stands_for.ensures;
      undotted = undotted c.args.base.now c.args.reference.now (option_map content c.stands_for.result) c.stands_for.ensures;
      itself = itself c.args.base.now c.args.reference.now (option_map content c.stands_for.result) c.stands_for.ensures;
      looped = looped;
    }
