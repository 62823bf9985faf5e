use Rattle.tags.proofs.Grammar.{decided}
use Rattle.tags.proofs.attributes.is_list.Goals as goal

pub returns : goal.returns
returns c =
    record {
      value = c.keeps_syntax.ensures;
      grammar = decided c.args.list.now c.keeps_syntax.result c.keeps_syntax.ensures;
    }
