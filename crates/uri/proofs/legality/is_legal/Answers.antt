use Rattle.uri.proofs.Grammar.{decided}
use Rattle.uri.proofs.legality.is_legal.Goals as goal

pub returns : goal.returns
returns c =
    record {
      value = c.keeps_rules.ensures;
      grammar = decided c.args.uri.now c.keeps_rules.result c.keeps_rules.ensures;
    }
