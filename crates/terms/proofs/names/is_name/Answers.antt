use Rattle.std.proofs.Common.{rules, sym, arith}
use Rattle.std.proofs.lemmas.Iterator.{YieldsList-from_slice}
use Rattle.std.proofs.lemmas.Iterator.Search.{all_from_yields_List}
use borrow.Author.Tests.{tests}
use Rattle.terms.specs.Classes.{name_byte}
use Rattle.terms.proofs.Runs.{name_by_bytes}
use Rattle.terms.proofs.names.is_name.Goals as goal

pub returns : goal.returns
returns c =
    sym (name_by_bytes c.args.most c.args.text.now c.all.result (omega arith) (omega arith)
    (sym (all_from_yields_List name_byte _ _ _ c.all.ensures.ran (YieldsList-from_slice c.args.text.now cc) (λ x b q k. search (rules, tests)))))
