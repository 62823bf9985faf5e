use Rattle.std.proofs.Common.{ℕ, List, Bor, rules, ◌∙◌}
use Rattle.std.proofs.lemmas.Iterator.{YieldsList-from_slice}
use Rattle.std.proofs.lemmas.Iterator.Search.{any_from_yields_List}
use Rattle.std.specs.Str.{bytes_eq}
use borrow.Author.Tests.{tests}
use Rattle.playlist.proofs.Looking.{any_seen}
use Rattle.playlist.proofs.reading.ordering.is_among.Goals as goal

pub returns : goal.returns
returns c =
    any_from_yields_List (λ (x : Bor (List ℕ)). bytes_eq x.now c.args.id.now) _ _ c.any.result c.any.ensures.ran (YieldsList-from_slice c.args.order.now cc) (λ x b q k. search (rules, tests))
    ∙ any_seen (λ (x : Bor (List ℕ)). x.now) (λ x. bytes_eq x c.args.id.now) c.args.order.now
