use Rattle.std.proofs.Common.{ℕ, List, refl, sym, ap, ◌∙◌, rules}
use borrow.Author.Tests.{tests}
use Rattle.std.specs.Option.{option_map}
use Rattle.std.specs.List.{slice_get}
use Rattle.std.proofs.lemmas.Option.{slice_get-map}
use Rattle.std.proofs.lemmas.Iterator.Consumers.{YieldsList-from_first, YieldsList-at, nth_from_yields_List}
use Rattle.std.proofs.lemmas.Iterator.Search.{YieldsList-from_take_while}
use Rattle.table.specs.Parts.{shown, parts_left}
use Rattle.table.proofs.Walks.{is_member_part, body, front_is, found_body}
use Rattle.table.proofs.reading.walking.Group.member.Goals as goal

pub returns : goal.returns
returns c =
    let behind = c.args.self.behind in
    let nth = nth_from_yields_List c.nth-part.result c.nth-part.new.self c.args.number c.nth-part.ensures.ran
    (YieldsList-from_take_while _ is_member_part (YieldsList-at c.take_while.ensures.source (YieldsList-from_first shown parts_left (parts_left behind) refl)) c.take_while.ensures.closure c.take_while.ensures.done (λ x b q k. search (rules, tests))) in
    found_body c.nth-part.result c.map.result (search rules)
    ∙ ap (option_map body) nth
    ∙ sym (slice_get-map body _ c.args.number)
    ∙ ap (λ (l : List (List ℕ)). slice_get l c.args.number) (front_is behind)
