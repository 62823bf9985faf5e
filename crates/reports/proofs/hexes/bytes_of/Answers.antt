use Rattle.std.proofs.Common.{rules, None, sym, ap, ◌∙◌}
use Rattle.std.specs.Char.{is_ascii_uppercase}
use Rattle.std.specs.List.{list_any}
use Rattle.std.proofs.lemmas.Bool.{cond-false}
use Rattle.std.proofs.lemmas.Iterator.{YieldsList-from_slice}
use Rattle.std.proofs.lemmas.Iterator.Search.{any_from_yields_List}
use borrow.Author.Tests.{tests}
use Rattle.hex.specs.Hex.{decode_of}
use Rattle.reports.specs.Hexes.{if_decoded}
use Rattle.reports.proofs.hexes.bytes_of.Goals as goal

pub returns-clause-ok : goal.returns-clause-ok
returns-clause-ok c =
    let digits = c.args.digits.now in
    let upper = any_from_yields_List is_ascii_uppercase c.any.new.self _ c.any.result c.any.ensures.ran (YieldsList-from_slice c.as_bytes.result.now cc) (λ x b q k. search (rules, tests)) in
    cond-false _ None (if_decoded (decode_of digits)) (sym (ap (list_any is_ascii_uppercase) c.as_bytes.ensures.value) ∙ sym upper ∙ c.if-any.false)
    ∙ ap if_decoded c.in_ok-decode.ensures.ok
