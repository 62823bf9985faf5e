use Rattle.std.proofs.Common.{◌≡◌, List, ℕ, [], Some, None, Option, Bor, length, refl, ap, ◌∙◌, arith}
use Rattle.std.specs.Option.{option_map, unwrap_or}
use Rattle.tags.specs.Attributes.{or_nothing}
use Rattle.tags.proofs.Lying.{value_found_lies}
use Rattle.tags.proofs.Splitting.{name_within, value_read}
use Rattle.tags.proofs.attributes.value_in.Goals as goal

-- a part that may be absent, and else nothing
part_read : (o : Option (Bor (List ℕ))) (d : Bor (List ℕ)) → d.now ≡ [] → (unwrap_or o d).now ≡ or_nothing (option_map (λ x. x.now) o)
part_read None d e = e
part_read (Some x) d e = refl

pub overflow_add-result : goal.overflow_add-result
overflow_add-result c = omega (arith, c.requires.fits, ap length c.cut.ensures.front, name_within c.args.field.text.now)

pub overflow_add-result-2 : goal.overflow_add-result-2
overflow_add-result-2 c = omega (arith, c.requires.fits, ap length c.cut.ensures.front, name_within c.args.field.text.now)

pub returns : goal.returns
returns c =
    let text : c.unwrap_or.result.now ≡ or_nothing (option_map (λ x. x.now) c.cut.result.1) = ap (λ (x : Bor (List ℕ)). x.now) c.unwrap_or.ensures ∙ part_read c.cut.result.1 _ refl in
    let (value, within) =
    value_read c.args.field.place c.args.field.text.now c.cut.result.0.now c.unwrap_or.result.now (option_map (λ x. x.now) c.cut.result.1) c.cut.ensures.front c.cut.ensures.back
    text in
    record {
      value = value;
      lies =
          value_found_lies c.args.list.now c.args.field.text.now c.cut.result.0.now c.unwrap_or.result.now c.args.field.place (option_map (λ x. x.now) c.cut.result.1) c.requires.lies
          c.cut.ensures.front c.cut.ensures.back text;
      within = within;
    }
