use Rattle.std.proofs.Common.{◌≡◌, rules, Bool, true, false, cond, List, [], ◌∷◌, Some, None, Option, refl, ap, ◌∙◌}
use Rattle.std.specs.List.{find}
use Rattle.std.specs.Option.{option_map}
use Rattle.std.proofs.lemmas.Iterator.Search.{find_from_yields_List}
use borrow.Author.Tests.{tests}
use Rattle.tags.specs.declared.line.Line.{Line}
use Rattle.tags.specs.Lines.{Row}
use Rattle.tags.specs.Views.{row, lines_left}
use Rattle.tags.proofs.Roads.{all_lines}
use Rattle.multivariant.specs.Tags.{is_steering}
use Rattle.multivariant.specs.Streams.{no_tag, steering_in}
use Rattle.multivariant.specs.Views.{tag_row}
use Rattle.multivariant.proofs.Roads.{stands_then}
use Rattle.multivariant.proofs.steering.steering_tag.Goals as goal

abbrev or_no_tag : Option Row → Row
or_no_tag None = no_tag
or_no_tag (Some r) = r

step : (b : Bool) (r : Row) (o : Option Row) (s : Row) → or_no_tag o ≡ s → or_no_tag (cond b (Some r) o) ≡ cond b r s
step true r o s e = refl
step false r o s e = e

first_is : (rows : List Row) → or_no_tag (find (λ (r : Row). is_steering r.kind) rows) ≡ steering_in rows
first_is [] = refl
first_is (r ∷ rs) = step (is_steering r.kind) r (find (λ (r : Row). is_steering r.kind) rs) (steering_in rs) (first_is rs)

seen_as : (o : Option Line) → tag_row o ≡ or_no_tag (option_map row o)
seen_as None = refl
seen_as (Some l) = refl

pub returns : goal.returns
returns c =
    record {
      value =
          seen_as c.find.result
          ∙ ap or_no_tag (find_from_yields_List (λ (r : Row). is_steering r.kind) c.find.new.self _ c.find.result c.find.ensures.ran (all_lines c.lines_of.result) (λ x b q k. search (rules, tests)))
          ∙ first_is (lines_left c.lines_of.result)
          ∙ ap steering_in c.lines_of.ensures.left;
      stands = stands_then c.args.text.now c.lines_of.result c.find.new.self c.find.ensures.ran.0 c.find.result c.lines_of.ensures.text c.find.ensures.ran.2;
    }
