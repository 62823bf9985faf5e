use Rattle.std.proofs.Common.{ℕ, List, Option}
use Rattle.std.specs.Option.{option_map}
use Rattle.terms.specs.Texts.{content}
use Rattle.rewriting.proofs.Promises.{once, others_stay, elsewhere, again, stays_legal}
use Rattle.rewriting.proofs.parameters.set_parameter.Goals as goal

pub returns : goal.returns
returns g c =
    let answer : Option (List ℕ) = option_map content c.written.result in
    record {
      value = c.written.ensures;
      once = once g.row.N c.args.name.now c.args.value.now c.args.uri.now answer c.written.ensures;
      others = others_stay g.row.N c.args.name.now c.args.value.now c.args.uri.now answer c.written.ensures;
      elsewhere = elsewhere g.row.N c.args.name.now c.args.value.now c.args.uri.now answer c.written.ensures;
      again = again g.row.N c.args.name.now c.args.value.now c.args.uri.now answer c.written.ensures;
      legal = stays_legal g.row.N c.args.name.now c.args.value.now c.args.uri.now answer c.written.ensures;
    }
