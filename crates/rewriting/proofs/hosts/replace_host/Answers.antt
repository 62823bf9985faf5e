use Rattle.std.proofs.Common.{ℕ, List, Option}
use Rattle.std.specs.Option.{option_map}
use Rattle.terms.specs.Texts.{content}
use Rattle.rewriting.proofs.Hosted.{new_host, host_alone, stays_legal}
use Rattle.rewriting.proofs.hosts.replace_host.Goals as goal

pub returns : goal.returns
returns g c =
    let answer : Option (List ℕ) = option_map content c.written.result in
    record {
      value = c.written.ensures;
      host = new_host g.row.N c.args.host.now c.args.uri.now answer c.written.ensures;
      alone = host_alone g.row.N c.args.host.now c.args.uri.now answer c.written.ensures;
      legal = stays_legal g.row.N c.args.host.now c.args.uri.now answer c.written.ensures;
    }
