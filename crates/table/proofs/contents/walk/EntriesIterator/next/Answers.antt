use Rattle.std.proofs.Common.{length, refl, ap, rules, arith}
use Rattle.table.proofs.Entries.{first_entry}
use Rattle.table.proofs.contents.walk.EntriesIterator.next.Goals as goal

pub returns-clause-steps : goal.returns-clause-steps
returns-clause-steps c =
    first_entry c.args.self.now.bytes.now _ _ _ c.in-len5-up.len_at_least c.from.ensures c.pair_of.ensures c.pair_of-2.ensures

pub returns-clause-goes : goal.returns-clause-goes
returns-clause-goes c =
    let less = ap length (first_entry c.args.self.now.bytes.now _ _ _ c.in-len5-up.len_at_least c.from.ensures c.pair_of.ensures c.pair_of-2.ensures) in
    search rules

pub invariant_of-self : goal.invariant_of-self
invariant_of-self c =
    let less = ap length (first_entry c.args.self.now.bytes.now _ _ _ c.in-len5-up.len_at_least refl refl refl) in
    record { few = omega (arith, less, c.args.self.now.few) }
