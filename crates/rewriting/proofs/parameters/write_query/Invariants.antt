use Rattle.std.proofs.Common.{◌≡◌}
use Rattle.std.specs.Option.{option_map}
use Rattle.terms.specs.Drafts.{drafted, extended}
use Rattle.rewriting.specs.Parameters.{pieces, set_in}
use Rattle.rewriting.proofs.Steps.{set_from, listed}
use Rattle.rewriting.proofs.parameters.write_query.Given as goal

abbrev pub invariant-loop-part : goal.invariant-loop-part
invariant-loop-part g l =
    extended g.row.N (drafted l.draft) (listed l.mark (set_from l.parameter.name.now l.parameter.value.now l.set l.part-iterator))
    ≡ extended g.row.N (drafted l.initial.draft) (listed 63 (set_in l.parameter.name.now l.parameter.value.now (pieces (option_map (λ x. x.now) l.query))))
