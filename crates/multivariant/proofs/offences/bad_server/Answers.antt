use Rattle.std.proofs.Common.{◌≡◌, ℕ, Bool, true, false, not, List, refl, ap, ◌∙◌}
use Rattle.std.specs.Bool.{then_some}
use Rattle.references.specs.Resolution.{resolved}
use Rattle.pathways.specs.Rules.{placed}
use Rattle.tags.specs.Attributes.{unquoted}
use Rattle.tags.specs.Views.{row}
use Rattle.multivariant.specs.Offences.{stands, bad_server}
use Rattle.multivariant.proofs.offences.bad_server.Goals as goal

told : (b : Bool) (p : ℕ) → then_some b p ≡ placed b p
told true p = refl
told false p = refl

pub returns : goal.returns
returns c =
    let server = c.in_ok-server.server in
    c.then_some.ensures
    ∙ told (not c.is_standing.result) c.spot_of.result
    ∙ ap (λ (b : Bool). placed (not b) c.spot_of.result) c.is_standing.ensures
    ∙ ap (λ (l : List ℕ). placed (not (stands (resolved c.args.own.now l))) c.spot_of.result) c.unquote.ensures
    ∙ ap (λ (p : ℕ). placed (not (stands (resolved c.args.own.now (unquoted server.text.now)))) p) c.spot_of.ensures
    ∙ ap (bad_server c.args.own.now (row c.args.line)) c.in_ok-server.ensures.value
