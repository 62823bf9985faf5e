use Rattle.std.proofs.Common.{length, sym, ap, ◌∙◌, arith}
use Rattle.table.specs.Contents.{spot, contents}
use Rattle.table.specs.Offences.{misplaced, end_of}
use Rattle.table.proofs.Entries.{length-contents}
use Rattle.table.proofs.Loops.{begun, misplaced_on, end_on}
use Rattle.table.proofs.layout.check_places.Goals as goal

pub loop-i-init : goal.loop-i-init
loop-i-init c =
    let file = c.args.table.now.file.now in
    let start = begun _ _ _ (contents file) c.into_iter-i-iterator.ensures.into_iter_gives c.enumerate-i-items.ensures.source c.enumerate-i-items.ensures.count c.entries.ensures in
    let first = sym start.0 in
    let es = sym start.1 in
    let due = sym (c.spot_of-due.ensures ∙ ap spot (c.from.ensures ∙ c.count.ensures)) in (
      omega (arith, start.0, ap length start.1, length-contents file),
      (λ j. misplaced (first j) (due j) (es j)),
      (λ j. end_of (due j) (es j)),
    )

pub loop-i-preserved : goal.loop-i-preserved
loop-i-preserved c =
    let step = c.in-Some.ensures.steps in
    let here = c.loop-i.invariant in (
      omega (arith, here.0, ap length step.0, step.2),
      here.1 ∙ misplaced_on _ _ c.in-Some.entry step.0 _ _ _ _ step.2 (sym c.start.ensures ∙ c.if-start-due.false) c.end-due.ensures,
      here.2 ∙ end_on _ _ c.in-Some.entry step.0 _ _ (sym c.start.ensures ∙ c.if-start-due.false) c.end-due.ensures,
    )
