use Rattle.std.proofs.Common.{length, drop, sym, ap, ◌∙◌, arith}
use Rattle.table.specs.Contents.{contents}
use Rattle.table.specs.Offences.{overrun}
use Rattle.table.proofs.Entries.{length-contents}
use Rattle.table.proofs.Loops.{left, number, begun, ahead, excess_next, overrun_on, ids_few, members_few}
use Rattle.table.proofs.sense.check_counts.Goals as goal

pub loop-i-init : goal.loop-i-init
loop-i-init c =
    let file = c.args.table.now.file.now in
    let start = begun _ _ _ (contents file) c.into_iter-i-iterator.ensures.into_iter_gives c.enumerate-i-items.ensures.source c.enumerate-i-items.ensures.count c.entries.ensures in
    let first = sym start.0 in
    let es = sym start.1 in (
      omega (arith, start.0, ap length start.1, length-contents file),
      omega arith,
      omega arith,
      ahead (contents file) _ _ _ c.next.ensures.steps c.entries-ahead.ensures ∙ ap (drop 1) es,
      λ j. overrun 0 0 (first j) (es j),
    )

pub loop-i-preserved : goal.loop-i-preserved
loop-i-preserved c =
    let step = c.in-Some.ensures.steps in
    let here = c.loop-i.invariant in
    let behind = here.3 ∙ ap (drop 1) step.0 in
    let tally = c.behind-tally.ensures in
    let ids = sym tally.ids in
    let members = sym tally.members in
    let is = sym (excess_next (left c.next-in-loop-i.new.self) _ _ _ c.next-in-loop-i-2.ensures.steps behind c.loop-i.tally.ids c.loop-i.tally.members c.in-Some.entry.kind) ∙ sym c.if-is_passed.ensures in (
      omega (arith, here.0, ap length step.0, step.2),
      omega (arith, here.1, step.2, tally.ids, ids_few c.loop-i.tally.ids c.in-Some.entry.kind),
      omega (arith, here.2, step.2, tally.members, members_few c.loop-i.tally.members c.in-Some.entry.kind),
      ahead (left c.next-in-loop-i.new.self) _ _ _ c.next-in-loop-i-2.ensures.steps behind,
      here.4
          ∙ overrun_on _ _ c.in-Some.entry step.0 _ _ _ _ step.2 is
          ∙ (λ j. overrun (ids j) (members j) (number c.next-in-loop-i.new.self) (left c.next-in-loop-i.new.self)),
    )
