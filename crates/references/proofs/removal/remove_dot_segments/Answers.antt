use Rattle.std.proofs.Common.{take, sym, ◌∙◌, subst, arith}
use Rattle.references.specs.Paths.{without_dots, Absolute}
use Rattle.references.proofs.Walks.{segment_within, tail_absolute, walked_on}
use Rattle.references.proofs.removal.remove_dot_segments.Goals as goal

pub loop-read-preserved : goal.loop-read-preserved
loop-read-preserved c =
    let text = c.loop-read.path in
    let read = c.loop-read.read in
    let p = c.place_of.result in
    record {
      walked = walked_on text read p c.loop-read-test.true c.place_of.ensures.value (take c.loop-read.written text) (without_dots c.args.path.now) c.move_segment-written.new.path c.move_segment-written.result
          c.loop-read.invariant.walked c.move_segment-written.ensures.value c.move_segment-written.ensures.rest;
      rooted = subst Absolute (sym c.move_segment-written.ensures.rest) (tail_absolute text read p c.loop-read-test.true c.place_of.ensures.value);
      behind = c.move_segment-written.ensures.bound;
      within = omega (arith, segment_within text read p c.loop-read-test.true c.place_of.ensures.value c.place_of.ensures.within);
      len = c.move_segment-written.auto.path ∙ c.loop-read.invariant.len;
    }
