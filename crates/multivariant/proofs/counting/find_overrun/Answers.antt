use Rattle.std.proofs.Common.{ℕ, [], Some, inl, length, take, drop, sym, ap, ◌∙◌, arith}
use Rattle.std.specs.Iterator.Adapters.{enumerate_source, enumerate_count}
use Rattle.multivariant.specs.Streams.{streams_of, pathway_of, count_of}
use Rattle.multivariant.specs.Offences.{overrun}
use Rattle.multivariant.specs.Views.{served, streams_left}
use Rattle.multivariant.proofs.Counts.{few_streams, overrun_here, overrun_again}
use Rattle.multivariant.proofs.counting.find_overrun.Goals as goal

pub loop-before-init-derived : goal.loop-before-init-derived
loop-before-init-derived c =
    let into = c.into_iter-before-iterator.ensures.into_iter_gives in
    let none = ap enumerate_count into ∙ c.enumerate-before-items.ensures.count in
    let all = ap (λ s. streams_left (enumerate_source s)) into ∙ ap streams_left c.enumerate-before-items.ensures.source ∙ c.streams_of.ensures in
    ((tt, tt, inl (omega (arith, none, ap length all, few_streams c.args.text.now))), tt)

pub loop-before-init : goal.loop-before-init
loop-before-init c =
    let text = c.args.text.now in
    let into = c.into_iter-before-iterator.ensures.into_iter_gives in
    let none = ap enumerate_count into ∙ c.enumerate-before-items.ensures.count in
    let all = ap (λ s. streams_left (enumerate_source s)) into ∙ ap streams_left c.enumerate-before-items.ensures.source ∙ c.streams_of.ensures in (
      ap (overrun 0 []) (sym all) ∙ ap (λ (n : ℕ). overrun 0 (take n (streams_of text)) (streams_left (enumerate_source c.into_iter-before-iterator.result))) (sym none),
      ap (λ (n : ℕ). drop n (streams_of text)) none ∙ sym all,
      omega arith,
      omega (arith, none, ap length all, few_streams text),
      (tt, tt, inl (omega (arith, none, ap length all, few_streams text))),
      tt,
    )

pub returns-then-is_excess : goal.returns-then-is_excess
returns-then-is_excess c =
    let all = streams_of c.args.text.now in
    let it = c.loop-before.before-iterator in
    let (turn, at, on, room) = c.in-Some.ensures.steps in
    let step = turn.1.0 in
    let same = c.count_streams-same.ensures ∙ ap (λ id. count_of id (take c.in-Some.before all)) c.pathway_of.ensures ∙ ap (λ (n : ℕ). count_of (pathway_of (served c.in-Some.stream)) (take n all)) at in
    ap Some c.place_of.ensures
    ∙ sym (overrun_here all (streams_left (enumerate_source it)) (streams_left (enumerate_source c.next.new.self)) (served c.in-Some.stream) (enumerate_count it) c.loop-before.pathways
    c.count_streams-same.result c.loop-before.invariant.0 step c.loop-before.invariant.1 same (sym c.if-is_excess.ensures))

pub loop-before-preserved : goal.loop-before-preserved
loop-before-preserved c =
    let all = streams_of c.args.text.now in
    let it = c.loop-before.before-iterator in
    let left = streams_left (enumerate_source c.next.new.self) in
    let (turn, at, on, room) = c.in-Some.ensures.steps in
    let step = turn.1.0 in
    let same = c.count_streams-same.ensures ∙ ap (λ id. count_of id (take c.in-Some.before all)) c.pathway_of.ensures ∙ ap (λ (n : ℕ). count_of (pathway_of (served c.in-Some.stream)) (take n all)) at in
    let (value, rest, few) =
    overrun_again all (streams_left (enumerate_source it)) left (served c.in-Some.stream) (enumerate_count it) c.loop-before.pathways
    c.count_streams-same.result c.loop-before.invariant.0 step c.loop-before.invariant.1 same c.pathways_now-pathways.result c.loop-before.invariant.2 (sym c.if-is_excess.ensures) c.pathways_now-pathways.ensures in (
      value ∙ ap (λ (n : ℕ). overrun c.pathways_now-pathways.result (take n all) left) (sym on),
      ap (λ (n : ℕ). drop n all) on ∙ rest,
      omega (arith, few, on),
      omega (arith, c.loop-before.invariant.3, ap length step, on),
      (tt, tt, inl (omega (arith, c.loop-before.invariant.3, ap length step, on))),
      tt,
    )
