use Rattle.std.proofs.Common.{ℕ, ◌+◌, drop, sym, ap, ◌∙◌}
use Rattle.uri.specs.Allowed.{allowed}
use Rattle.uri.specs.Legal.{escaped}
use Rattle.uri.proofs.Legal.{digit_due, digit_missing, escape-begins, stands, stands_not, escaped-end}
use Rattle.uri.proofs.legality.is_escaped.Goals as goal

pub returns-then-not-is_hex_digit : goal.returns-then-not-is_hex_digit
returns-then-not-is_hex_digit c =
    sym (c.loop-byte.invariant ∙ digit_missing (allowed c.args.component) c.args.text.now c.loop-byte.byte-index c.loop-byte-test.true c.loop-byte.due c.if-due-gt0.true (sym c.if-not-is_hex_digit.ensures))

pub returns-then-not-allows : goal.returns-then-not-allows
returns-then-not-allows c =
    sym (c.loop-byte.invariant ∙ stands_not (allowed c.args.component) c.args.text.now c.loop-byte.byte-index c.loop-byte-test.true c.loop-byte.due c.if-due-gt0.false c.if-byte-eq37.false (sym c.if-not-allows.ensures))

pub loop-byte-preserved : goal.loop-byte-preserved
loop-byte-preserved c = c.loop-byte.invariant ∙ elim c.if-due-gt0.branch [
  | goal.then-due-gt0+else-not-is_hex_digit w ↦
      digit_due (allowed c.args.component) c.args.text.now c.loop-byte.byte-index c.loop-byte-test.true c.loop-byte.due w.if-due-gt0.true (sym w.if-not-is_hex_digit.ensures)
      ∙ ap (λ (n : ℕ). escaped (allowed c.args.component) n (drop (c.loop-byte.byte-index + 1) c.args.text.now)) (sym w.due-is)
  | goal.else-due-gt0+then-byte-eq37 w ↦
      escape-begins (allowed c.args.component) c.args.text.now c.loop-byte.byte-index c.loop-byte-test.true c.loop-byte.due w.if-due-gt0.false w.if-byte-eq37.true
      ∙ ap (λ (n : ℕ). escaped (allowed c.args.component) n (drop (c.loop-byte.byte-index + 1) c.args.text.now)) (sym w.due-is)
  | goal.else-due-gt0+else-byte-eq37+else-not-allows w ↦
      stands (allowed c.args.component) c.args.text.now c.loop-byte.byte-index c.loop-byte-test.true c.loop-byte.due w.if-due-gt0.false w.if-byte-eq37.false (sym w.if-not-allows.ensures)
      ∙ ap (λ (n : ℕ). escaped (allowed c.args.component) n (drop (c.loop-byte.byte-index + 1) c.args.text.now)) (sym w.due-is)
]

pub returns : goal.returns
returns c = escaped-end (allowed c.args.component) c.args.text.now c.loop-byte.byte-index c.loop-byte-test.false c.loop-byte.due ∙ sym c.loop-byte.invariant
