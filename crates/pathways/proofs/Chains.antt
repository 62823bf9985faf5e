-- One rule after another. Assumes nothing.
use Rattle.std.proofs.Common.{◌≡◌, ℕ, List, [], ◌∷◌, ◌++◌, Some, None, Ok, Err, Option, Result, sym, refl, ap, ◌∙◌, arith}
use Rattle.terms.specs.Faults.{Told}
use Rattle.pathways.specs.Rules.{Rule, verdict, and_then, judged}

-- a rule that is kept
pub skip : (v next : Result (Unit {0}) Told) → Ok tt ≡ v → and_then v next ≡ next
skip v next e = ap (λ (w : Result (Unit {0}) Told). and_then w next) (sym e)

pub and_then_assoc : (u v w : Result (Unit {0}) Told) → and_then u (and_then v w) ≡ and_then (and_then u v) w
and_then_assoc (Ok x) v w = refl
and_then_assoc (Err t) v w = refl

pub judged-append : (xs ys : List Rule) → judged (xs ++ ys) ≡ and_then (judged xs) (judged ys)
judged-append [] ys = refl
judged-append (x ∷ xs) ys =
    ap (and_then (verdict x.number x.offence)) (judged-append xs ys)
    ∙ and_then_assoc (verdict x.number x.offence) (judged xs) (judged ys)

pub stop : (v next : Result (Unit {0}) Told) (t : Told) → Err t ≡ v → Err t ≡ and_then v next
stop v next t e = ap (λ (w : Result (Unit {0}) Told). and_then w next) e

-- what a kept rule says
pub kept : (n : ℕ) (o : Option ℕ) → Ok tt ≡ verdict n o → o ≡ None
kept n None e = refl
kept n (Some p) e = let z : ◌≡◌ {A = ℕ} 0 1 = cc in absurd (omega arith)
