-- A bit of the number that stands for four answers is the answer. Assumes nothing.
use Rattle.std.proofs.Common.{◌≡◌, ℕ, ◌+◌, Bool, true, false, cond, refl}
use Rattle.terms.specs.Classes.{holds}

abbrev pub bits : Bool → Bool → Bool → Bool → ℕ
bits p q r s = cond p 1 0 + (cond q 2 0 + (cond r 4 0 + cond s 8 0))

pub record Answers (p q r s : Bool) : Type 0 where
  pub first : holds (bits p q r s) 1 ≡ p
  pub second : holds (bits p q r s) 2 ≡ q
  pub third : holds (bits p q r s) 4 ≡ r
  pub fourth : holds (bits p q r s) 8 ≡ s

pub answers : (p q r s : Bool) → Answers p q r s
answers true true true true = record { first = refl; second = refl; third = refl; fourth = refl }
answers true true true false = record { first = refl; second = refl; third = refl; fourth = refl }
answers true true false true = record { first = refl; second = refl; third = refl; fourth = refl }
answers true true false false = record { first = refl; second = refl; third = refl; fourth = refl }
answers true false true true = record { first = refl; second = refl; third = refl; fourth = refl }
answers true false true false = record { first = refl; second = refl; third = refl; fourth = refl }
answers true false false true = record { first = refl; second = refl; third = refl; fourth = refl }
answers true false false false = record { first = refl; second = refl; third = refl; fourth = refl }
answers false true true true = record { first = refl; second = refl; third = refl; fourth = refl }
answers false true true false = record { first = refl; second = refl; third = refl; fourth = refl }
answers false true false true = record { first = refl; second = refl; third = refl; fourth = refl }
answers false true false false = record { first = refl; second = refl; third = refl; fourth = refl }
answers false false true true = record { first = refl; second = refl; third = refl; fourth = refl }
answers false false true false = record { first = refl; second = refl; third = refl; fourth = refl }
answers false false false true = record { first = refl; second = refl; third = refl; fourth = refl }
answers false false false false = record { first = refl; second = refl; third = refl; fourth = refl }
