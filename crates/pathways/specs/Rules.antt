-- The rules of a description's text, one after the other: the first that is broken decides. Assumes nothing.
use Rattle.std.specs.Prelude.{ℕ, Bool, cond, ◌||◌, List, [], ◌∷◌, length, Some, None, Ok, Err, Option, Result, ◌==◌, nat_lt}
use Rattle.terms.specs.declared.layer.Layer.TheVariants.{Description}
use Rattle.terms.specs.declared.fault.Fault.{Fault}
use Rattle.terms.specs.Faults.{Told, told}

-- the place, where the test is met
abbrev pub placed : Bool → ℕ → Option ℕ
placed b p = cond b (Some p) None

-- no byte, or more than 65,535
abbrev pub bad_length : List ℕ → Option ℕ
bad_length text = placed (length text == 0 || nat_lt 65535 (length text)) 0

-- a refusal's number, and the first offence that it is for
pub record Rule : Type 0 where
  pub number : ℕ
  pub offence : Option ℕ

abbrev pub verdict : ℕ → Option ℕ → Result (Unit {0}) Told
verdict n (Some p) = Err (record { number = n; place = p; layer = Description })
verdict n None = Ok tt

-- a call's answer without its value
abbrev pub done : {X : Type 0} → Result X Fault → Result (Unit {0}) Told
done (Ok x) = Ok tt
done (Err f) = Err (told f)

-- the answer of the first rule that is broken
abbrev pub and_then : Result (Unit {0}) Told → Result (Unit {0}) Told → Result (Unit {0}) Told
and_then (Ok x) next = next
and_then (Err t) next = Err t

abbrev pub judged : List Rule → Result (Unit {0}) Told
judged [] = Ok tt
judged (r ∷ rs) = and_then (verdict r.number r.offence) (judged rs)
