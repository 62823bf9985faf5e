-- What a fault tells its reader: the number of its refusal, the place and the layer. Assumes nothing.
use Rattle.std.specs.Prelude.{ℕ, Ok, Err, Result}
use Rattle.terms.specs.declared.fault.Fault.{Fault}
use Rattle.terms.specs.declared.layer.Layer.{Layer}
use Rattle.terms.specs.Refusals.{number}

pub record Told : Type 0 where
  pub number : ℕ
  pub place : ℕ
  pub layer : Layer

abbrev pub told : Fault → Told
told f = record { number = number f.refusal; place = f.place; layer = f.layer }

-- what a call answers: its value, or what its fault tells
abbrev pub outcome : {X : Type 0} → Result X Fault → Result X Told
outcome (Ok x) = Ok x
outcome (Err f) = Err (told f)
