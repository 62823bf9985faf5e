-- An answer in text: the result of the call, and the lent buffer afterwards. Assumes nothing.
use Rattle.std.specs.Prelude.{ℕ, cond, List, ◌++◌, length, drop, Ok, Err, Result, nat_le}
use Rattle.terms.specs.declared.layer.Layer.{Layer}
use Rattle.terms.specs.Faults.{Told}

pub record Reply : Type 0 where
  pub result : Result ℕ Told
  pub buffer : List ℕ

-- turned down: the buffer stays as it was
abbrev pub refused : ℕ → Layer → List ℕ → Reply
refused n layer old = record { result = Err (record { number = n; place = 0; layer = layer }); buffer = old }

-- the text stands at the front, and the bytes behind it stay; a buffer that is too short is turned down by 7
abbrev pub copied : List ℕ → Layer → List ℕ → Reply
copied text layer old =
    cond (nat_le (length text) (length old))
    (record { result = Ok (length text); buffer = text ++ drop (length text) old })
    (refused 7 layer old)
