-- What has been written to a text that grows. Assumes nothing.
use Rattle.std.specs.Prelude.{ℕ, cond, List, ◌++◌, take, Some, None, Option, nat_le}
use Rattle.terms.specs.declared.draft.Draft.{Draft}
use Rattle.terms.specs.Texts.{bounded}

-- the bytes so far, or none once there were too many
abbrev pub drafted : {N : ℕ} → Draft N → Option (List ℕ)
drafted {N} d = cond (nat_le d.len N) (Some (take d.len d.bytes)) None

-- a part behind what was written, where both have at most n bytes
abbrev pub extended : ℕ → Option (List ℕ) → List ℕ → Option (List ℕ)
extended n None part = None
extended n (Some text) part = bounded n (text ++ part)
