-- The check accepts the service tables and nothing else, and what is opened means what was written. Assumes nothing.
use Rattle.std.proofs.Common.{◌≡◌, ℕ, ◌<◌, List, get_or, is_ok, Ok, Err, Decides, Result, sym, refl, ap, ◌∙◌, w8, Fits}
use mir.Facts.{Fits-lt-pow}
use Rattle.std.proofs.ByRecursion.{All-from_get_or}
use Rattle.std.proofs.lemmas.Bool.{cond-true}
use Rattle.terms.specs.declared.fault.Fault.{Fault}
use Rattle.terms.specs.Faults.{outcome}
use Rattle.table.specs.Reading.{meaning_of}
use Rattle.table.specs.Checks.{checked}
use Rattle.table.specs.Tables.{example, described}
use Rattle.table.specs.Format.{Table, meant, Bytes}
use Rattle.table.proofs.Accepted.{complete}
use Rattle.table.proofs.Sound.{sound_table}
use Rattle.table.proofs.Inverse.{reading_inverts}

-- a fault told is a fault
ok_outcome : (r : Result (Unit {0}) Fault) → is_ok (outcome r) ≡ is_ok r
ok_outcome (Ok x) = refl
ok_outcome (Err f) = refl

pub decided : (file : List ℕ) (r : Result (Unit {0}) Fault) → ((i : ℕ) → Fits w8 (get_or file i 0)) → outcome r ≡ checked file → Decides (is_ok r) (Table file)
decided file r bytes e =
    let same : is_ok r ≡ is_ok (checked file) = sym (ok_outcome r) ∙ ap is_ok e in
    let all : Bytes file = All-from_get_or (λ (b : ℕ). b < 256) file 0 (λ i h. Fits-lt-pow (bytes i)) in
    ((λ t. sound_table file all (sym same ∙ t)), (λ t. same ∙ complete file t))

pub described-meant : (file : List ℕ) (t : Table file) → described file ≡ meant t
described-meant file t =
    ap meaning_of (cond-true (is_ok (checked file)) file example (complete file t)) ∙ reading_inverts file t
