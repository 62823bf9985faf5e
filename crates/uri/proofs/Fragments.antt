-- A URI without its fragment. Assumes nothing.
use Rattle.std.proofs.Common.{◌≡◌, ℕ, ◌≤◌, Bool, true, false, ◌&&◌, leb, List, length, None, Option, refl, ap, ◌∙◌, arith, length-take}
use Rattle.std.proofs.lemmas.Bool.{le-leb, leb-true, and_from, and_parts}
use Rattle.uri.specs.Cuts.{place, before, behind}
use Rattle.uri.specs.Splits.{without_fragment, fragment, scheme, behind_scheme, authority, path, split}
use Rattle.uri.specs.Legal.{is_scheme, is_authority, is_path, is_query, if_present, present, legal_parts, legal}
use Rattle.uri.proofs.Free.{before_free, before_of_free, behind_of_free}

-- a text without its fragment has none
pub no_fragment : (text : List ℕ) → fragment (without_fragment text) ≡ None
no_fragment text = behind_of_free (before_free 35 text)

-- and so it stays as it is
pub without_twice : (text : List ℕ) → without_fragment (without_fragment text) ≡ without_fragment text
without_twice text = before_of_free (before_free 35 text)

pub without_length : (text : List ℕ) → length (without_fragment text) ≤ length text
without_length text = omega (arith, length-take (place 35 text) text)

-- the tests of the parts, on a text without its fragment and on that
abbrev front : List ℕ → Bool
front whole = present is_scheme (scheme (before 63 whole)) && present is_authority (authority (behind_scheme (before 63 whole)))

abbrev middle : List ℕ → Bool
middle whole = is_path (path (behind_scheme (before 63 whole)))

abbrev parts : List ℕ → Option (List ℕ) → Bool
parts whole tail = front whole && (middle whole && (if_present is_query (behind 63 whole) && if_present is_query tail))

drop_tail : (a b c d : Bool) → (a && (b && (c && d))) ≡ true → (a && (b && (c && true))) ≡ true
drop_tail true true true d e = refl
drop_tail true true false d e = e
drop_tail true false c d e = e
drop_tail false b c d e = e

parts_whole : (text : List ℕ) → legal_parts (split text) ≡ true → legal_parts (split (without_fragment text)) ≡ true
parts_whole text e =
    ap (λ (whole : List ℕ). parts whole (fragment (without_fragment text))) (without_twice text)
    ∙ ap (parts (without_fragment text)) (no_fragment text)
    ∙ drop_tail (front (without_fragment text)) (middle (without_fragment text)) (if_present is_query (behind 63 (without_fragment text))) (if_present is_query (fragment text)) e

-- a legal URI is legal without its fragment
pub legal-whole : (text : List ℕ) → legal text ≡ true → legal (without_fragment text) ≡ true
legal-whole text e =
    let (short, good) = and_parts (leb (length text) 512) (legal_parts (split text)) e in
    and_from (leb (length (without_fragment text)) 512) (legal_parts (split (without_fragment text)))
    (le-leb (length (without_fragment text)) 512 (omega (arith, leb-true (length text) 512 short, without_length text)))
    (parts_whole text good)
