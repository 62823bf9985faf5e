-- Parts of parts of a text. Assumes nothing.
use Rattle.std.proofs.Common.{◌≡◌, ℕ, zero, suc, ◌+◌, ◌-◌, ◌≤◌, Bool, true, ◌&&◌, leb, List, [], ◌∷◌, length, take, drop, Some, None, Option, sym, refl, ap, ◌∙◌, ⊎_elim, arith, length-take}
use Rattle.std.proofs.lemmas.List.{take-take, take_all, drop-take, drop-drop, length-drop}
use Rattle.std.proofs.lemmas.Bool.{cond-true, cond-false, leb-true, leb-false, cases_Bool}
use Rattle.uri.specs.Cuts.{place, before, behind, holds}
use Rattle.tags.specs.Places.{Lies}
use Rattle.tags.specs.Lines.{ends_in_return, trimmed}
use Rattle.tags.specs.Attributes.{or_nothing}
use Rattle.tags.proofs.Rows.{length_before}

-- a front of a text
pub front_lies : (m : ℕ) (xs : List ℕ) → take (length (take m xs)) xs ≡ take m xs
front_lies zero xs = refl
front_lies (suc m) [] = refl
front_lies (suc m) (x ∷ xs) = ap (λ (l : List ℕ). x ∷ l) (front_lies m xs)

-- the rest of a text
pub rest_lies : (xs : List ℕ) (n : ℕ) → Lies xs n (drop n xs)
rest_lies xs n = take_all (length (drop n xs)) (drop n xs) (omega arith)

none : (xs : List ℕ) → length xs ≡ 0 → [] ≡ xs
none [] e = refl
none (x ∷ xs) e = absurd (omega arith)

-- a part of a part
pub part_lies : (outer part sub : List ℕ) (p q : ℕ) → Lies outer p part → Lies part q sub → Lies outer (p + q) sub
part_lies outer part sub p q a b = ⊎_elim
    (λ (inside : leb q (length part) ≡ true).
    let h : q ≤ length part = leb-true q (length part) inside in
    let on : length part ≡ q + (length part - q) = omega arith in
    let few : length sub ≤ length part - q = omega (arith, ap length b, length-take (length sub) (drop q part), length-drop q part) in
    sym (take-take (length sub) (length part - q) (drop (p + q) outer) few)
    ∙ ap (λ (l : List ℕ). take (length sub) (take (length part - q) l)) (sym (drop-drop q p outer))
    ∙ ap (take (length sub)) (sym (drop-take q (length part - q) (drop p outer)))
    ∙ ap (λ (n : ℕ). take (length sub) (drop q (take n (drop p outer)))) (sym on)
    ∙ ap (λ (l : List ℕ). take (length sub) (drop q l)) a
    ∙ b)
    (λ beyond.
    let h = leb-false q (length part) beyond in
    let short : length sub ≡ 0 = omega (arith, ap length b, length-take (length sub) (drop q part), length-drop q part) in
    ap (λ (n : ℕ). take n (drop (p + q) outer)) short ∙ none sub short)
    (cases_Bool (leb q (length part)))

-- a line as it is read stands where the line begins
pub line_lies : (ended : Bool) (m : ℕ) (rest : List ℕ) → take (length (trimmed ended (take m rest))) rest ≡ trimmed ended (take m rest)
line_lies ended m rest = ⊎_elim
    (λ e.
    let is = cond-true (ended && ends_in_return (take m rest)) (take (length (take m rest) - 1) (take m rest)) (take m rest) e in
    let sub = part_lies rest (take m rest) (take (length (take m rest) - 1) (take m rest)) 0 0 (front_lies m rest) (front_lies (length (take m rest) - 1) (take m rest)) in
    ap (λ (l : List ℕ). take (length l) rest) is ∙ sub ∙ sym is)
    (λ e.
    let is = cond-false (ended && ends_in_return (take m rest)) (take (length (take m rest) - 1) (take m rest)) (take m rest) e in
    ap (λ (l : List ℕ). take (length l) rest) is ∙ front_lies m rest ∙ sym is)
    (cases_Bool (ended && ends_in_return (take m rest)))

pub line_found_lies : (text back found : List ℕ) (at m : ℕ) (ended : Bool) → back ≡ drop at text → found ≡ trimmed ended (take m back) → Lies text at found
line_found_lies text back found at m ended b f =
    ap (λ (l : List ℕ). take (length l) (drop at text)) f
    ∙ ap (λ (l : List ℕ). take (length (trimmed ended (take m back))) l) (sym b)
    ∙ line_lies ended m back
    ∙ sym f

pub front_found_lies : (list back : List ℕ) (at m : ℕ) → back ≡ drop at list → Lies list at (take m back)
front_found_lies list back at m b = ap (λ (l : List ℕ). take (length (take m back)) l) (sym b) ∙ front_lies m back

-- what stands behind a name and its `=`
pub value_lies : (field : List ℕ) → Lies field (length (before 61 field) + 1) (or_nothing (behind 61 field))
value_lies field = ⊎_elim
    (λ e.
    let is = ap or_nothing (cond-true (holds 61 field) (Some (drop (place 61 field + 1) field)) None e) in
    let long : length (before 61 field) + 1 ≡ place 61 field + 1 = omega (arith, length_before 61 field) in
    ap (λ (l : List ℕ). take (length l) (drop (length (before 61 field) + 1) field)) is
    ∙ ap (λ (n : ℕ). take (length (drop (place 61 field + 1) field)) (drop n field)) long
    ∙ rest_lies field (place 61 field + 1)
    ∙ sym is)
    (λ e.
    let is = ap or_nothing (cond-false (holds 61 field) (Some (drop (place 61 field + 1) field)) None e) in
    ap (λ (l : List ℕ). take (length l) (drop (length (before 61 field) + 1) field)) is ∙ sym is)
    (cases_Bool (holds 61 field))

-- the value that the code found, in the list that the field stands in
pub value_found_lies : (list field name text : List ℕ) (at : ℕ) (rest : Option (List ℕ)) → Lies list at field → name ≡ before 61 field → rest ≡ behind 61 field → text ≡ or_nothing rest
    → Lies list (at + length name + 1) text
value_found_lies list field name text at rest f n b t =
    let is : text ≡ or_nothing (behind 61 field) = t ∙ ap or_nothing b in
    let there : at + length name + 1 ≡ at + (length (before 61 field) + 1) = omega (arith, ap length n) in
    ap (λ (l : List ℕ). take (length l) (drop (at + length name + 1) list)) is
    ∙ ap (λ (m : ℕ). take (length (or_nothing (behind 61 field))) (drop m list)) there
    ∙ part_lies list field (or_nothing (behind 61 field)) at (length (before 61 field) + 1) f (value_lies field)
    ∙ sym is
