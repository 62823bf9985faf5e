-- The fields of an attribute list, one by one. Assumes nothing.
use Rattle.std.proofs.Common.{◌≡◌, ℕ, suc, ◌+◌, ◌-◌, ◌<◌, ◌≤◌, Bool, true, false, cond, not, eqb, ltb, leb, List, [], ◌∷◌, length, take, drop, Some, None, Option, sym, refl, ap, ◌∙◌, ⊎_elim, suc-le-suc, zero-le, arith, length-take}
use Rattle.std.proofs.lemmas.List.{drop-drop, drop_more, drop_all, length-drop}
use Rattle.std.proofs.lemmas.Bool.{cond-true, cond-false, le-leb, lt-leb, ltb-true, ltb-false, eqb-true, and_parts, cases_Bool}
use Rattle.uri.specs.Cuts.{place, before, behind, holds, onto}
use Rattle.tags.specs.Attributes.{now_quoted, parting, fields, field_length, Field, placed, fields_at, Found, or_nothing, found_in}

le_cond : (t : Bool) (n m : ℕ) → n ≤ m → cond t 0 (suc n) ≤ suc m
le_cond true n m h = zero-le
le_cond false n m h = suc-le-suc h

length-within : (quoted : Bool) (list : List ℕ) → field_length quoted list ≤ length list
length-within quoted [] = zero-le
length-within quoted (b ∷ bs) = le_cond (parting quoted b) (field_length (now_quoted quoted b) bs) (length bs) (length-within (now_quoted quoted b) bs)

-- the fields behind the first one, from the comma on
abbrev others : List ℕ → List (List ℕ)
others [] = []
others (comma ∷ rest) = fields false rest

unquoted_by : (quoted : Bool) → not quoted ≡ true → quoted ≡ false
unquoted_by true e = sym e
unquoted_by false e = refl

not_quoted : (quoted : Bool) (b : ℕ) → parting quoted b ≡ true → now_quoted quoted b ≡ false
not_quoted quoted b e =
    let (comma, off) = and_parts (eqb b 44) (not quoted) e in
    ap (now_quoted quoted) (eqb-true b 44 comma) ∙ unquoted_by quoted off

step : (quoted : Bool) (b : ℕ) (bs : List ℕ) (t : Bool) → parting quoted b ≡ t
    → fields (now_quoted quoted b) bs ≡ take (field_length (now_quoted quoted b) bs) bs ∷ others (drop (field_length (now_quoted quoted b) bs) bs)
    → onto b t (fields (now_quoted quoted b) bs)
    ≡ take (cond t 0 (suc (field_length (now_quoted quoted b) bs))) (b ∷ bs) ∷ others (drop (cond t 0 (suc (field_length (now_quoted quoted b) bs))) (b ∷ bs))
step quoted b bs true e h = ap (λ (q : Bool). [] ∷ fields q bs) (not_quoted quoted b e)
step quoted b bs false e h = ap (onto b false) h

fields_are : (quoted : Bool) (list : List ℕ) → fields quoted list ≡ take (field_length quoted list) list ∷ others (drop (field_length quoted list) list)
fields_are quoted [] = refl
fields_are quoted (b ∷ bs) = step quoted b bs (parting quoted b) refl (fields_are (now_quoted quoted b) bs)

-- the fields from the n-th byte on, where a comma stands there, and where the list ends there
others_at : (list : List ℕ) (m at : ℕ) → at ≡ m + 1 → placed at (others (drop m list)) ≡ fields_at at list
others_at list m at e = ⊎_elim
    (λ inside.
    let h : m < length list = ltb-true m (length list) inside in
    ap (λ (l : List ℕ). placed at (others l)) (drop_more list m 0 h)
    ∙ ap (λ (n : ℕ). placed at (fields false (drop n list))) (sym e)
    ∙ sym (cond-true (leb at (length list)) (placed at (fields false (drop at list))) [] (le-leb at (length list) (omega arith))))
    (λ beyond.
    let h : length list ≤ m = ltb-false m (length list) beyond in
    ap (λ (l : List ℕ). placed at (others l)) (drop_all m list h)
    ∙ sym (cond-false (leb at (length list)) (placed at (fields false (drop at list))) [] (lt-leb at (length list) (omega arith))))
    (cases_Bool (ltb m (length list)))

module _ (list : List ℕ) (at : ℕ) (within : at ≤ length list) where
  abbrev rest : List ℕ
  rest = drop at list

  abbrev size : ℕ
  size = field_length false rest

  long : length (take size rest) ≡ size
  long = omega (arith, length-take size rest, length-within false rest)

  field-first : fields_at at list ≡ record { place = at; text = take size rest } ∷ fields_at (at + size + 1) list
  field-first =
      cond-true (leb at (length list)) (placed at (fields false rest)) [] (le-leb at (length list) within)
      ∙ ap (placed at) (fields_are false rest)
      ∙ ap (λ (l : List Field). record { place = at; text = take size rest } ∷ l) (
      ap (λ (n : ℕ). placed (at + n + 1) (others (drop size rest))) long
      ∙ ap (λ (l : List ℕ). placed (at + size + 1) (others l)) (drop-drop size at list)
      ∙ others_at list (at + size) (at + size + 1) refl
      )

  abbrev lying : ℕ → List ℕ → Field
  lying place text = record { place = place; text = text }

  pub field_read : (back : List ℕ) (n : ℕ) → back ≡ rest → n ≡ field_length false back
      → (fields_at at list ≡ lying at (take (n - 0) back) ∷ fields_at (at + n + 1) list)
      × ((at < at + n + 1) × (at + n + 1 ≤ length list + 1))
      × (at + length (take (n - 0) back) + 1 ≡ at + n + 1)
  field_read back n b e =
      let same : n ≡ size = e ∙ ap (field_length false) b in
      let front : take (n - 0) back ≡ take size rest =
      (let plain : n - 0 ≡ size = omega arith in ap (λ (m : ℕ). take m back) plain ∙ ap (take size) b) in (
        field-first
            ∙ ap (λ (l : List ℕ). lying at l ∷ fields_at (at + size + 1) list) (sym front)
            ∙ ap (λ (m : ℕ). lying at (take (n - 0) back) ∷ fields_at (at + m + 1) list) (sym same),
        (omega arith, omega (arith, same, length-within false rest, length-drop at list)),
        ap (λ (m : ℕ). at + m + 1) (ap length front ∙ long ∙ sym same),
      )

pub name_within : (field : List ℕ) → length (before 61 field) ≤ length field
name_within field = omega (arith, length-take (place 61 field) field)

abbrev lies : ℕ → List ℕ → Found
lies place text = record { place = place; text = text }

behind-within : (field : List ℕ) → length (before 61 field) + length (or_nothing (behind 61 field)) ≤ length field
behind-within field = ⊎_elim
    (λ e. omega (
      arith,
      length-take (place 61 field) field,
      ltb-true (place 61 field) (length field) e,
      ap (λ (o : Option (List ℕ)). length (or_nothing o)) (cond-true (holds 61 field) (Some (drop (place 61 field + 1) field)) None e),
      length-drop (place 61 field + 1) field,
    ))
    (λ e. omega (
      arith,
      length-take (place 61 field) field,
      ap (λ (o : Option (List ℕ)). length (or_nothing o)) (cond-false (holds 61 field) (Some (drop (place 61 field + 1) field)) None e),
    ))
    (cases_Bool (holds 61 field))

-- the value that the code found in a field
pub value_read : (at : ℕ) (field name text : List ℕ) (rest : Option (List ℕ)) → name ≡ before 61 field → rest ≡ behind 61 field → text ≡ or_nothing rest
    → (lies (at + length name + 1) text ≡ found_in (record { place = at; text = field }))
    × (at + length name + 1 + length text ≤ at + length field + 1)
value_read at field name text rest n b t =
    let is : text ≡ or_nothing (behind 61 field) = t ∙ ap or_nothing b in (
      ap (λ (l : List ℕ). lies (at + length l + 1) text) n ∙ ap (lies (at + length (before 61 field) + 1)) is,
      omega (arith, ap length n, ap length is, behind-within field),
    )
