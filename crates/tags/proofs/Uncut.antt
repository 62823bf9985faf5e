-- Texts in which no comma parts two fields, and the fields of what begins with one. Assumes nothing.
use Rattle.std.proofs.Common.{◌≡◌, ℕ, Bool, true, false, not, eqb, ltb, List, [], ◌∷◌, ◌++◌, length, sym, refl, ap, ◌∙◌, subst}
use Rattle.std.proofs.lemmas.List.{append-nil}
use Rattle.std.proofs.lemmas.Bool.{cond-false, and_left, and_right, and_parts}
use Rattle.terms.specs.Classes.{every}
use Rattle.uri.specs.Cuts.{onto}
use Rattle.uri.proofs.Runs.{apart}
use Rattle.tags.specs.Attributes.{now_quoted, parting, fields, attribute_byte, quotable, unquotable}
use Rattle.tags.specs.Grammar.{AttributeValue, Attribute}
use Rattle.tags.specs.Grammar.AttributeValue.{quoted, plain}
use Rattle.tags.specs.Grammar.Attribute.{named}

-- no byte parts, and the text does not end between quotes
data Uncut : Bool → List ℕ → Type 0 where
  end : Uncut false []
  next : {q : Bool} {b : ℕ} {bs : List ℕ} → parting q b ≡ false → Uncut (now_quoted q b) bs → Uncut q (b ∷ bs)

uncut_fields : {q : Bool} {text : List ℕ} → Uncut q text → (tail : List ℕ) (ps : List (List ℕ)) → fields false tail ≡ [] ∷ ps → fields q (text ++ tail) ≡ text ∷ ps
uncut_fields end tail ps e = e
uncut_fields (next {q} {b} {bs} off u) tail ps e =
    ap (λ (t : Bool). onto b t (fields (now_quoted q b) (bs ++ tail))) off ∙ ap (onto b false) (uncut_fields u tail ps e)

-- a run of bytes of which none is a quote and none parts
uncut_run : (test : ℕ → Bool) (q : Bool) (xs ys : List ℕ) → test 34 ≡ false → ((x : ℕ) → test x ≡ true → parting q x ≡ false) → every test xs ≡ true
    → Uncut q ys → Uncut q (xs ++ ys)
uncut_run test q [] ys quote off e u = u
uncut_run test q (x ∷ xs) ys quote off e u =
    let (p, rest) = and_parts (test x) (every test xs) e in
    let same : now_quoted q x ≡ q = cond-false (eqb x 34) (not q) q (apart test x 34 p quote) in
    next (off x p) (subst (λ (t : Bool). Uncut t (xs ++ ys)) (sym same) (uncut_run test q xs ys quote off rest u))

uncut_outside : (test : ℕ → Bool) (xs ys : List ℕ) → test 34 ≡ false → test 44 ≡ false → every test xs ≡ true → Uncut false ys → Uncut false (xs ++ ys)
uncut_outside test xs ys quote comma = uncut_run test false xs ys quote (λ x p. and_left (eqb x 44) true (apart test x 44 p comma))

uncut_value : {value : List ℕ} → AttributeValue value → Uncut false value
uncut_value (quoted inner e) = next refl (uncut_run quotable true inner (34 ∷ []) refl (λ x p. and_right (eqb x 44) false refl) e (next refl end))
uncut_value (plain {b} {bs} e) = subst (Uncut false) (append-nil (b ∷ bs)) (uncut_outside unquotable (b ∷ bs) [] refl refl e end)

uncut_attribute : {text : List ℕ} → Attribute text → Uncut false text
uncut_attribute (named name {value} n v) =
    uncut_outside attribute_byte name (61 ∷ value) refl refl (and_parts (ltb 0 (length name)) (every attribute_byte name) n).1 (next refl (uncut_value v))

-- an attribute is one field
pub fields-one : {a : List ℕ} → Attribute a → fields false a ≡ a ∷ []
fields-one {a} h = ap (fields false) (sym (append-nil a)) ∙ uncut_fields (uncut_attribute h) [] [] refl

-- and, with a comma behind it, the first of the fields
pub fields-more : {a : List ℕ} → Attribute a → (rest : List ℕ) → fields false (a ++ 44 ∷ rest) ≡ a ∷ fields false rest
fields-more h rest = uncut_fields (uncut_attribute h) (44 ∷ rest) (fields false rest) refl
