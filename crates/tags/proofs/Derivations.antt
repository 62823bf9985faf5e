-- An attribute list passes where the grammar derives it, and the grammar derives what passes. Assumes nothing.
use Rattle.std.proofs.Common.{◌≡◌, ℕ, ◌+◌, Bool, true, false, cond, not, eqb, ltb, List, [], ◌∷◌, ◌++◌, length, Some, None, Option, sym, refl, ap, ◌∙◌, subst, arith}
use Rattle.std.proofs.lemmas.List.{append-nil}
use Rattle.std.proofs.lemmas.Bool.{cond-false, eqb-true, lt-ltb, and_from, and_parts, false≢true}
use Rattle.terms.specs.Classes.{every}
use Rattle.uri.specs.Cuts.{before, behind, marked, onto, led}
use Rattle.uri.proofs.Free.{Free, before-marked, behind-marked, text_is}
use Rattle.uri.proofs.Runs.{apart, every_free}
use Rattle.tags.specs.Attributes.{now_quoted, parting, fields, placed, attribute_byte, is_attribute_name, quotable, unquotable, is_nothing, is_closed, is_plain, is_value, if_value, is_attribute, are_attributes, is_list}
use Rattle.tags.specs.Grammar.{AttributeValue, Attribute, AttributeList}
use Rattle.tags.specs.Grammar.AttributeValue.{quoted, plain}
use Rattle.tags.specs.Grammar.Attribute.{named}
use Rattle.tags.specs.Grammar.AttributeList.{one, more}
use Rattle.tags.proofs.Uncut.{fields-one, fields-more}

value_passes : {value : List ℕ} → AttributeValue value → is_value value ≡ true
value_passes (quoted inner e) =
    let f : Free 34 inner = every_free quotable 34 inner refl e in
    and_from (is_nothing (behind 34 (inner ++ 34 ∷ []))) (every quotable (before 34 (inner ++ 34 ∷ [])))
    (ap is_nothing (behind-marked f (Some [])))
    (ap (every quotable) (before-marked f (Some [])) ∙ e)
value_passes (plain {b} {bs} e) =
    cond-false (eqb b 34) (is_closed bs) (is_plain (b ∷ bs)) (apart unquotable b 34 (and_parts (unquotable b) (every unquotable bs) e).0 refl)
    ∙ and_from (ltb 0 (length (b ∷ bs))) (every unquotable (b ∷ bs)) (lt-ltb 0 (length (b ∷ bs)) (omega arith)) e

attribute_passes : {a : List ℕ} → Attribute a → is_attribute a ≡ true
attribute_passes (named name {value} n v) =
    let f : Free 61 name = every_free attribute_byte 61 name refl (and_parts (ltb 0 (length name)) (every attribute_byte name) n).1 in
    and_from (is_attribute_name (before 61 (name ++ 61 ∷ value))) (if_value (behind 61 (name ++ 61 ∷ value)))
    (ap is_attribute_name (before-marked f (Some value)) ∙ n)
    (ap if_value (behind-marked f (Some value)) ∙ value_passes v)

fields_pass : {list : List ℕ} → AttributeList list → (at : ℕ) → are_attributes (placed at (fields false list)) ≡ true
fields_pass (one {a} h) at =
    ap (λ (fs : List (List ℕ)). are_attributes (placed at fs)) (fields-one h) ∙ and_from (is_attribute a) true (attribute_passes h) refl
fields_pass (more {a} {rest} h l) at =
    ap (λ (fs : List (List ℕ)). are_attributes (placed at fs)) (fields-more h rest)
    ∙ and_from (is_attribute a) (are_attributes (placed (at + length a + 1) (fields false rest))) (attribute_passes h) (fields_pass l (at + length a + 1))

pub list_passes : {list : List ℕ} → AttributeList list → is_list list ≡ true
list_passes h = fields_pass h 0

closed_value : (rest : List ℕ) (behind : Option (List ℕ)) (inner : List ℕ) → rest ≡ inner ++ marked 34 behind → is_nothing behind ≡ true → every quotable inner ≡ true → AttributeValue (34 ∷ rest)
closed_value rest None inner is e q = absurd (false≢true e)
closed_value rest (Some []) inner is e q = subst (λ (l : List ℕ). AttributeValue (34 ∷ l)) (sym is) (quoted inner q)
closed_value rest (Some (x ∷ xs)) inner is e q = absurd (false≢true e)

value_by : (b : ℕ) (bs : List ℕ) (t : Bool) → eqb b 34 ≡ t → cond t (is_closed bs) (is_plain (b ∷ bs)) ≡ true → AttributeValue (b ∷ bs)
value_by b bs true quote e =
    let (nothing, inner) = and_parts (is_nothing (behind 34 bs)) (every quotable (before 34 bs)) e in
    subst (λ (x : ℕ). AttributeValue (x ∷ bs)) (sym (eqb-true b 34 quote)) (closed_value bs (behind 34 bs) (before 34 bs) (text_is 34 bs) nothing inner)
value_by b bs false quote e = plain (and_parts (ltb 0 (length (b ∷ bs))) (every unquotable (b ∷ bs)) e).1

value_derived : (value : List ℕ) → is_value value ≡ true → AttributeValue value
value_derived [] e = absurd (false≢true e)
value_derived (b ∷ bs) e = value_by b bs (eqb b 34) refl e

attribute_by : (text name : List ℕ) (value : Option (List ℕ)) → text ≡ name ++ marked 61 value → is_attribute_name name ≡ true → if_value value ≡ true → Attribute text
attribute_by text name None is n e = absurd (false≢true e)
attribute_by text name (Some value) is n e = subst Attribute (sym is) (named name n (value_derived value e))

attribute_derived : (text : List ℕ) → is_attribute text ≡ true → Attribute text
attribute_derived text e =
    let (n, v) = and_parts (is_attribute_name (before 61 text)) (if_value (behind 61 text)) e in
    attribute_by text (before 61 text) (behind 61 text) (text_is 61 text) n v

-- fields with commas between them
fields_derived : (at : ℕ) (f : List ℕ) (fs : List (List ℕ)) → are_attributes (placed at (f ∷ fs)) ≡ true → AttributeList (f ++ led 44 fs)
fields_derived at f [] e = subst AttributeList (sym (append-nil f)) (one (attribute_derived f (and_parts (is_attribute f) true e).0))
fields_derived at f (g ∷ gs) e =
    let (first, others) = and_parts (is_attribute f) (are_attributes (placed (at + length f + 1) (g ∷ gs))) e in
    more (attribute_derived f first) (fields_derived (at + length f + 1) g gs others)

-- the fields, with commas between them, are the list
abbrev Rejoined : List ℕ → List (List ℕ) → Type 0
Rejoined list [] = ⊥
Rejoined list (f ∷ fs) = f ++ led 44 fs ≡ list

rejoined_step : (b : ℕ) (bs : List ℕ) (fs : List (List ℕ)) (t : Bool) → (t ≡ true → b ≡ 44) → Rejoined bs fs → Rejoined (b ∷ bs) (onto b t fs)
rejoined_step b bs [] t comma h = absurd h
rejoined_step b bs (f ∷ fs) true comma h = ap (λ (l : List ℕ). 44 ∷ l) h ∙ ap (λ (x : ℕ). x ∷ bs) (sym (comma refl))
rejoined_step b bs (f ∷ fs) false comma h = ap (λ (l : List ℕ). b ∷ l) h

rejoined : (q : Bool) (list : List ℕ) → Rejoined list (fields q list)
rejoined q [] = refl
rejoined q (b ∷ bs) =
    rejoined_step b bs (fields (now_quoted q b) bs) (parting q b) (λ e. eqb-true b 44 (and_parts (eqb b 44) (not q) e).0) (rejoined (now_quoted q b) bs)

derived_by : (list : List ℕ) (fs : List (List ℕ)) → Rejoined list fs → are_attributes (placed 0 fs) ≡ true → AttributeList list
derived_by list [] h e = absurd h
derived_by list (f ∷ fs) h e = subst AttributeList h (fields_derived 0 f fs e)

pub list_derived : (list : List ℕ) → is_list list ≡ true → AttributeList list
list_derived list e = derived_by list (fields false list) (rejoined false list) e
