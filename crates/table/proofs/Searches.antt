-- The rules as searches: for the first entry, or the first part, that breaks them. Assumes nothing.
use Rattle.std.proofs.Common.{◌≡◌, ℕ, zero, suc, ◌+◌, Bool, true, false, cond, ◌&&◌, ◌||◌, ltb, leb, List, [], ◌∷◌, ◌++◌, length, take, Some, None, Option, sym, refl, ap, ◌∙◌, append_assoc, arith}
use Rattle.std.specs.Str.{bytes_eq}
use Rattle.std.specs.Option.{option_map}
use Rattle.std.specs.List.{find, list_any, position_from, enumerate_from}
use Rattle.std.proofs.lemmas.List.{take_at, length-append}
use Rattle.std.proofs.lemmas.Bool.Decides.{nat_tests}
use Rattle.table.specs.declared.entry.Entry.{Entry}
use Rattle.table.specs.declared.bodies.parts.Part.{Part}
use Rattle.table.specs.Contents.{spot, body_of, is_id}
use Rattle.table.specs.Offences.{overlong, has_id, repeated}
use Rattle.table.specs.Parts.{with_bodies, shown}

-- a choice of what is there
map_cond : {X Y : Type 0} (f : X → Y) (b : Bool) (x : X) (o : Option X) → option_map f (cond b (Some x) o) ≡ cond b (Some (f x)) (option_map f o)
map_cond f true x o = refl
map_cond f false x o = refl

-- a rule over the entries one by one is a search for the first that breaks it
pub first_spot : (test : Entry → Bool) (rule : ℕ → List Entry → Option ℕ) → ((i : ℕ) → rule i [] ≡ None)
    → ((i : ℕ) (e : Entry) (es : List Entry) → rule i (e ∷ es) ≡ cond (test e) (Some (spot i)) (rule (i + 1) es))
    → (i : ℕ) (es : List Entry) → option_map spot (position_from test i es) ≡ rule i es
first_spot test rule none step i [] = sym (none i)
first_spot test rule none step i (e ∷ es) =
    map_cond spot (test e) i (position_from test (i + 1) es)
    ∙ ap (cond (test e) (Some (spot i))) (first_spot test rule none step (i + 1) es)
    ∙ sym (step i e es)

-- the same of parts, told at the body's place
abbrev pub place_of : Entry × List ℕ → ℕ
place_of p = p.0.place

pub first_place : (file : List ℕ) (test : Entry × List ℕ → Bool) (rule : List Entry → Option ℕ) → rule [] ≡ None
    → ((e : Entry) (es : List Entry) → rule (e ∷ es) ≡ cond (test (e, body_of file e)) (Some e.place) (rule es))
    → (es : List Entry) → option_map place_of (find test (with_bodies file es)) ≡ rule es
first_place file test rule none step [] = sym none
first_place file test rule none step (e ∷ es) =
    map_cond place_of (test (e, body_of file e)) (e, body_of file e) (find test (with_bodies file es))
    ∙ ap (cond (test (e, body_of file e)) (Some e.place)) (first_place file test rule none step es)
    ∙ sym (step e es)

-- what a search for a part tells
pub told_place : (file : List ℕ) (test : Entry × List ℕ → Bool) (rule : List Entry → Option ℕ) → rule [] ≡ None
    → ((e : Entry) (es : List Entry) → rule (e ∷ es) ≡ cond (test (e, body_of file e)) (Some e.place) (rule es))
    → (es : List Entry) (found : Option Part) (told : Option ℕ) → told ≡ option_map (λ (p : Part). p.entry.place) found
    → option_map shown found ≡ find test (with_bodies file es) → told ≡ rule es
told_place file test rule none step es found told t f = t ∙ known found ∙ ap (option_map place_of) f ∙ first_place file test rule none step es
  where
    known : (o : Option Part) → option_map (λ (p : Part). p.entry.place) o ≡ option_map place_of (option_map shown o)
    known None = refl
    known (Some p) = refl

cond_not : {X : Type 0} (a b : ℕ) (x y : X) → cond (leb a b) x y ≡ cond (ltb b a) y x
cond_not a b x y = grind (arith, nat_tests)

-- the first body that passes the end
pub overlong_first : (end i : ℕ) (es : List Entry) → option_map spot (position_from (λ (e : Entry). ltb end (e.place + e.size)) i es) ≡ overlong end i es
overlong_first end i es =
    first_spot (λ (e : Entry). ltb end (e.place + e.size)) (overlong end) (λ i. refl) (λ i e es. cond_not (e.place + e.size) end (overlong end (i + 1) es) (Some (spot i))) i es

-- whether an ID stands among the first entries
pub has_any : (file id : List ℕ) (n : ℕ) (es : List Entry) → list_any (λ (p : Entry × List ℕ). is_id p.0.kind && bytes_eq p.1 id) (take n (with_bodies file es)) ≡ has_id file id (take n es)
has_any file id zero es = refl
has_any file id (suc n) [] = refl
has_any file id (suc n) (e ∷ es) =
    ap (λ (b : Bool). (is_id e.kind && bytes_eq (body_of file e) id) || b) (has_any file id n es)

-- an ID that stands among the entries before it
abbrev pub repeats : List ℕ → List Entry → ℕ × (Entry × List ℕ) → Bool
repeats file all x = is_id x.1.0.kind && has_id file x.1.1 (take x.0 all)

abbrev pub numbered_place : ℕ × (Entry × List ℕ) → ℕ
numbered_place x = x.1.0.place

-- a part that was found, with its number
abbrev pub numbered : ℕ × Part → ℕ × (Entry × List ℕ)
numbered x = (x.0, shown x.1)

pub repeated_first : (file : List ℕ) (all before es : List Entry) → all ≡ before ++ es
    → option_map numbered_place (find (repeats file all) (enumerate_from (length before) (with_bodies file es))) ≡ repeated file before es
repeated_first file all before [] h = refl
repeated_first file all before (e ∷ es) h =
    let front : take (length before) all ≡ before = ap (take (length before)) h ∙ take_at before (e ∷ es) (length before) refl in
    let on : length before + 1 ≡ length (before ++ e ∷ []) = omega (arith, length-append before (e ∷ [])) in
    let more = repeated_first file all (before ++ e ∷ []) es (h ∙ sym (append_assoc before (e ∷ []) es)) in
    map_cond numbered_place (repeats file all (length before, (e, body_of file e))) (length before, (e, body_of file e)) (find (repeats file all) (enumerate_from (length before + 1) (with_bodies file es)))
    ∙ ap (λ (l : List Entry). cond (is_id e.kind && has_id file (body_of file e) l) (Some e.place) (option_map numbered_place (find (repeats file all) (enumerate_from (length before + 1) (with_bodies file es))))) front
    ∙ ap (cond (is_id e.kind && has_id file (body_of file e) before) (Some e.place))
    (ap (λ (n : ℕ). option_map numbered_place (find (repeats file all) (enumerate_from n (with_bodies file es)))) on ∙ more)

pub told_repeat : (file : List ℕ) (es : List Entry) (found : Option (ℕ × Part)) (told : Option ℕ) → told ≡ option_map (λ (x : ℕ × Part). x.1.entry.place) found
    → option_map numbered found ≡ find (repeats file es) (enumerate_from 0 (with_bodies file es)) → told ≡ repeated file [] es
told_repeat file es found told t f = t ∙ known found ∙ ap (option_map numbered_place) f ∙ repeated_first file es [] es refl
  where
    known : (o : Option (ℕ × Part)) → option_map (λ (x : ℕ × Part). x.1.entry.place) o ≡ option_map numbered_place (option_map numbered o)
    known None = refl
    known (Some p) = refl
