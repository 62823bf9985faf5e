-- Texts in which a byte does not stand, and a text cut at the first of it. Assumes nothing.
use Rattle.std.proofs.Common.{◌≡◌, ℕ, suc, ◌+◌, ◌<◌, Bool, true, false, cond, eqb, List, [], ◌∷◌, ◌++◌, length, get_or, take, drop, Some, None, Option, sym, refl, ap, ◌∙◌, ⊎_elim, arith, zero}
use Rattle.std.proofs.lemmas.List.{take_all, take_at, take-append-drop, drop_all, drop_at, drop-drop, drop_more, length-append}
use Rattle.std.proofs.lemmas.Bool.{cond-true, cond-false, eq-eqb, eqb-true, le-ltb, lt-ltb, ltb-true, ltb-false, cases_Bool}
use Rattle.uri.specs.Cuts.{place, before, behind, holds, marked}

-- the byte b does not stand in the text
pub data Free (b : ℕ) : List ℕ → Type 0 where
  none : Free b []
  more : {x : ℕ} {xs : List ℕ} → eqb x b ≡ false → Free b xs → Free b (x ∷ xs)

pub place_free : {b : ℕ} {xs : List ℕ} → Free b xs → place b xs ≡ length xs
place_free none = refl
place_free {b} (more {x} {xs} e f) = cond-false (eqb x b) 0 (suc (place b xs)) e ∙ ap suc (place_free f)

step_free : (b x : ℕ) (xs : List ℕ) (t : Bool) → eqb x b ≡ t → Free b (before b xs) → Free b (take (cond t 0 (suc (place b xs))) (x ∷ xs))
step_free b x xs true e f = none
step_free b x xs false e f = more e f

pub before_free : (b : ℕ) (text : List ℕ) → Free b (before b text)
before_free b [] = none
before_free b (x ∷ xs) = step_free b x xs (eqb x b) refl (before_free b xs)

pub before_of_free : {b : ℕ} {xs : List ℕ} → Free b xs → before b xs ≡ xs
before_of_free {b} {xs} f = let e : place b xs ≡ length xs = place_free f in take_all (place b xs) xs (omega arith)

pub behind_of_free : {b : ℕ} {xs : List ℕ} → Free b xs → behind b xs ≡ None
behind_of_free {b} {xs} f =
    let e : place b xs ≡ length xs = place_free f in
    cond-false (holds b xs) (Some (drop (place b xs + 1) xs)) None (le-ltb (place b xs) (length xs) (omega arith))

pub free_join : {b : ℕ} {xs ys : List ℕ} → Free b xs → Free b ys → Free b (xs ++ ys)
free_join none g = g
free_join (more e f) g = more e (free_join f g)

pub place-marked : {b : ℕ} {xs : List ℕ} → Free b xs → (part : Option (List ℕ)) → place b (xs ++ marked b part) ≡ length xs
place-marked none None = refl
place-marked {b} none (Some rest) = cond-true (eqb b b) 0 (suc (place b rest)) (eq-eqb b b refl)
place-marked {b} (more {x} {xs} e f) part = cond-false (eqb x b) 0 (suc (place b (xs ++ marked b part))) e ∙ ap suc (place-marked f part)

-- a text in front of the first b, and the part behind that
pub before-marked : {b : ℕ} {xs : List ℕ} → Free b xs → (part : Option (List ℕ)) → before b (xs ++ marked b part) ≡ xs
before-marked {b} {xs} f part = take_at xs (marked b part) (place b (xs ++ marked b part)) (sym (place-marked f part))

pub from_marked : {b : ℕ} {xs : List ℕ} → Free b xs → (part : Option (List ℕ)) → drop (place b (xs ++ marked b part)) (xs ++ marked b part) ≡ marked b part
from_marked {b} {xs} f part = drop_at xs (marked b part) (place b (xs ++ marked b part)) (sym (place-marked f part))

pub holds-marked : {b : ℕ} {xs : List ℕ} → Free b xs → (rest : List ℕ) → holds b (xs ++ b ∷ rest) ≡ true
holds-marked {b} {xs} f rest =
    let e : place b (xs ++ b ∷ rest) ≡ length xs = place-marked f (Some rest) in
    lt-ltb (place b (xs ++ b ∷ rest)) (length (xs ++ b ∷ rest)) (omega (arith, length-append xs (b ∷ rest)))

pub rest_marked : {b : ℕ} {xs : List ℕ} → Free b xs → (rest : List ℕ) → drop (place b (xs ++ b ∷ rest) + 1) (xs ++ b ∷ rest) ≡ rest
rest_marked {b} {xs} f rest = sym (drop-drop 1 (place b (xs ++ b ∷ rest)) (xs ++ b ∷ rest)) ∙ ap (drop 1) (from_marked f (Some rest))

pub behind-marked : {b : ℕ} {xs : List ℕ} → Free b xs → (part : Option (List ℕ)) → behind b (xs ++ marked b part) ≡ part
behind-marked {b} {xs} f None =
    let e : place b (xs ++ []) ≡ length xs = place-marked f None in
    cond-false (holds b (xs ++ [])) (Some (drop (place b (xs ++ []) + 1) (xs ++ []))) None
    (le-ltb (place b (xs ++ [])) (length (xs ++ [])) (omega (arith, length-append xs [])))
behind-marked {b} {xs} f (Some rest) =
    cond-true (holds b (xs ++ b ∷ rest)) (Some (drop (place b (xs ++ b ∷ rest) + 1) (xs ++ b ∷ rest))) None (holds-marked f rest)
    ∙ ap Some (rest_marked f rest)

step_reads : (b x : ℕ) (xs : List ℕ) (t : Bool) → eqb x b ≡ t → (place b xs < length xs → get_or xs (place b xs) 0 ≡ b) → cond t 0 (suc (place b xs)) < suc (length xs) → get_or (x ∷ xs) (cond t 0 (suc (place b xs))) 0 ≡ b
step_reads b x xs true e later h = eqb-true x b e
step_reads b x xs false e later h = later (omega arith)

-- at the place of the first b stands b
place_reads : (b : ℕ) (text : List ℕ) → place b text < length text → get_or text (place b text) 0 ≡ b
place_reads b [] h = absurd (omega arith)
place_reads b (x ∷ xs) h = step_reads b x xs (eqb x b) refl (λ k. place_reads b xs k) h

pub from_place : (b : ℕ) (text : List ℕ) → holds b text ≡ true → drop (place b text) text ≡ b ∷ drop (place b text + 1) text
from_place b text e =
    let h : place b text < length text = ltb-true (place b text) (length text) e in
    drop_more text (place b text) 0 h ∙ ap (λ (x : ℕ). x ∷ drop (place b text + 1) text) (place_reads b text h)

-- every text is what stands before the first b and the part from there on
pub from_is : (b : ℕ) (text : List ℕ) → drop (place b text) text ≡ marked b (behind b text)
from_is b text = ⊎_elim
    (λ e. from_place b text e ∙ ap (marked b) (sym (cond-true (holds b text) (Some (drop (place b text + 1) text)) None e)))
    (λ e. drop_all (place b text) text (ltb-false (place b text) (length text) e) ∙ ap (marked b) (sym (cond-false (holds b text) (Some (drop (place b text + 1) text)) None e)))
    (cases_Bool (holds b text))

pub text_is : (b : ℕ) (text : List ℕ) → text ≡ before b text ++ marked b (behind b text)
text_is b text = sym (take-append-drop (place b text) text) ∙ ap (λ (xs : List ℕ). before b text ++ xs) (from_is b text)

-- a front and a back of a text
pub free_take : {b : ℕ} {xs : List ℕ} (n : ℕ) → Free b xs → Free b (take n xs)
free_take zero f = Free.none
free_take (suc n) Free.none = Free.none
free_take (suc n) (Free.more e f) = Free.more e (free_take n f)

pub free_drop : {b : ℕ} {xs : List ℕ} (n : ℕ) → Free b xs → Free b (drop n xs)
free_drop zero f = f
free_drop (suc n) Free.none = Free.none
free_drop (suc n) (Free.more e f) = free_drop n f
