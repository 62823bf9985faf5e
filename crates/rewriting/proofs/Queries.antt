-- The query of a text in which a parameter is set. Assumes nothing.
use Rattle.std.proofs.Common.{◌≡◌, ℕ, ◌+◌, ◌<◌, Bool, true, false, eqb, List, [], ◌∷◌, ◌++◌, length, drop, Some, None, Option, refl, ap, ◌∙◌, subst, arith}
use Rattle.std.proofs.lemmas.List.{length-append, take_all}
use Rattle.std.proofs.lemmas.Bool.{cond_both, ltb-false}
use Rattle.std.specs.List.{AllByRecursion}
use Rattle.uri.specs.Cuts.{place, before, behind, holds, onto, parts, led, joined_by}
use Rattle.uri.specs.Splits.{without_fragment, without_query, query, fragment}
use Rattle.uri.proofs.Free.{Free, before_free, free_join, before-marked, behind-marked, free_take, free_drop}
use Rattle.uri.proofs.Pieces.{parts-marked}
use Rattle.rewriting.specs.Parameters.{pieces, named, assigned, others, set_in, set_to}

-- what holds of each part, and of the one that is set
module _ (P : List ℕ → Type 0) (name value : List ℕ) where
  others_all : (ps : List (List ℕ)) → AllByRecursion P ps → AllByRecursion P (others name ps)
  others_all [] h = tt
  others_all (p ∷ ps) h =
      elim (named name p) as (λ t. AllByRecursion P (elim t [ true ↦ others name ps | false ↦ p ∷ others name ps ])) [ true ↦ others_all ps h.1 | false ↦ (h.0, others_all ps h.1) ]

  pub set_all : (ps : List (List ℕ)) → P (assigned name value) → AllByRecursion P ps → AllByRecursion P (set_in name value ps)
  set_all [] own h = (own, tt)
  set_all (p ∷ ps) own h =
      elim (named name p) as (λ t. AllByRecursion P (elim t [ true ↦ assigned name value ∷ others name ps | false ↦ p ∷ set_in name value ps ]))
      [ true ↦ (own, others_all ps h.1) | false ↦ (h.0, set_all ps own h.1) ]

-- bytes that a text does not hold
pub free_from : (b : ℕ) (text : List ℕ) → holds b text ≡ false → Free b text
free_from b text e = subst (Free b) (take_all (place b text) text (ltb-false (place b text) (length text) e)) (before_free b text)

-- the parts hold neither the byte at which they are cut nor one that the text does not hold
onto_free : (c x : ℕ) (t : Bool) (ps : List (List ℕ)) → (t ≡ false → eqb x c ≡ false) → AllByRecursion (Free c) ps → AllByRecursion (Free c) (onto x t ps)
onto_free c x true ps off hs = (Free.none, hs)
onto_free c x false [] off hs = (Free.more (off refl) Free.none, tt)
onto_free c x false (p ∷ ps) off hs = (Free.more (off refl) hs.0, hs.1)

parts_cut : (b : ℕ) (text : List ℕ) → AllByRecursion (Free b) (parts b text)
parts_cut b [] = (Free.none, tt)
parts_cut b (x ∷ xs) = onto_free b x (eqb x b) (parts b xs) (λ e. e) (parts_cut b xs)

parts_free : {c : ℕ} (b : ℕ) {text : List ℕ} → Free c text → AllByRecursion (Free c) (parts b text)
parts_free b Free.none = (Free.none, tt)
parts_free {c} b (Free.more {x} {xs} e f) = onto_free c x (eqb x b) (parts b xs) (λ _. e) (parts_free b f)

pub pieces_cut : (asked : Option (List ℕ)) → AllByRecursion (Free 38) (pieces asked)
pieces_cut None = tt
pieces_cut (Some []) = tt
pieces_cut (Some (x ∷ xs)) = parts_cut 38 (x ∷ xs)

pieces_free : (c : ℕ) (text : List ℕ) → Free c text → AllByRecursion (Free c) (pieces (Some text))
pieces_free c [] f = tt
pieces_free c (x ∷ xs) f = parts_free 38 f

pub query_free : (text : List ℕ) → AllByRecursion (Free 35) (pieces (query text))
query_free text =
    let whole : List ℕ = without_fragment text in
    cond_both (holds 63 whole) (Some (drop (place 63 whole + 1) whole)) None (λ (o : Option (List ℕ)). AllByRecursion (Free 35) (pieces o))
    (λ e. pieces_free 35 (drop (place 63 whole + 1) whole) (free_drop (place 63 whole + 1) (before_free 35 text)))
    (λ e. tt)

-- parts with `&` between them
led_free : {b : ℕ} (ps : List (List ℕ)) → eqb 38 b ≡ false → AllByRecursion (Free b) ps → Free b (led 38 ps)
led_free [] e h = Free.none
led_free (p ∷ ps) e h = Free.more e (free_join h.0 (led_free ps e h.1))

joined_free : {b : ℕ} (ps : List (List ℕ)) → eqb 38 b ≡ false → AllByRecursion (Free b) ps → Free b (joined_by 38 ps)
joined_free [] e h = Free.none
joined_free (p ∷ ps) e h = free_join h.0 (led_free ps e h.1)

parts-led : {p : List ℕ} (ps : List (List ℕ)) → Free 38 p → AllByRecursion (Free 38) ps → parts 38 (p ++ led 38 ps) ≡ p ∷ ps
parts-led [] f h = parts-marked f None
parts-led {p} (q ∷ qs) f h = parts-marked f (Some (q ++ led 38 qs)) ∙ ap (λ (rs : List (List ℕ)). p ∷ rs) (parts-led qs h.0 h.1)

pieces-some : (text : List ℕ) → 0 < length text → pieces (Some text) ≡ parts 38 text
pieces-some [] h = absurd (omega arith)
pieces-some (x ∷ xs) h = refl

pieces_joined : (ps : List (List ℕ)) → AllByRecursion (Free 38) ps → 0 < length (joined_by 38 ps) → pieces (Some (joined_by 38 ps)) ≡ ps
pieces_joined [] h some = absurd (omega arith)
pieces_joined (p ∷ ps) h some = pieces-some (p ++ led 38 ps) some ∙ parts-led ps h.0 h.1

-- the new query is not empty
module _ (name value : List ℕ) where
  own-some : (xs : List ℕ) → 0 < length (assigned name value ++ xs)
  own-some xs = omega (arith, length-append (assigned name value) xs, length-append name (61 ∷ value))

  led-some : (ps : List (List ℕ)) → 0 < length (led 38 (set_in name value ps))
  led-some [] = omega arith
  led-some (p ∷ ps) = grind arith

  joined_some : (ps : List (List ℕ)) → 0 < length (joined_by 38 (set_in name value ps))
  joined_some [] = own-some []
  joined_some (p ∷ ps) = grind (arith, own-some (led 38 (others name ps)), length-append p (led 38 (set_in name value ps)), led-some ps)

-- bytes that the part that is set does not hold
pub record Clear (name value : List ℕ) : Type 0 where
  pub equals : Free 61 name
  pub divider : Free 38 (assigned name value)
  pub hash : Free 35 (assigned name value)

-- the parts of the new text
module _ (name value text : List ℕ) (clear : Clear name value) where
  abbrev pub old : List (List ℕ)
  old = pieces (query text)

  abbrev pub new : List ℕ
  new = joined_by 38 (set_in name value old)

  front_free : Free 35 (without_query text)
  front_free = free_take (place 63 (without_fragment text)) (before_free 35 text)

  most_free : Free 35 (without_query text ++ 63 ∷ new)
  most_free = free_join front_free (Free.more refl (joined_free (set_in name value old) refl (set_all (Free 35) name value old clear.hash (query_free text))))

  most_is : without_fragment (set_to name value text) ≡ without_query text ++ 63 ∷ new
  most_is = before-marked most_free (fragment text)

  pub front_is : without_query (set_to name value text) ≡ without_query text
  front_is = ap (before 63) most_is ∙ before-marked (before_free 63 (without_fragment text)) (Some new)

  pub query_is : query (set_to name value text) ≡ Some new
  query_is = ap (behind 63) most_is ∙ behind-marked (before_free 63 (without_fragment text)) (Some new)

  pub fragment_is : fragment (set_to name value text) ≡ fragment text
  fragment_is = behind-marked most_free (fragment text)

  pub pieces_are : pieces (query (set_to name value text)) ≡ set_in name value old
  pieces_are = ap pieces query_is ∙ pieces_joined (set_in name value old) (set_all (Free 38) name value old clear.divider (pieces_cut (query text))) (joined_some name value old)
