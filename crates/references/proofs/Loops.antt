-- The loop of RFC 3986 gives a path without its dot segments, and nothing else. Assumes nothing.
use Rattle.std.proofs.Common.{◌≡◌, ℕ, Bool, true, false, cond, eqb, List, [], ◌∷◌, ◌++◌, length, codes, sym, refl, ap, ◌∙◌, subst, arith}
use Rattle.std.proofs.lemmas.Slice.Eq.{bytes_eq-Decides}
use Rattle.std.proofs.lemmas.Bool.{le-ltb, both_ways, false≢true}
use Rattle.std.specs.List.{AllByRecursion}
use Rattle.std.specs.Str.{bytes_eq}
use Rattle.uri.specs.Cuts.{place, parts, led, joined_by}
use Rattle.uri.proofs.Free.{Free, place_free}
use Rattle.uri.proofs.Pieces.{parts-marked, parts_are}
use Rattle.references.specs.declared.segment.Segment.{Segment}
use Rattle.references.specs.declared.segment.Segment.TheVariants.{Here, Above, Plain}
use Rattle.references.specs.Loops.{Slashless, Loop, Looped}
use Rattle.references.specs.Paths.{parent, segment_of, ending, moved, walked, opening, without_dots, Absolute}
use Rattle.references.specs.Views.{ahead}
use Rattle.references.proofs.Named.{named_from, plain_from, parts_free, joined_parts}
use Rattle.references.proofs.Recomposed.{holds_free, marked_from}
use Rattle.references.proofs.Walks.{ahead-marked, walked-first}

free_from : (s : List ℕ) → Slashless s → Free 47 s
free_from s e = holds_free 47 s (le-ltb (place 47 s) (length s) (omega arith))

-- a segment in front of a path that is empty or begins with `/`
front_parts : (s rest : List ℕ) → Slashless s → Absolute rest → parts 47 (s ++ rest) ≡ s ∷ ahead rest
front_parts s rest f a =
    let (o, is) = marked_from rest a in
    ap (λ (xs : List ℕ). parts 47 (s ++ xs)) is ∙ parts-marked (free_from s f) o ∙ ap (λ (ps : List (List ℕ)). s ∷ ps) (sym (ap ahead is ∙ ahead-marked o))

-- behind a dot segment that is not the last one nothing is added
ending-parts : (out rest : List ℕ) → ending out (parts 47 rest) ≡ out
ending-parts out rest = ap (ending out) (parts_are 47 rest)

-- what the loop gives for a path that is empty or begins with `/`
given_rooted : {input out result : List ℕ} → Loop input out result → Absolute input → result ≡ walked out (ahead input)
given_rooted Loop.returned a = refl
given_rooted (Loop.front_above l) a = absurd (false≢true a)
given_rooted (Loop.front_here l) a = absurd (false≢true a)
given_rooted (Loop.here {rest} {out} l) a = given_rooted l refl ∙ ap (λ (xs : List ℕ). walked xs (parts 47 rest)) (sym (ending-parts out rest))
given_rooted (Loop.here_last l) a = given_rooted l refl
given_rooted (Loop.above {rest} {out} l) a = given_rooted l refl ∙ ap (λ (xs : List ℕ). walked xs (parts 47 rest)) (sym (ending-parts (parent out) rest))
given_rooted (Loop.above_last l) a = given_rooted l refl
given_rooted (Loop.only_here l) a = absurd (false≢true a)
given_rooted (Loop.only_above l) a = absurd (false≢true a)
given_rooted (Loop.move {s} {rest} {out} f n b l) a =
    given_rooted l b
    ∙ ap (λ (kind : Segment). walked (moved kind out s (ahead rest)) (ahead rest)) (sym (plain_from s n))
    ∙ ap (walked out) (sym (front_parts s rest f b))
given_rooted (Loop.move_first {x} {s} f n b l) a = elim (free_from (x ∷ s) f) [ Free.more off g ↦ absurd (both_ways (eqb x 47) off a) ]

by_walk : {input out result : List ℕ} → Loop input out result → Absolute input → out ≡ [] → result ≡ without_dots input
by_walk {input} l a e = given_rooted l a ∙ ap (λ (xs : List ℕ). walked xs (ahead input)) e ∙ walked-first input a

-- what it gives for any path
given : {input out result : List ℕ} → Loop input out result → out ≡ [] → result ≡ without_dots input
given Loop.returned e = e
given (Loop.front_above l) e = given l e
given (Loop.front_here l) e = given l e
given (Loop.here l) e = by_walk (Loop.here l) refl e
given (Loop.here_last l) e = by_walk (Loop.here_last l) refl e
given (Loop.above l) e = by_walk (Loop.above l) refl e
given (Loop.above_last l) e = by_walk (Loop.above_last l) refl e
given (Loop.only_here l) e = given l e
given (Loop.only_above l) e = given l e
given (Loop.move f n b l) e = by_walk (Loop.move f n b l) refl e
given (Loop.move_first {x} {s} {rest} {out} f n b l) e =
    given_rooted l b
    ∙ ap (λ (xs : List ℕ). walked (xs ++ x ∷ s) (ahead rest)) e
    ∙ ap begun (sym (plain_from (x ∷ s) n))
    ∙ ap opening (sym (front_parts (x ∷ s) rest f b))
  where
    begun : Segment → List ℕ
    begun kind = elim kind [ Here ↦ opening (ahead rest) | Above ↦ opening (ahead rest) | Plain ↦ walked (x ∷ s) (ahead rest) ]

-- the texts of the dot segments
module _ (s : List ℕ) where
  here-text : (t u : Bool) → bytes_eq s (codes ".") ≡ t → cond t Here (cond u Above Plain) ≡ Here → s ≡ codes "."
  here-text true u e f = (bytes_eq-Decides s (codes ".")).0 e
  here-text false true e f = cc
  here-text false false e f = cc

  above-text : (t u : Bool) → bytes_eq s (codes "..") ≡ u → cond t Here (cond u Above Plain) ≡ Above → s ≡ codes ".."
  above-text true u e f = cc
  above-text false true e f = (bytes_eq-Decides s (codes "..")).0 e
  above-text false false e f = cc

  here_is : segment_of s ≡ Here → s ≡ codes "."
  here_is = here-text (bytes_eq s (codes ".")) (bytes_eq s (codes "..")) refl

  above_is : segment_of s ≡ Above → s ≡ codes ".."
  above_is = above-text (bytes_eq s (codes ".")) (bytes_eq s (codes "..")) refl

led_absolute : (ss : List (List ℕ)) → Absolute (led 47 ss)
led_absolute [] = tt
led_absolute (s ∷ ss) = refl

root_loop : (out : List ℕ) → Loop (codes "/") out (out ++ 47 ∷ [])
root_loop out = Loop.move refl (named_from [] refl) tt Loop.returned

-- the loop takes a segment with its `/`; the segments behind it are done
abbrev Later : List (List ℕ) → Type 0
Later ss = (out : List ℕ) → Loop (led 47 ss) out (walked out ss)

loop_here : (ss : List (List ℕ)) (out : List ℕ) → Later ss → Loop (47 ∷ 46 ∷ led 47 ss) out (walked (ending out ss) ss)
loop_here [] out later = Loop.here_last (root_loop out)
loop_here (s ∷ ss) out later = Loop.here (later out)

loop_above : (ss : List (List ℕ)) (out : List ℕ) → Later ss → Loop (47 ∷ 46 ∷ 46 ∷ led 47 ss) out (walked (ending (parent out) ss) ss)
loop_above [] out later = Loop.above_last (root_loop (parent out))
loop_above (s ∷ ss) out later = Loop.above (later (parent out))

loop_step : (s : List ℕ) (ss : List (List ℕ)) (kind : Segment) → segment_of s ≡ kind → Free 47 s → (out : List ℕ) → Later ss → Loop (47 ∷ (s ++ led 47 ss)) out (walked (moved kind out s ss) ss)
loop_step s ss Here e f out later = subst (λ (p : List ℕ). Loop (47 ∷ (p ++ led 47 ss)) out (walked (ending out ss) ss)) (sym (here_is s e)) (loop_here ss out later)
loop_step s ss Above e f out later = subst (λ (p : List ℕ). Loop (47 ∷ (p ++ led 47 ss)) out (walked (ending (parent out) ss) ss)) (sym (above_is s e)) (loop_above ss out later)
loop_step s ss Plain e f out later = Loop.move (place_free f) (named_from s e) (led_absolute ss) (later (out ++ 47 ∷ s))

loop_led : (ss : List (List ℕ)) → AllByRecursion (Free 47) ss → Later ss
loop_led [] h out = Loop.returned
loop_led (s ∷ ss) h out = loop_step s ss (segment_of s) refl h.0 out (loop_led ss h.1)

-- the loop takes the first segment, which has no `/` before it
abbrev First : List (List ℕ) → Type 0
First ss = Loop (joined_by 47 ss) [] (opening ss)

front_here : (ss : List (List ℕ)) → First ss → Loop (46 ∷ led 47 ss) [] (opening ss)
front_here [] first = Loop.only_here Loop.returned
front_here (s ∷ ss) first = Loop.front_here first

front_above : (ss : List (List ℕ)) → First ss → Loop (46 ∷ 46 ∷ led 47 ss) [] (opening ss)
front_above [] first = Loop.only_above Loop.returned
front_above (s ∷ ss) first = Loop.front_above first

front_plain : (s : List ℕ) (ss : List (List ℕ)) → segment_of s ≡ Plain → Free 47 s → Later ss → Loop (s ++ led 47 ss) [] (walked s ss)
front_plain [] ss e f later = later []
front_plain (x ∷ s) ss e f later = Loop.move_first (place_free f) (named_from (x ∷ s) e) (led_absolute ss) (later (x ∷ s))

front_step : (s : List ℕ) (ss : List (List ℕ)) (kind : Segment) → segment_of s ≡ kind → Free 47 s → Later ss → First ss → Loop (s ++ led 47 ss) [] (elim kind [ Here ↦ opening ss | Above ↦ opening ss | Plain ↦ walked s ss ])
front_step s ss Here e f later first = subst (λ (p : List ℕ). Loop (p ++ led 47 ss) [] (opening ss)) (sym (here_is s e)) (front_here ss first)
front_step s ss Above e f later first = subst (λ (p : List ℕ). Loop (p ++ led 47 ss) [] (opening ss)) (sym (above_is s e)) (front_above ss first)
front_step s ss Plain e f later first = front_plain s ss e f later

loop_joined : (ss : List (List ℕ)) → AllByRecursion (Free 47) ss → First ss
loop_joined [] h = Loop.returned
loop_joined (s ∷ ss) h = front_step s ss (segment_of s) refl h.0 (loop_led ss h.1) (loop_joined ss h.1)

pub looped : Looped
looped path = (
  subst (λ (input : List ℕ). Loop input [] (without_dots path)) (joined_parts 47 path) (loop_joined (parts 47 path) (parts_free 47 path)),
  λ result l. given l refl,
)
