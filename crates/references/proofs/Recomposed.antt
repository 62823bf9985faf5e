-- The parts of a text make the text again, and the text of parts has their path. Assumes nothing.
use Rattle.std.proofs.Common.{◌≡◌, ℕ, ◌+◌, ◌<◌, Bool, true, false, cond, not, ◌&&◌, eqb, ltb, List, [], ◌∷◌, ◌++◌, length, drop, Some, None, Option, sym, refl, ap, ◌∙◌, subst, append_assoc, arith, take-append-drop, length-take}
use Rattle.std.proofs.lemmas.List.{take_all}
use Rattle.std.proofs.lemmas.Bool.{cond-true, and_from, and_parts, not-true, not_from_false, eqb-true, lt-ltb, le-ltb, ltb-true, ltb-false, false≢true}
use Rattle.uri.specs.Cuts.{place, before, holds, marked}
use Rattle.uri.specs.Splits.{Split, split, without_fragment, without_query, query, fragment, has_scheme, scheme, behind_scheme, slashes, authority, path}
use Rattle.uri.proofs.Free.{Free, place_free, before_free, free_join, place-marked, before-marked, from_marked, holds-marked, rest_marked, from_place, text_is, free_take, free_drop}
use Rattle.references.specs.Paths.{Absolute}
use Rattle.references.specs.Resolution.{is_there, scheme_text, authority_text, recomposed}
use Rattle.references.proofs.Pieces.{Rooted, split_rooted}

-- a scheme and what stands behind its colon
module _ (text : List ℕ) where
  scheme-whole : (t : Bool) → has_scheme text ≡ t → scheme_text (cond t (Some (before 58 text)) None) ++ cond t (drop (place 58 text + 1) text) text ≡ text
  scheme-whole true e =
      append_assoc (before 58 text) (58 ∷ []) (drop (place 58 text + 1) text)
      ∙ ap (λ (xs : List ℕ). before 58 text ++ xs) (sym (from_place 58 text (and_parts (holds 58 text) (ltb 0 (place 58 text) && not (holds 47 (before 58 text))) e).0))
      ∙ take-append-drop (place 58 text) text
  scheme-whole false e = refl

  pub scheme_back : scheme_text (scheme text) ++ behind_scheme text ≡ text
  scheme_back = scheme-whole (has_scheme text) refl

two-slashes : (text : List ℕ) → slashes text ≡ true → 47 ∷ 47 ∷ drop 2 text ≡ text
two-slashes [] e = absurd (false≢true e)
two-slashes (x ∷ []) e = absurd (false≢true e)
two-slashes (x ∷ y ∷ rest) e =
    let (p, q) = and_parts (eqb x 47) (eqb y 47) e in
    ap (λ (b : ℕ). b ∷ 47 ∷ rest) (sym (eqb-true x 47 p)) ∙ ap (λ (b : ℕ). x ∷ b ∷ rest) (sym (eqb-true y 47 q))

-- an authority and the path behind it
module _ (text : List ℕ) where
  owner_whole : (t : Bool) → slashes text ≡ t → authority_text (cond t (Some (before 47 (drop 2 text))) None) ++ cond t (drop (place 47 (drop 2 text)) (drop 2 text)) text ≡ text
  owner_whole true e = ap (λ (xs : List ℕ). 47 ∷ 47 ∷ xs) (take-append-drop (place 47 (drop 2 text)) (drop 2 text)) ∙ two-slashes text e
  owner_whole false e = refl

  pub owner_back : authority_text (authority text) ++ path text ≡ text
  owner_back = owner_whole (slashes text) refl

grouped : (s a p q f : List ℕ) → s ++ (a ++ (p ++ (q ++ f))) ≡ ((s ++ (a ++ p)) ++ q) ++ f
grouped s a p q f = simp append_assoc

pub recomposed-split : (text : List ℕ) → recomposed (split text) ≡ text
recomposed-split text =
    let front = without_query text in
    let rest = behind_scheme front in
    grouped (scheme_text (scheme front)) (authority_text (authority rest)) (path rest) (marked 63 (query text)) (marked 35 (fragment text))
    ∙ ap (λ (xs : List ℕ). ((scheme_text (scheme front) ++ xs) ++ marked 63 (query text)) ++ marked 35 (fragment text)) (owner_back rest)
    ∙ ap (λ (xs : List ℕ). (xs ++ marked 63 (query text)) ++ marked 35 (fragment text)) (scheme_back front)
    ∙ ap (λ (xs : List ℕ). xs ++ marked 35 (fragment text)) (sym (text_is 63 (without_fragment text)))
    ∙ sym (text_is 35 text)

-- what stands in none of the parts: the marks that the text is cut at
abbrev pub SchemeFree : Option (List ℕ) → Type 0
SchemeFree None = Unit {0}
SchemeFree (Some s) = (0 < length s) × Free 58 s × Free 47 s × Free 63 s × Free 35 s

abbrev pub OwnerFree : Option (List ℕ) → Type 0
OwnerFree None = Unit {0}
OwnerFree (Some a) = Free 47 a × Free 63 a × Free 35 a

abbrev pub QueryFree : Option (List ℕ) → Type 0
QueryFree None = Unit {0}
QueryFree (Some q) = Free 35 q

pub record Tidy (p : Split) : Type 0 where
  pub scheme : SchemeFree p.scheme
  pub authority : OwnerFree p.authority
  pub rooted : Rooted p
  pub asks : Free 63 p.path
  pub tails : Free 35 p.path
  pub query : QueryFree p.query

pub holds_free : (b : ℕ) (text : List ℕ) → holds b text ≡ false → Free b text
holds_free b text e = subst (Free b) (take_all (place b text) text (ltb-false (place b text) (length text) e)) (before_free b text)

module _ (text : List ℕ) (asks : Free 63 text) (tails : Free 35 text) where
  scheme_tidy : (t : Bool) → has_scheme text ≡ t → SchemeFree (cond t (Some (before 58 text)) None)
  scheme_tidy true e =
      let (colon, more) = and_parts (holds 58 text) (ltb 0 (place 58 text) && not (holds 47 (before 58 text))) e in
      let (some, none) = and_parts (ltb 0 (place 58 text)) (not (holds 47 (before 58 text))) more in (
        omega (arith, length-take (place 58 text) text, ltb-true 0 (place 58 text) some, ltb-true (place 58 text) (length text) colon),
        before_free 58 text,
        holds_free 47 (before 58 text) (not-true (holds 47 (before 58 text)) none),
        free_take (place 58 text) asks,
        free_take (place 58 text) tails,
      )
  scheme_tidy false e = tt

  rest_free : (b : ℕ) → eqb 47 b ≡ false → Free b text → (t : Bool) → Free b (cond t (drop (place 58 text + 1) text) text)
  rest_free b off f true = free_drop (place 58 text + 1) f
  rest_free b off f false = f

  owner_tidy : (t : Bool) → OwnerFree (cond t (Some (before 47 (drop 2 text))) None)
  owner_tidy true = (before_free 47 (drop 2 text), free_take (place 47 (drop 2 text)) (free_drop 2 asks), free_take (place 47 (drop 2 text)) (free_drop 2 tails))
  owner_tidy false = tt

  path_free : (b : ℕ) → eqb 47 b ≡ false → Free b text → (t : Bool) → Free b (cond t (drop (place 47 (drop 2 text)) (drop 2 text)) text)
  path_free b off f true = free_drop (place 47 (drop 2 text)) (free_drop 2 f)
  path_free b off f false = f

query_tidy : (t : Bool) (n : ℕ) (text : List ℕ) → Free 35 text → QueryFree (cond t (Some (drop n text)) None)
query_tidy true n text f = free_drop n f
query_tidy false n text f = tt

module _ (text : List ℕ) where
  whole_tails : Free 35 (without_fragment text)
  whole_tails = before_free 35 text

  front_asks : Free 63 (without_query text)
  front_asks = before_free 63 (without_fragment text)

  front_tails : Free 35 (without_query text)
  front_tails = free_take (place 63 (without_fragment text)) whole_tails

  rest_asks : Free 63 (behind_scheme (without_query text))
  rest_asks = rest_free (without_query text) front_asks front_tails 63 refl front_asks (has_scheme (without_query text))

  rest_tails : Free 35 (behind_scheme (without_query text))
  rest_tails = rest_free (without_query text) front_asks front_tails 35 refl front_tails (has_scheme (without_query text))

  pub split_tidy : Tidy (split text)
  split_tidy =
      record {
        scheme = scheme_tidy (without_query text) front_asks front_tails (has_scheme (without_query text)) refl;
        authority = owner_tidy (behind_scheme (without_query text)) rest_asks rest_tails (slashes (behind_scheme (without_query text)));
        rooted = split_rooted text;
        asks = path_free (behind_scheme (without_query text)) rest_asks rest_tails 63 refl rest_asks (slashes (behind_scheme (without_query text)));
        tails = path_free (behind_scheme (without_query text)) rest_asks rest_tails 35 refl rest_tails (slashes (behind_scheme (without_query text)));
        query = query_tidy (holds 63 (without_fragment text)) (place 63 (without_fragment text) + 1) (without_fragment text) whole_tails;
      }

-- a scheme in front of a colon is found again
module _ (s rest : List ℕ) (free : SchemeFree (Some s)) where
  scheme_has : has_scheme (s ++ 58 ∷ rest) ≡ true
  scheme_has =
      let at : place 58 (s ++ 58 ∷ rest) ≡ length s = place-marked free.1 (Some rest) in
      let none : place 47 s ≡ length s = place_free free.2 in
      and_from (holds 58 (s ++ 58 ∷ rest)) (ltb 0 (place 58 (s ++ 58 ∷ rest)) && not (holds 47 (before 58 (s ++ 58 ∷ rest)))) (holds-marked free.1 rest)
      (and_from (ltb 0 (place 58 (s ++ 58 ∷ rest))) (not (holds 47 (before 58 (s ++ 58 ∷ rest)))) (lt-ltb 0 (place 58 (s ++ 58 ∷ rest)) (omega (arith, free.0)))
      (not_from_false (holds 47 (before 58 (s ++ 58 ∷ rest))) (ap (holds 47) (before-marked free.1 (Some rest)) ∙ le-ltb (place 47 s) (length s) (omega arith))))

  scheme_rest : behind_scheme (s ++ 58 ∷ rest) ≡ rest
  scheme_rest = cond-true (has_scheme (s ++ 58 ∷ rest)) (drop (place 58 (s ++ 58 ∷ rest) + 1) (s ++ 58 ∷ rest)) (s ++ 58 ∷ rest) scheme_has ∙ rest_marked free.1 rest

pub marked_from : (p : List ℕ) → Absolute p → (o : Option (List ℕ)) × (p ≡ marked 47 o)
marked_from [] a = (None, refl)
marked_from (x ∷ xs) a = (Some xs, ap (λ (y : ℕ). y ∷ xs) (eqb-true x 47 a))

query-marked : (o : Option (List ℕ)) → QueryFree o → Free 35 (marked 63 o)
query-marked None f = Free.none
query-marked (Some q) f = Free.more refl f

-- the path of a text that is put together from a scheme, an authority, a path, a query and a fragment
module _ (s a p : List ℕ) (ask tail : Option (List ℕ)) (sf : SchemeFree (Some s)) (af : OwnerFree (Some a)) (absolute : Absolute p) (asks : Free 63 p) (tails : Free 35 p) (qf : QueryFree ask) where
  abbrev rest : List ℕ
  rest = 47 ∷ 47 ∷ (a ++ p)

  abbrev front : List ℕ
  front = s ++ 58 ∷ rest

  abbrev all : List ℕ
  all = (front ++ marked 63 ask) ++ marked 35 tail

  front_free : (b : ℕ) → eqb 58 b ≡ false → eqb 47 b ≡ false → Free b s → Free b a → Free b p → Free b front
  front_free b colon slash f g h = free_join f (Free.more colon (Free.more slash (Free.more slash (free_join g h))))

  front_is : without_query all ≡ front
  front_is =
      ap (before 63) (before-marked (free_join (front_free 35 refl refl sf.4 af.2 tails) (query-marked ask qf)) tail)
      ∙ before-marked (front_free 63 refl refl sf.3 af.1 asks) ask

  behind_owner : drop (place 47 (a ++ p)) (a ++ p) ≡ p
  behind_owner =
      let (o, is) = marked_from p absolute in
      subst (λ (q : List ℕ). drop (place 47 (a ++ q)) (a ++ q) ≡ q) (sym is) (from_marked af.0 o)

  path_is : path (behind_scheme (without_query all)) ≡ p
  path_is = ap (λ (xs : List ℕ). path (behind_scheme xs)) front_is ∙ ap path (scheme_rest s rest sf) ∙ behind_owner

  regrouped : (s ++ 58 ∷ []) ++ ((47 ∷ 47 ∷ a) ++ (p ++ (marked 63 ask ++ marked 35 tail))) ≡ all
  regrouped = simp append_assoc

  path-found : (split ((s ++ 58 ∷ []) ++ ((47 ∷ 47 ∷ a) ++ (p ++ (marked 63 ask ++ marked 35 tail))))).path ≡ p
  path-found = ap (λ (xs : List ℕ). (split xs).path) regrouped ∙ path_is

path_at :
    (sc au : Option (List ℕ)) (p : List ℕ) (ask tail : Option (List ℕ)) → SchemeFree sc → OwnerFree au → (is_there au ≡ true → Absolute p) → Free 63 p → Free 35 p → QueryFree ask → is_there sc ≡ true → is_there au ≡ true
    → (split (scheme_text sc ++ (authority_text au ++ (p ++ (marked 63 ask ++ marked 35 tail))))).path ≡ p
path_at None au p ask tail sf af a f g qf e h = absurd (false≢true e)
path_at (Some s) None p ask tail sf af a f g qf e h = absurd (false≢true h)
path_at (Some s) (Some o) p ask tail sf af a f g qf e h = path-found s o p ask tail sf af (a refl) f g qf

pub path_back : (p : Split) → Tidy p → is_there p.scheme ≡ true → is_there p.authority ≡ true → (split (recomposed p)).path ≡ p.path
path_back p t e h = path_at p.scheme p.authority p.path p.query p.fragment t.scheme t.authority t.rooted t.asks t.tails t.query e h
