-- The grammar derives what is legal. Assumes nothing.
use Rattle.std.proofs.Common.{◌≡◌, ℕ, ◌+◌, Bool, true, false, cond, not, ◌&&◌, eqb, ltb, leb, List, [], ◌∷◌, ◌++◌, length, drop, Some, None, codes, Option, sym, refl, ap, ◌∙◌, subst, inl, inr, append_assoc}
use Rattle.std.proofs.lemmas.List.{take-append-drop}
use Rattle.std.proofs.lemmas.Bool.{false≢true, leb-true, eqb-true, cond-true, and_parts}
use Rattle.uri.specs.Cuts.{place, before, behind, holds, marked}
use Rattle.uri.specs.Splits.{without_fragment, fragment, without_query, query, has_scheme, scheme, behind_scheme, slashes, authority, path, split}
use Rattle.uri.specs.Legal.{is_scheme, is_host, is_port, is_authority, path_byte, query_byte, is_path, is_query, if_present, present, legal_parts, legal}
use Rattle.uri.specs.Grammar.{Run, Path, Optional, Uri}
use Rattle.uri.proofs.Free.{from_place, from_is, text_is}
use Rattle.uri.proofs.Runs.{run_from_escaped, path_from_run}

-- a part that passes if it is present
optional : (mark : ℕ) (test : List ℕ → Bool) (P : List ℕ → Type 0) → ((text : List ℕ) → test text ≡ true → P text) → (part : Option (List ℕ)) → if_present test part ≡ true → Optional mark P (marked mark part)
optional mark test P gives None e = inl refl
optional mark test P gives (Some text) e = inr (text, refl, gives text e)

-- a part that is present, and passes
there : (test : List ℕ → Bool) (t : Bool) (text : List ℕ) → present test (cond t (Some text) None) ≡ true → (t ≡ true) × (test text ≡ true)
there test true text e = (refl, e)
there test false text e = absurd (false≢true e)

-- a scheme, `:` and what is behind it
module _ (text : List ℕ) where
  scheme_there : present is_scheme (scheme text) ≡ true → (is_scheme (before 58 text) ≡ true) × (text ≡ before 58 text ++ 58 ∷ behind_scheme text)
  scheme_there e =
      let (has, good) = there is_scheme (has_scheme text) (before 58 text) e in
      let (colon, more) = and_parts (holds 58 text) (ltb 0 (place 58 text) && not (holds 47 (before 58 text))) has in (
        good,
        sym (take-append-drop (place 58 text) text)
            ∙ ap (λ (xs : List ℕ). before 58 text ++ xs) (from_place 58 text colon)
            ∙ ap (λ (xs : List ℕ). before 58 text ++ 58 ∷ xs) (sym (cond-true (has_scheme text) (drop (place 58 text + 1) text) text has)),
      )

two-slashes : (text : List ℕ) → slashes text ≡ true → text ≡ 47 ∷ 47 ∷ drop 2 text
two-slashes [] e = absurd (false≢true e)
two-slashes (x ∷ []) e = absurd (false≢true e)
two-slashes (x ∷ y ∷ rest) e =
    let (p, q) = and_parts (eqb x 47) (eqb y 47) e in
    ap (λ (b : ℕ). b ∷ y ∷ rest) (eqb-true x 47 p) ∙ ap (λ (b : ℕ). 47 ∷ b ∷ rest) (eqb-true y 47 q)

-- `//`, an authority and a path
module _ (text : List ℕ) where
  abbrev owner : List ℕ
  owner = before 47 (drop 2 text)

  authority_there : present is_authority (authority text) ≡ true → (is_authority owner ≡ true) × (text ≡ 47 ∷ 47 ∷ (owner ++ path text)) × (path text ≡ marked 47 (behind 47 (drop 2 text)))
  authority_there e =
      let (begins, good) = there is_authority (slashes text) owner e in
      let rest : path text ≡ drop (place 47 (drop 2 text)) (drop 2 text) = cond-true (slashes text) (drop (place 47 (drop 2 text)) (drop 2 text)) text begins in (
        good,
        two-slashes text begins
            ∙ ap (λ (xs : List ℕ). 47 ∷ 47 ∷ xs) (sym (take-append-drop (place 47 (drop 2 text)) (drop 2 text)))
            ∙ ap (λ (xs : List ℕ). 47 ∷ 47 ∷ (owner ++ xs)) (sym rest),
        rest ∙ from_is 47 (drop 2 text),
      )

-- a path begins with its mark or is empty
path_derived : (part : Option (List ℕ)) → is_path (marked 47 part) ≡ true → Path (marked 47 part)
path_derived None e = Path.none
path_derived (Some rest) e = path_from_run (run_from_escaped path_byte rest e)

-- the parts, as they are cut and in their order
pub joined : (s h p r q f : List ℕ) → ((s ++ 58 ∷ 47 ∷ 47 ∷ ((h ++ p) ++ r)) ++ q) ++ f ≡ s ++ (codes "://" ++ (h ++ (p ++ (r ++ (q ++ f)))))
joined s h p r q f = simp append_assoc

-- the parts of a text, and what a legal text says of them
module _ (text : List ℕ) where
  abbrev front : List ℕ
  front = without_query text

  abbrev rest : List ℕ
  rest = behind_scheme front

  abbrev s : List ℕ
  s = before 58 front

  abbrev h : List ℕ
  h = before 58 (owner rest)

  abbrev p : List ℕ
  p = marked 58 (behind 58 (owner rest))

  abbrev q : List ℕ
  q = marked 63 (query text)

  abbrev f : List ℕ
  f = marked 35 (fragment text)

  module _ (good : legal text ≡ true) where
    both : (leb (length text) 512 ≡ true) × (legal_parts (split text) ≡ true)
    both = and_parts (leb (length text) 512) (legal_parts (split text)) good

    halves : ((present is_scheme (scheme front) && present is_authority (authority rest)) ≡ true) × ((is_path (path rest) && (if_present is_query (query text) && if_present is_query (fragment text))) ≡ true)
    halves = and_parts _ _ both.1

    heads : (present is_scheme (scheme front) ≡ true) × (present is_authority (authority rest) ≡ true)
    heads = and_parts _ _ halves.0

    tails : (is_path (path rest) ≡ true) × ((if_present is_query (query text) && if_present is_query (fragment text)) ≡ true)
    tails = and_parts _ _ halves.1

    marks : (if_present is_query (query text) ≡ true) × (if_present is_query (fragment text) ≡ true)
    marks = and_parts _ _ tails.1

    schemed : (is_scheme s ≡ true) × (front ≡ s ++ 58 ∷ rest)
    schemed = scheme_there front heads.0

    owned : (is_authority (owner rest) ≡ true) × (rest ≡ 47 ∷ 47 ∷ (owner rest ++ path rest)) × (path rest ≡ marked 47 (behind 47 (drop 2 rest)))
    owned = authority_there rest heads.1

    addressed : (is_host h ≡ true) × (if_present is_port (behind 58 (owner rest)) ≡ true)
    addressed = and_parts _ _ owned.0

    in_order : text ≡ s ++ (codes "://" ++ (h ++ (p ++ (path rest ++ (q ++ f)))))
    in_order =
        text_is 35 text
        ∙ ap (λ (xs : List ℕ). xs ++ f) (text_is 63 (without_fragment text))
        ∙ ap (λ (xs : List ℕ). (xs ++ q) ++ f) schemed.1
        ∙ ap (λ (xs : List ℕ). ((s ++ 58 ∷ xs) ++ q) ++ f) owned.1
        ∙ ap (λ (xs : List ℕ). ((s ++ 58 ∷ 47 ∷ 47 ∷ (xs ++ path rest)) ++ q) ++ f) (text_is 58 (owner rest))
        ∙ joined s h p (path rest) q f

    pub derived : Uri text
    derived =
        record {
          scheme = s;
          host = h;
          port = p;
          path = path rest;
          query = q;
          fragment = f;
          whole = in_order;
          scheme_is = schemed.0;
          host_is = addressed.0;
          port_is = optional 58 is_port (λ digits. is_port digits ≡ true) (λ digits e. e) (behind 58 (owner rest)) addressed.1;
          path_is = subst Path (sym owned.2) (path_derived (behind 47 (drop 2 rest)) (ap is_path (sym owned.2) ∙ tails.0));
          query_is = optional 63 is_query (Run query_byte) (run_from_escaped query_byte) (query text) marks.0;
          fragment_is = optional 35 is_query (Run query_byte) (run_from_escaped query_byte) (fragment text) marks.1;
          short = leb-true (length text) 512 both.0;
        }
