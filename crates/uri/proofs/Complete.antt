-- What the grammar derives is legal. Assumes nothing.
use Rattle.std.proofs.Common.{◌≡◌, ℕ, ◌+◌, ◌<◌, Bool, true, false, not, ◌&&◌, eqb, ltb, leb, ◌⊎◌, List, [], ◌∷◌, ◌++◌, map, length, drop, Some, None, codes, Option, sym, refl, ap, ◌∙◌, subst, inl, inr, ⊎_elim, arith}
use Rattle.std.proofs.lemmas.List.{length-map}
use Rattle.std.proofs.lemmas.Bool.{le-leb, lt-ltb, le-ltb, eqb-true, eq-eqb, cond-true, and_from, and_parts, or_cases, not_from_false, cases_Bool, both_ways}
use Rattle.std.proofs.lemmas.Slice.Eq.{bytes_eq-Decides}
use Rattle.std.specs.Char.{to_ascii_lowercase}
use Rattle.std.specs.Str.{bytes_eq}
use Rattle.terms.specs.Classes.{letter, digit, name_byte, hex_digit, every}
use Rattle.uri.specs.Cuts.{place, before, behind, holds, marked}
use Rattle.uri.specs.Splits.{fragment, without_query, query, has_scheme, scheme, behind_scheme, authority, path, split}
use Rattle.uri.specs.Legal.{value, is_scheme, is_host, is_port, is_authority, path_byte, query_byte, is_path, is_query, if_present, present, legal_parts, legal}
use Rattle.uri.specs.Grammar.{Run, Path, Optional, Uri}
use Rattle.uri.proofs.Free.{Free, place_free, free_join, place-marked, before-marked, from_marked, behind-marked, holds-marked, rest_marked}
use Rattle.uri.proofs.Sound.{joined}
use Rattle.uri.proofs.Runs.{escaped_from_run, run_free, every_free, run_from_path}

-- an optional part as what is behind its mark
pub record Part (mark : ℕ) (test : List ℕ → Bool) (text : List ℕ) : Type 0 where
  pub part : Option (List ℕ)
  pub is : text ≡ marked mark part
  pub good : if_present test part ≡ true

part_of : (mark : ℕ) (test : List ℕ → Bool) (P : List ℕ → Type 0) (text : List ℕ) → ((rest : List ℕ) → P rest → test rest ≡ true) → Optional mark P text → Part mark test text
part_of mark test P text passes o = ⊎_elim
    (λ e. record { part = None; is = e; good = refl })
    (λ r. record { part = Some r.0; is = r.1; good = passes r.0 r.2 })
    o

-- bytes that a part does not hold
optional_free : (mark b : ℕ) (P : List ℕ → Type 0) (text : List ℕ) → eqb mark b ≡ false → ((rest : List ℕ) → P rest → Free b rest) → Optional mark P text → Free b text
optional_free mark b P text off frees o = ⊎_elim
    (λ e. subst (Free b) (sym e) Free.none)
    (λ r. subst (Free b) (sym r.1) (Free.more off (frees r.0 r.2)))
    o

-- a path as what is behind its first `/`
path_part : {text : List ℕ} → Path text → (part : Option (List ℕ)) × (text ≡ marked 47 part)
path_part Path.none = (None, refl)
path_part (Path.segment {s} {rest} r p) = (Some (s ++ rest), refl)

-- a byte that `lower` keeps, and that stands in no lowered text, stands in no text
unlowered : (b : ℕ) (xs : List ℕ) → to_ascii_lowercase b ≡ b → Free b (map to_ascii_lowercase xs) → Free b xs
unlowered b [] e f = Free.none
unlowered b (x ∷ xs) e (Free.more off f) = Free.more (⊎_elim (λ same. absurd (both_ways (eqb (to_ascii_lowercase x) b) off (eq-eqb (to_ascii_lowercase x) b (ap to_ascii_lowercase (eqb-true x b same) ∙ e)))) (λ other. other) (cases_Bool (eqb x b))) (unlowered b xs e f)

scheme_letters : (text : List ℕ) → is_scheme text ≡ true → (map to_ascii_lowercase text ≡ codes "http") ⊎ (map to_ascii_lowercase text ≡ codes "https")
scheme_letters text e = ⊎_elim (λ p. inl ((bytes_eq-Decides (map to_ascii_lowercase text) (codes "http")).0 p)) (λ p. inr ((bytes_eq-Decides (map to_ascii_lowercase text) (codes "https")).0 p))
    (or_cases (bytes_eq (map to_ascii_lowercase text) (codes "http")) (bytes_eq (map to_ascii_lowercase text) (codes "https")) e)

scheme_free : (b : ℕ) (text : List ℕ) → to_ascii_lowercase b ≡ b → letter b ≡ false → is_scheme text ≡ true → Free b text
scheme_free b text same off e = unlowered b text same (⊎_elim
    (λ p. subst (Free b) (sym p) (every_free letter b (codes "http") off refl))
    (λ p. subst (Free b) (sym p) (every_free letter b (codes "https") off refl))
    (scheme_letters text e))

scheme-some : (text : List ℕ) → is_scheme text ≡ true → 0 < length text
scheme-some text e = ⊎_elim
    (λ p. omega (arith, length-map text to_ascii_lowercase, ap length p))
    (λ p. omega (arith, length-map text to_ascii_lowercase, ap length p))
    (scheme_letters text e)

pub host_free : (b : ℕ) (text : List ℕ) → name_byte b ≡ false → is_host text ≡ true → Free b text
host_free b text off e =
    every_free name_byte b text off (and_parts (leb (length text) 128) (every name_byte text) (and_parts (leb 1 (length text)) (leb (length text) 128 && every name_byte text) e).1).1

port_free : (b : ℕ) (text : List ℕ) → digit b ≡ false → is_port text ≡ true → Free b text
port_free b text off e =
    every_free digit b text off (and_parts (every digit text) (leb (value 0 text) 65535) (and_parts (leb 1 (length text) && leb (length text) 5) (every digit text && leb (value 0 text) 65535) e).1).0

-- a scheme, `:` and a rest
module _ (s rest : List ℕ) (colons : Free 58 s) (free : Free 47 s) (some : 0 < length s) where
  scheme_has : has_scheme (s ++ 58 ∷ rest) ≡ true
  scheme_has =
      let at : place 58 (s ++ 58 ∷ rest) ≡ length s = place-marked colons (Some rest) in
      let none : place 47 s ≡ length s = place_free free in
      and_from (holds 58 (s ++ 58 ∷ rest)) (ltb 0 (place 58 (s ++ 58 ∷ rest)) && not (holds 47 (before 58 (s ++ 58 ∷ rest)))) (holds-marked colons rest)
      (and_from (ltb 0 (place 58 (s ++ 58 ∷ rest))) (not (holds 47 (before 58 (s ++ 58 ∷ rest)))) (lt-ltb 0 (place 58 (s ++ 58 ∷ rest)) (omega arith))
      (not_from_false (holds 47 (before 58 (s ++ 58 ∷ rest))) (ap (holds 47) (before-marked colons (Some rest)) ∙ le-ltb (place 47 s) (length s) (omega arith))))

  scheme_cut : scheme (s ++ 58 ∷ rest) ≡ Some s
  scheme_cut = cond-true (has_scheme (s ++ 58 ∷ rest)) (Some (before 58 (s ++ 58 ∷ rest))) None scheme_has ∙ ap Some (before-marked colons (Some rest))

  scheme_rest : behind_scheme (s ++ 58 ∷ rest) ≡ rest
  scheme_rest = cond-true (has_scheme (s ++ 58 ∷ rest)) (drop (place 58 (s ++ 58 ∷ rest) + 1) (s ++ 58 ∷ rest)) (s ++ 58 ∷ rest) scheme_has ∙ rest_marked colons rest

-- the parts of a text that is put together from them
module _ (s h : List ℕ) (port inner ask tail : Option (List ℕ)) where
  abbrev pub owner : List ℕ
  owner = h ++ marked 58 port

  abbrev pub rest : List ℕ
  rest = 47 ∷ 47 ∷ (owner ++ marked 47 inner)

  abbrev pub front : List ℕ
  front = s ++ 58 ∷ rest

  abbrev pub most : List ℕ
  most = front ++ marked 63 ask

  abbrev pub all : List ℕ
  all = most ++ marked 35 tail

  pub record Cut : Type 0 where
    pub scheme_is : scheme (without_query all) ≡ Some s
    pub authority_is : authority (behind_scheme (without_query all)) ≡ Some owner
    pub path_is : path (behind_scheme (without_query all)) ≡ marked 47 inner
    pub query_is : query all ≡ ask
    pub fragment_is : fragment all ≡ tail

  cut_up : Free 58 s → Free 47 s → 0 < length s → Free 47 owner → Free 63 front → Free 35 most → Cut
  cut_up colons slashes-s some slashes-o asks tails =
      let front_is : without_query all ≡ front = ap (before 63) (before-marked tails tail) ∙ before-marked asks ask in
      let rest-is : behind_scheme (without_query all) ≡ rest = ap behind_scheme front_is ∙ scheme_rest s rest colons slashes-s some in
      record {
        scheme_is = ap scheme front_is ∙ scheme_cut s rest colons slashes-s some;
        authority_is = ap authority rest-is ∙ ap Some (before-marked slashes-o inner);
        path_is = ap path rest-is ∙ from_marked slashes-o inner;
        query_is = ap (behind 63) (before-marked tails tail) ∙ behind-marked asks ask;
        fragment_is = behind-marked tails tail;
      }

  legal-parts : Cut → Free 58 h → is_scheme s ≡ true → is_host h ≡ true → if_present is_port port ≡ true → is_path (marked 47 inner) ≡ true → if_present is_query ask ≡ true → if_present is_query tail ≡ true → legal_parts (split all) ≡ true
  legal-parts cut colons-h a b c d e f =
      and_from _ _
      (and_from _ _
      (ap (present is_scheme) cut.scheme_is ∙ a)
      (ap (present is_authority) cut.authority_is ∙ and_from _ _ (ap is_host (before-marked colons-h port) ∙ b) (ap (if_present is_port) (behind-marked colons-h port) ∙ c)))
      (and_from _ _ (ap is_path cut.path_is ∙ d) (and_from _ _ (ap (if_present is_query) cut.query_is ∙ e) (ap (if_present is_query) cut.fragment_is ∙ f)))

-- a derived text is put together so, and stays legal with another host
module _ (text : List ℕ) (u : Uri text) where
  pub port_part : Part 58 is_port u.port
  port_part = part_of 58 is_port (λ digits. is_port digits ≡ true) u.port (λ digits e. e) u.port_is

  pub inner_part : (part : Option (List ℕ)) × (u.path ≡ marked 47 part)
  inner_part = path_part u.path_is

  pub query_part : Part 63 is_query u.query
  query_part = part_of 63 is_query (Run query_byte) u.query (λ rest r. escaped_from_run query_byte refl r) u.query_is

  pub fragment_part : Part 35 is_query u.fragment
  fragment_part = part_of 35 is_query (Run query_byte) u.fragment (λ rest r. escaped_from_run query_byte refl r) u.fragment_is

  abbrev pub put : List ℕ → List ℕ
  put host = all u.scheme host port_part.part inner_part.0 query_part.part fragment_part.part

  pub put_is : text ≡ put u.host
  put_is =
      u.whole
      ∙ sym (joined u.scheme u.host u.port u.path u.query u.fragment)
      ∙ ap (λ (xs : List ℕ). ((u.scheme ++ 58 ∷ 47 ∷ 47 ∷ ((u.host ++ xs) ++ u.path)) ++ u.query) ++ u.fragment) port_part.is
      ∙ ap (λ (xs : List ℕ). ((u.scheme ++ 58 ∷ 47 ∷ 47 ∷ (owner u.scheme u.host port_part.part None None None ++ xs)) ++ u.query) ++ u.fragment) inner_part.1
      ∙ ap (λ (xs : List ℕ). (front u.scheme u.host port_part.part inner_part.0 None None ++ xs) ++ u.fragment) query_part.is
      ∙ ap (λ (xs : List ℕ). most u.scheme u.host port_part.part inner_part.0 query_part.part None ++ xs) fragment_part.is

  path_free : (b : ℕ) → path_byte b ≡ false → hex_digit b ≡ false → eqb 37 b ≡ false → Free b (marked 47 inner_part.0)
  path_free b off_byte off-hex off = subst (Free b) inner_part.1 (run_free path_byte b off_byte off-hex off (run_from_path u.path_is))

  query_free : Free 35 (marked 63 query_part.part)
  query_free = subst (Free 35) query_part.is (optional_free 63 35 (Run query_byte) u.query refl (λ rest r. run_free query_byte 35 refl refl refl r) u.query_is)

  module _ (host : List ℕ) (named : is_host host ≡ true) where
    owner_free : (b : ℕ) → name_byte b ≡ false → digit b ≡ false → eqb 58 b ≡ false → Free b (host ++ marked 58 port_part.part)
    owner_free b off-name off-digit off =
        free_join (host_free b host off-name named)
        (subst (Free b) port_part.is (optional_free 58 b (λ digits. is_port digits ≡ true) u.port off (λ digits. port_free b digits off-digit) u.port_is))

    front_free :
        (b : ℕ) → to_ascii_lowercase b ≡ b → letter b ≡ false → name_byte b ≡ false → digit b ≡ false → path_byte b ≡ false → hex_digit b ≡ false
        → eqb 37 b ≡ false → eqb 47 b ≡ false → eqb 58 b ≡ false → Free b (front u.scheme host port_part.part inner_part.0 None None)
    front_free b same off-letter off-name off-digit off-path off-hex percent slash colon =
        free_join (scheme_free b u.scheme same off-letter u.scheme_is)
        (Free.more colon (Free.more slash (Free.more slash (free_join (owner_free b off-name off-digit colon) (path_free b off-path off-hex percent)))))

    pub put_split : Cut u.scheme host port_part.part inner_part.0 query_part.part fragment_part.part
    put_split =
        cut_up u.scheme host port_part.part inner_part.0 query_part.part fragment_part.part
        (scheme_free 58 u.scheme refl refl u.scheme_is)
        (scheme_free 47 u.scheme refl refl u.scheme_is)
        (scheme-some u.scheme u.scheme_is)
        (owner_free 47 refl refl refl)
        (front_free 63 refl refl refl refl refl refl refl refl refl)
        (free_join (front_free 35 refl refl refl refl refl refl refl refl refl) query_free)

    pub put_legal : legal_parts (split (put host)) ≡ true
    put_legal =
        legal-parts u.scheme host port_part.part inner_part.0 query_part.part fragment_part.part put_split
        (host_free 58 host refl named)
        u.scheme_is
        named
        port_part.good
        (ap is_path (sym inner_part.1) ∙ escaped_from_run path_byte refl (run_from_path u.path_is))
        query_part.good
        fragment_part.good

  pub complete : legal text ≡ true
  complete =
      and_from (leb (length text) 512) (legal_parts (split text)) (le-leb (length text) 512 u.short)
      (ap (λ (xs : List ℕ). legal_parts (split xs)) put_is ∙ put_legal u.host u.host_is)
