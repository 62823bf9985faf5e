-- Queries of legal bytes and escapes, where a parameter is set. Assumes nothing.
use Rattle.std.proofs.Common.{◌≡◌, ℕ, ◌≤◌, Bool, true, false, ◌&&◌, ◌||◌, eqb, leb, List, [], ◌∷◌, ◌++◌, length, Some, None, Option, sym, refl, ap, ◌∙◌, subst}
use Rattle.std.proofs.lemmas.Bool.{le-leb, and_from, and_parts, or_left}
use Rattle.std.specs.List.{AllByRecursion}
use Rattle.terms.specs.Classes.{unreserved, sub_delimiter, hex_digit}
use Rattle.uri.specs.Cuts.{onto, parts, led, joined_by}
use Rattle.uri.specs.Splits.{without_query, query, fragment, scheme, behind_scheme, authority, path, split}
use Rattle.uri.specs.Legal.{pchar, query_byte, is_scheme, is_authority, is_path, is_query, if_present, present, legal_parts, legal}
use Rattle.uri.specs.Grammar.{Run}
use Rattle.uri.specs.Grammar.Run.{end, byte, escape}
use Rattle.uri.proofs.Free.{Free, free_join}
use Rattle.uri.proofs.Runs.{apart, escaped_from_run, run_from_escaped, run_free}
use Rattle.rewriting.specs.Parameters.{pieces, assigned, set_in, set_to}
use Rattle.rewriting.proofs.Queries.{Clear, set_all, new, front_is, query_is, fragment_is}

run_append : {allowed : ℕ → Bool} {xs ys : List ℕ} → Run allowed xs → Run allowed ys → Run allowed (xs ++ ys)
run_append end s = s
run_append (byte e r) s = byte e (run_append r s)
run_append (escape e f r) s = escape e f (run_append r s)

-- unreserved bytes may stand in a query
run_query : {text : List ℕ} → Run unreserved text → Run query_byte text
run_query end = end
run_query (byte {b} e r) =
    byte (or_left (pchar b) (eqb b 47 || eqb b 63) (or_left (unreserved b) (sub_delimiter b || (eqb b 58 || eqb b 64)) e)) (run_query r)
run_query (escape e f r) = escape e f (run_query r)

run_assigned : {name value : List ℕ} → Run unreserved name → Run unreserved value → Run query_byte (assigned name value)
run_assigned r s = run_append (run_query r) (byte refl (run_query s))

-- the parts of a run are runs
onto_run : (b : ℕ) (t : Bool) (ps : List (List ℕ)) → query_byte b ≡ true → AllByRecursion (Run query_byte) ps → AllByRecursion (Run query_byte) (onto b t ps)
onto_run b true ps e hs = (end, hs)
onto_run b false [] e hs = (byte e end, tt)
onto_run b false (p ∷ ps) e hs = (byte e hs.0, hs.1)

onto-escape : (h l : ℕ) (ps : List (List ℕ)) → hex_digit h ≡ true → hex_digit l ≡ true → AllByRecursion (Run query_byte) ps → AllByRecursion (Run query_byte) (onto 37 false (onto h false (onto l false ps)))
onto-escape h l [] e f hs = (escape e f end, tt)
onto-escape h l (p ∷ ps) e f hs = (escape e f hs.0, hs.1)

parts_run : {text : List ℕ} → Run query_byte text → AllByRecursion (Run query_byte) (parts 38 text)
parts_run end = (end, tt)
parts_run (byte {b} {bs} e r) = onto_run b (eqb b 38) (parts 38 bs) e (parts_run r)
parts_run (escape {h} {l} {bs} e f r) =
    subst (λ (t : Bool). AllByRecursion (Run query_byte) (onto 37 false (onto h t (onto l (eqb l 38) (parts 38 bs))))) (sym (apart hex_digit h 38 e refl))
    (subst (λ (t : Bool). AllByRecursion (Run query_byte) (onto 37 false (onto h false (onto l t (parts 38 bs))))) (sym (apart hex_digit l 38 f refl))
    (onto-escape h l (parts 38 bs) e f (parts_run r)))

pieces_run : (asked : Option (List ℕ)) → if_present is_query asked ≡ true → AllByRecursion (Run query_byte) (pieces asked)
pieces_run None e = tt
pieces_run (Some []) e = tt
pieces_run (Some (x ∷ xs)) e = parts_run (run_from_escaped query_byte (x ∷ xs) e)

led_run : (ps : List (List ℕ)) → AllByRecursion (Run query_byte) ps → Run query_byte (led 38 ps)
led_run [] h = end
led_run (p ∷ ps) h = byte refl (run_append h.0 (led_run ps h.1))

joined_run : (ps : List (List ℕ)) → AllByRecursion (Run query_byte) ps → Run query_byte (joined_by 38 ps)
joined_run [] h = end
joined_run (p ∷ ps) h = run_append h.0 (led_run ps h.1)

-- a name and a value of unreserved bytes and escapes
module _ (name value : List ℕ) (name-run : Run unreserved name) (value-run : Run unreserved value) where
  own_free : (b : ℕ) → unreserved b ≡ false → hex_digit b ≡ false → eqb 37 b ≡ false → eqb 61 b ≡ false → Free b (assigned name value)
  own_free b off digit mark equals =
      free_join (run_free unreserved b off digit mark name-run) (Free.more equals (run_free unreserved b off digit mark value-run))

  clear : Clear name value
  clear = record { equals = run_free unreserved 61 refl refl refl name-run; divider = own_free 38 refl refl refl refl; hash = own_free 35 refl refl refl refl }

  module _ (text : List ℕ) (good : legal text ≡ true) where
    -- the tests of the parts, by what stands before the query, the query and the fragment
    abbrev tests : List ℕ → Option (List ℕ) → Option (List ℕ) → Bool
    tests front asked tail =
        (present is_scheme (scheme front) && present is_authority (authority (behind_scheme front)))
        && (is_path (path (behind_scheme front)) && (if_present is_query asked && if_present is_query tail))

    pub set_legal : length (set_to name value text) ≤ 512 → legal (set_to name value text) ≡ true
    set_legal short =
        let (heads, rest) = and_parts _ _ (and_parts (leb (length text) 512) (legal_parts (split text)) good).1 in
        let (way, marks) = and_parts (is_path (path (behind_scheme (without_query text)))) _ rest in
        let (asked, tail) = and_parts (if_present is_query (query text)) (if_present is_query (fragment text)) marks in
        let fine : is_query (new name value text clear) ≡ true = escaped_from_run query_byte refl (joined_run (set_in name value (pieces (query text))) (set_all (Run query_byte) name value (pieces (query text)) (run_assigned name-run value-run) (pieces_run (query text) asked))) in
        and_from (leb (length (set_to name value text)) 512) (legal_parts (split (set_to name value text))) (le-leb (length (set_to name value text)) 512 short)
        (ap (λ (front : List ℕ). tests front (query (set_to name value text)) (fragment (set_to name value text))) (front_is name value text clear)
        ∙ ap (λ (o : Option (List ℕ)). tests (without_query text) o (fragment (set_to name value text))) (query_is name value text clear)
        ∙ ap (tests (without_query text) (Some (new name value text clear))) (fragment_is name value text clear)
        ∙ and_from _ _ heads (and_from _ _ way (and_from _ _ fine tail)))
