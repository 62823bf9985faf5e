-- The promises of setting a parameter, of the text that is answered. Assumes nothing.
use Rattle.std.proofs.Common.{◌≡◌, ℕ, ◌≤◌, true, leb, List, [], ◌∷◌, ◌++◌, length, Some, None, Option, sym, refl, ap, ◌∙◌, subst}
use Rattle.std.proofs.lemmas.Bool.{cond_both}
use Rattle.terms.specs.Classes.{unreserved}
use Rattle.terms.specs.Texts.{bounded}
use Rattle.uri.specs.Cuts.{joined_by, marked}
use Rattle.uri.specs.Splits.{without_query, query, fragment, scheme, behind_scheme, authority, path, split}
use Rattle.uri.specs.Legal.{legal}
use Rattle.uri.proofs.Free.{Free, free_join}
use Rattle.uri.proofs.Runs.{run_from_escaped}
use Rattle.rewriting.specs.Parameters.{pieces, assigned, others, set_in, set_to}
use Rattle.rewriting.specs.Laws.{Answered, Plain, of_name, Once, Others, SameButQuery, Elsewhere, Again, StaysLegal}
use Rattle.rewriting.proofs.Sets.{own-named, set_once, set_others, set_again}
use Rattle.rewriting.proofs.Queries.{Clear, free_from, front_is, fragment_is, pieces_are}
use Rattle.rewriting.proofs.Runs.{set_legal}

-- what holds of the new text holds of the answer
pub answered : (n : ℕ) (text : List ℕ) (answer : Option (List ℕ)) (P : List ℕ → Type 0) → answer ≡ bounded n text → P text → Answered answer P
answered n text answer P e h =
    subst (λ (o : Option (List ℕ)). Answered o P) (sym e)
    (cond_both (leb (length text) n) (Some text) None (λ (o : Option (List ℕ)). Answered o P) (λ _. h) (λ _. tt))

clear_from : (name value : List ℕ) → Plain name value → Clear name value
clear_from name value p =
    record {
      equals = free_from 61 name p.equals;
      divider = free_join (free_from 38 name p.divider) (Free.more refl (free_from 38 value p.value_divider));
      hash = free_join (free_from 35 name p.hash) (Free.more refl (free_from 35 value p.value_hash));
    }

module _ (n : ℕ) (name value uri : List ℕ) (answer : Option (List ℕ)) (is : answer ≡ bounded n (set_to name value uri)) where
  pub once : Once name value answer
  once plain =
      let clear = clear_from name value plain in
      answered n (set_to name value uri) answer (λ text. of_name name (pieces (split text).query) ≡ assigned name value ∷ []) is
      (ap (of_name name) (pieces_are name value uri clear) ∙ set_once name value (own-named name value clear.equals) (pieces (query uri)))

  pub others_stay : Others name value uri answer
  others_stay plain =
      let clear = clear_from name value plain in
      answered n (set_to name value uri) answer (λ text. others name (pieces (split text).query) ≡ others name (pieces (split uri).query)) is
      (ap (others name) (pieces_are name value uri clear) ∙ set_others name value (own-named name value clear.equals) (pieces (query uri)))

  pub elsewhere : Elsewhere name value uri answer
  elsewhere plain =
      let clear = clear_from name value plain in
      let front : without_query (set_to name value uri) ≡ without_query uri = front_is name value uri clear in
      answered n (set_to name value uri) answer (λ text. SameButQuery (split text) (split uri)) is
      (record {
        scheme = ap scheme front;
        authority = ap (λ (xs : List ℕ). authority (behind_scheme xs)) front;
        path = ap (λ (xs : List ℕ). path (behind_scheme xs)) front;
        fragment = fragment_is name value uri clear;
      })

  pub again : Again name value answer
  again plain =
      let clear = clear_from name value plain in
      answered n (set_to name value uri) answer (λ text. set_to name value text ≡ text) is
      (ap (λ (xs : List ℕ). (xs ++ 63 ∷ joined_by 38 (set_in name value (pieces (query (set_to name value uri))))) ++ marked 35 (fragment (set_to name value uri))) (front_is name value uri clear)
      ∙ ap (λ (ps : List (List ℕ)). (without_query uri ++ 63 ∷ joined_by 38 ps) ++ marked 35 (fragment (set_to name value uri)))
      (ap (set_in name value) (pieces_are name value uri clear) ∙ set_again name value (own-named name value clear.equals) (pieces (query uri)))
      ∙ ap (λ (o : Option (List ℕ)). (without_query uri ++ 63 ∷ joined_by 38 (set_in name value (pieces (query uri)))) ++ marked 35 o) (fragment_is name value uri clear))

  pub stays_legal : StaysLegal name value uri answer
  stays_legal good e f =
      answered n (set_to name value uri) answer (λ text. length text ≤ 512 → legal text ≡ true) is
      (set_legal name value (run_from_escaped unreserved name e) (run_from_escaped unreserved value f) uri good)
