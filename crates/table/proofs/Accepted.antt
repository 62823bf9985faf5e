-- A service table passes the check. Assumes nothing.
use Rattle.std.proofs.Common.{◌≡◌, ℕ, ◌+◌, ◌≤◌, true, cond, ◌||◌, eqb, ltb, List, [], ◌∷◌, ◌++◌, length, drop, is_ok, Some, None, Option, sym, refl, ap, ◌∙◌, subst, arith}
use Rattle.std.specs.List.{AllByRecursion}
use Rattle.std.proofs.ByRecursion.{All-append}
use Rattle.std.proofs.lemmas.Bool.{cond-false, ne_eqb, le-ltb, or_from}
use Rattle.uri.specs.Legal.{legal}
use Rattle.pathways.specs.declared.dialect.Dialect.{Dialect}
use Rattle.pathways.specs.declared.dialect.Dialect.TheVariants.{Hls, Dash}
use Rattle.pathways.specs.Meaning.{Pathway, ids}
use Rattle.pathways.specs.Limits.{Different, Lawful}
use Rattle.table.specs.Contents.{count_of, spot, contents}
use Rattle.table.specs.Reading.{pathways_in}
use Rattle.table.specs.Offences.{bad_header, count_missing, contents_long, misplaced, overlong, end_of, left_over, unknown_kind, out_of_order, bad_id, repeated, bad_uri, overrun, bad_count}
use Rattle.pathways.specs.Rules.{Rule, bad_length, verdict, and_then, judged}
use Rattle.table.specs.Checks.{layout, sense, checked}
use Rattle.table.specs.Format.{Item, items, dialect_code, bodies, laid, written, Table}
use Rattle.table.proofs.Loops.{good_header}
use Rattle.table.proofs.Written.{entries_for, count_read, contents_read, bodies_read, length-laid}
use Rattle.table.proofs.Inverse.{described_read}
use Rattle.table.proofs.Rules.{none-misplaced, ends_at, none-overlong, Sane, sane_items, none_unknown, none_bad_id, none_bad_uri, items_ordered, pathways-counted}
use Rattle.table.proofs.Apart.{none-repeated, all_new}

rules_kept : (rs : List Rule) → AllByRecursion (λ (r : Rule). r.offence ≡ None) rs → is_ok (judged rs) ≡ true
rules_kept [] h = refl
rules_kept (r ∷ rs) h = ap (λ (o : Option ℕ). is_ok (and_then (verdict r.number o) (judged rs))) h.0 ∙ rules_kept rs h.1

not_longer : (a b p : ℕ) → b ≤ a → cond (ltb a b) (Some p) None ≡ None
not_longer a b p h = cond-false (ltb a b) (Some p) None (le-ltb a b h)

header_kept : (d : Dialect) (xs : List Item) → bad_header (laid d xs) ≡ None
header_kept d xs = good_header (laid d xs) (omega arith) refl refl refl (small d)
  where
    small : (d : Dialect) → dialect_code d ≤ 1
    small Hls = omega arith
    small Dash = omega arith

-- a file with these entries, whose bodies fill it
module _ (file : List ℕ) (s : List ℕ) (ps : List Pathway) (at : ℕ) (uri : legal s ≡ true) (lawful : Lawful ps) (few : length ps ≤ 16)
    (short : length file ≤ 65535) (header : bad_header file ≡ None) (start : at ≡ spot (count_of file))
    (es : contents file ≡ entries_for at (items s ps)) (here : drop at file ≡ bodies (items s ps)) (long : length file ≡ at + length (bodies (items s ps))) where
  abbrev xs : List Item
  xs = items s ps

  length_right : bad_length file ≡ None
  length_right =
      cond-false (eqb (length file) 0 || ltb 65535 (length file)) (Some 0) None
      (or_from (eqb (length file) 0) (ltb 65535 (length file)) (ne_eqb (length file) 0 (λ z. omega arith)) (le-ltb 65535 (length file) short))

  count_there : count_missing file ≡ None
  count_there = not_longer (length file) 6 (length file) (omega arith)

  contents_there : contents_long file ≡ None
  contents_there = not_longer (length file) (spot (count_of file)) 4 (omega arith)

  places_right : misplaced 0 (spot (count_of file)) (contents file) ≡ None
  places_right =
      ap (λ (n : ℕ). misplaced 0 n (contents file)) (sym start) ∙ ap (misplaced 0 at) es ∙ none-misplaced 0 at xs

  bodies_there : overlong (length file) 0 (contents file) ≡ None
  bodies_there = ap (overlong (length file) 0) es ∙ none-overlong (length file) 0 at xs (omega arith)

  end_right : left_over (length file) (spot (count_of file)) (contents file) ≡ None
  end_right =
      let end : end_of (spot (count_of file)) (contents file) ≡ length file = ap (λ (n : ℕ). end_of n (contents file)) (sym start) ∙ ap (end_of at) es ∙ ends_at at xs ∙ sym long in
      not_longer (end_of (spot (count_of file)) (contents file)) (length file) 4 (omega (arith, end))

  layout-kept : AllByRecursion (λ (r : Rule). r.offence ≡ None) (layout file)
  layout-kept = (length_right, (header, (count_there, (contents_there, (places_right, (bodies_there, (end_right, tt)))))))

  pathways_are : pathways_in file (contents file) ≡ ps
  pathways_are = ap (pathways_in file) es ∙ described_read file s ps at here

  sane : AllByRecursion Sane xs
  sane = sane_items s ps uri lawful.each

  kinds_right : unknown_kind 0 (contents file) ≡ None
  kinds_right = ap (unknown_kind 0) es ∙ none_unknown 0 at xs sane

  order_right : out_of_order (contents file) ≡ None
  order_right = ap out_of_order es ∙ items_ordered s ps at

  ids_right : bad_id file (contents file) ≡ None
  ids_right = ap (bad_id file) es ∙ none_bad_id file at xs here sane

  repeats_right : repeated file [] (contents file) ≡ None
  repeats_right =
      let different = subst (λ (l : List Pathway). Different (ids l)) (sym pathways_are) lawful.different in
      none-repeated file [] (contents file) (record { different = different; new = all_new file (ids (pathways_in file (contents file))) })

  uris_right : bad_uri file (contents file) ≡ None
  uris_right = ap (bad_uri file) es ∙ none_bad_uri file at xs here sane

  counts_right : bad_count file (contents file) ≡ None
  counts_right =
      cond-false (eqb (length (pathways_in file (contents file))) 0) (Some 4) (overrun 0 0 0 (contents file))
      (ne_eqb (length (pathways_in file (contents file))) 0 (λ z. omega (arith, ap length pathways_are, lawful.some)))
      ∙ ap (overrun 0 0 0) es
      ∙ pathways-counted ps 0 lawful.each (omega arith) 0 1 (at + length s)

  sense-kept : AllByRecursion (λ (r : Rule). r.offence ≡ None) (sense file)
  sense-kept = (kinds_right, (order_right, (ids_right, (repeats_right, (uris_right, (counts_right, tt))))))

  fits_format : is_ok (checked file) ≡ true
  fits_format =
      rules_kept (layout file ++ sense file) (All-append (λ (r : Rule). r.offence ≡ None) (layout file) (sense file) layout-kept sense-kept)

accepted : (d : Dialect) (s : List ℕ) (ps : List Pathway) → length (written d s ps) ≤ 65535 → legal s ≡ true → Lawful ps → length ps ≤ 16 → is_ok (checked (written d s ps)) ≡ true
accepted d s ps short uri lawful few =
    let xs = items s ps in
    fits_format (written d s ps) s ps (spot (length xs)) uri lawful few short (header_kept d xs) (ap spot (sym (count_read d xs))) (contents_read d xs) (bodies_read d xs) (length-laid d xs)

pub complete : (file : List ℕ) → Table file → is_ok (checked file) ≡ true
complete file t =
    ap (λ (f : List ℕ). is_ok (checked f)) t.whole
    ∙ accepted t.dialect t.steering t.pathways (subst (λ (f : List ℕ). length f ≤ 65535) t.whole t.short) t.uri t.lawful t.few
