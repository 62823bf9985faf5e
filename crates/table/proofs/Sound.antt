-- A file that passes the check is a service table. Assumes nothing.
use Rattle.std.proofs.Common.{◌≡◌, ℕ, ◌*◌, ◌<◌, ◌≤◌, true, not, ◌&&◌, ◌||◌, eqb, ltb, leb, List, ◌∷◌, ◌++◌, map, length, get_or, drop, is_ok, None, sym, ap, ◌∙◌, arith}
use Rattle.std.proofs.ByRecursion.{All-drop, All-get_or}
use Rattle.std.proofs.lemmas.List.{drop-drop, length-drop, length-map}
use Rattle.std.proofs.lemmas.Bool.{and_parts, eqb-true, leb-true, ltb-false, not-false, or_parts}
use Rattle.table.specs.Contents.{headed, dialect_of, count_of, spot, contents}
use Rattle.table.specs.Reading.{pathways_in}
use Rattle.table.specs.Offences.{misplaced, end_of, left_over, unknown_kind}
use Rattle.table.specs.Checks.{checked}
use Rattle.table.specs.Format.{Item, entries, bodies, laid, Table, Bytes}
use Rattle.table.proofs.Entries.{length-contents}
use Rattle.table.proofs.Lawful.{none-further, kept, within-kept, order_kept, uris-kept, sound_fits, sound_few, sound_lawful}
use Rattle.table.proofs.Regrouped.{item_of, first_body, first-uri, regrouped}
use Rattle.table.proofs.Spelled.{dialect_spelled, high_spelled, low_spelled, spelled, filled, six_first}

module _ (file : List ℕ) (bytes : Bytes file) (sound : is_ok (checked file) ≡ true) where
  short : length file ≤ 65535
  short =
      let t = (none-further (eqb (length file) 0 || ltb 65535 (length file)) 0 None (kept file sound).0).0 in
      ltb-false 65535 (length file) (or_parts (eqb (length file) 0) (ltb 65535 (length file)) t).1

  record Header : Type 0 where
    s : get_or file 0 0 ≡ 83
    t : get_or file 1 0 ≡ 84
    one : get_or file 2 0 ≡ 1
    dialect : get_or file 3 0 ≤ 1

  header : Header
  header =
      let good = not-false (headed file) (none-further (not (headed file)) 0 None (kept file sound).1.0).0 in
      let p = and_parts (leb 4 (length file)) (eqb (get_or file 0 0) 83 && (eqb (get_or file 1 0) 84 && (eqb (get_or file 2 0) 1 && leb (get_or file 3 0) 1))) good in
      let q = and_parts (eqb (get_or file 0 0) 83) (eqb (get_or file 1 0) 84 && (eqb (get_or file 2 0) 1 && leb (get_or file 3 0) 1)) p.1 in
      let r = and_parts (eqb (get_or file 1 0) 84) (eqb (get_or file 2 0) 1 && leb (get_or file 3 0) 1) q.1 in
      let u = and_parts (eqb (get_or file 2 0) 1) (leb (get_or file 3 0) 1) r.1 in
      record {
        s = eqb-true (get_or file 0 0) 83 q.0;
        t = eqb-true (get_or file 1 0) 84 r.0;
        one = eqb-true (get_or file 2 0) 1 u.0;
        dialect = leb-true (get_or file 3 0) 1 u.1;
      }

  places_kept : misplaced 0 (spot (count_of file)) (contents file) ≡ None
  places_kept = (kept file sound).1.1.1.1.0

  end_kept : left_over (length file) (spot (count_of file)) (contents file) ≡ None
  end_kept = (kept file sound).1.1.1.1.1.1.0

  kinds_kept : unknown_kind 0 (contents file) ≡ None
  kinds_kept = (kept file sound).1.1.1.1.1.1.1.0

  abbrev xs : List Item
  xs = map (item_of file) (contents file)

  length-items : length xs ≡ count_of file
  length-items = length-map (contents file) (item_of file) ∙ length-contents file

  -- behind the count: the entries, then the bodies
  rest_spelled : drop 6 file ≡ entries (spot (length xs)) xs ++ bodies xs
  rest_spelled =
      let n = count_of file in
      let fits = sound_fits file sound in
      let end = ltb-false (end_of (spot n) (contents file)) (length file) (none-further (ltb (end_of (spot n) (contents file)) (length file)) 4 None end_kept).0 in
      let at = ap spot (sym length-items) in
      spelled file n (drop 6 file) 0 (spot n) (omega (arith, length-drop 6 file)) (All-drop (λ (b : ℕ). b < 256) 6 file bytes) places_kept (within-kept file sound) kinds_kept
      ∙ ap (λ (l : List ℕ). entries (spot n) xs ++ l) (drop-drop (5 * n) 6 file ∙ filled file (contents file) 0 (spot n) places_kept end)
      ∙ ap (λ (k : ℕ). entries k xs ++ bodies xs) at

  file_spelled : file ≡ laid (dialect_of file) xs
  file_spelled =
      let fits = sound_fits file sound in
      let low = All-get_or (λ (b : ℕ). b < 256) file 5 0 (omega arith) bytes in
      let a = header.s in
      let b = header.t in
      let c = header.one in
      let d = dialect_spelled file header.dialect in
      let e = high_spelled (length xs) (get_or file 4 0) (get_or file 5 0) length-items low in
      let f = low_spelled (length xs) (get_or file 4 0) (get_or file 5 0) length-items low in
      let rest = rest_spelled in
      six_first file (omega arith) ∙ (λ j. a j ∷ b j ∷ c j ∷ d j ∷ e j ∷ f j ∷ rest j)

  pub sound_table : Table file
  sound_table =
      record {
        dialect = dialect_of file;
        steering = first_body file (contents file);
        pathways = pathways_in file (contents file);
        whole = file_spelled ∙ ap (laid (dialect_of file)) (regrouped file (contents file) (order_kept file sound));
        short = short;
        uri = first-uri file (contents file) (order_kept file sound) (uris-kept file sound);
        lawful = sound_lawful file sound;
        few = sound_few file sound;
      }
