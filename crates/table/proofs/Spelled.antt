-- The bytes of a file that passes the check are those that are written. Assumes nothing.
use Rattle.std.proofs.Common.{◌≡◌, ℕ, zero, suc, ◌+◌, ◌*◌, ◌/◌, ◌%◌, ◌<◌, ◌≤◌, Bool, true, false, cond, eqb, leb, List, [], ◌∷◌, ◌++◌, map, length, get_or, take, drop, None, sym, refl, ap, ◌∙◌, arith}
use Rattle.std.proofs.lemmas.Nat.{div-mul-add, mod-mul-add}
use Rattle.std.proofs.lemmas.List.{drop_all, drop-drop, length-drop, length-take, take-append-drop}
use Rattle.std.proofs.lemmas.Bool.{eqb-true, eqb-false, leb-true, true≢false}
use Rattle.pathways.specs.declared.dialect.Dialect.TheVariants.{Hls, Dash}
use Rattle.table.specs.declared.kind.Kind.TheVariants.{Steering, Id, Member, Unknown}
use Rattle.table.specs.declared.entry.Entry.{Entry}
use Rattle.table.specs.Contents.{pair, kind_of, dialect_of, spot, entry_of, entries_of, body_of, is_unknown}
use Rattle.table.specs.Offences.{misplaced, overlong, end_of, unknown_kind}
use Rattle.table.specs.Format.{code, dialect_code, entries, bodies, Bytes}
use Rattle.table.proofs.Lawful.{none-further, none_passed}
use Rattle.table.proofs.Regrouped.{item_of}

-- a known kind's byte
kind_spelled : (b : ℕ) → is_unknown (kind_of b) ≡ false → b ≡ code (kind_of b)
kind_spelled b h = go (eqb b 0) (eqb b 1) (eqb b 2) refl refl refl h
  where
    go : (x y z : Bool) → eqb b 0 ≡ x → eqb b 1 ≡ y → eqb b 2 ≡ z
        → is_unknown (cond x Steering (cond y Id (cond z Member Unknown))) ≡ false
        → b ≡ code (cond x Steering (cond y Id (cond z Member Unknown)))
    go true y z p q r h = eqb-true b 0 p
    go false true z p q r h = eqb-true b 1 q
    go false false true p q r h = eqb-true b 2 r
    go false false false p q r h = absurd (true≢false h)

pub dialect_spelled : (file : List ℕ) → get_or file 3 0 ≤ 1 → get_or file 3 0 ≡ dialect_code (dialect_of file)
dialect_spelled file h = go (eqb (get_or file 3 0) 0) refl
  where
    go : (b : Bool) → eqb (get_or file 3 0) 0 ≡ b → get_or file 3 0 ≡ dialect_code (cond b Hls Dash)
    go true t = eqb-true (get_or file 3 0) 0 t
    go false t = omega (arith, eqb-false (get_or file 3 0) 0 t)

-- the two bytes of a number that is read from two bytes
module _ (n high low : ℕ) (is : n ≡ pair high low) (small : low < 256) where
  pub high_spelled : high ≡ n / 256
  high_spelled = sym (ap (λ (m : ℕ). m / 256) is ∙ div-mul-add high 256 low small)

  pub low_spelled : low ≡ n % 256
  low_spelled = sym (ap (λ (m : ℕ). m % 256) is ∙ mod-mul-add high 256 low small)

module _ (file : List ℕ) where
  body-length : (e : Entry) → e.place + e.size ≤ length file → length (body_of file e) ≡ e.size
  body-length e h = omega (arith, length-take e.size (drop e.place file), length-drop e.place file)

  pub spelled : (n : ℕ) (bytes : List ℕ) (i due : ℕ) → 5 * n ≤ length bytes → Bytes bytes
      → misplaced i due (entries_of n bytes) ≡ None → overlong (length file) i (entries_of n bytes) ≡ None → unknown_kind i (entries_of n bytes) ≡ None
      → bytes ≡ entries due (map (item_of file) (entries_of n bytes)) ++ drop (5 * n) bytes
  spelled zero bytes i due l b m o u = refl
  spelled (suc n) [] i due l b m o u = absurd (omega arith)
  spelled (suc n) (b0 ∷ []) i due l b m o u = absurd (omega arith)
  spelled (suc n) (b0 ∷ b1 ∷ []) i due l b m o u = absurd (omega arith)
  spelled (suc n) (b0 ∷ b1 ∷ b2 ∷ []) i due l b m o u = absurd (omega arith)
  spelled (suc n) (b0 ∷ b1 ∷ b2 ∷ b3 ∷ []) i due l b m o u = absurd (omega arith)
  spelled (suc n) (b0 ∷ b1 ∷ b2 ∷ b3 ∷ b4 ∷ rest) i due l b m o u =
      let es = entries_of n rest in
      let bytes = b0 ∷ b1 ∷ b2 ∷ b3 ∷ b4 ∷ rest in
      let place = pair b1 b2 in
      let size = pair b3 b4 in
      let p = none_passed (eqb place due) (spot i) (misplaced (i + 1) (due + size) es) m in
      let q = none_passed (leb (place + size) (length file)) (spot i) (overlong (length file) (i + 1) es) o in
      let r = none-further (is_unknown (kind_of b0)) (spot i) (unknown_kind (i + 1) es) u in
      let long = body-length (entry_of bytes) (leb-true (place + size) (length file) q.0) in
      let is-due = sym (eqb-true place due p.0) in
      let kind-is = kind_spelled b0 r.0 in
      let c1 = high_spelled due b1 b2 is-due b.1.1.0 in
      let c2 = low_spelled due b1 b2 is-due b.1.1.0 in
      let c3 = high_spelled (length (body_of file (entry_of bytes))) b3 b4 long b.1.1.1.1.0 in
      let c4 = low_spelled (length (body_of file (entry_of bytes))) b3 b4 long b.1.1.1.1.0 in
      let to : due + size ≡ due + length (body_of file (entry_of bytes)) = omega arith in
      let on : suc (suc (suc (suc (suc (5 * n))))) ≡ 5 * suc n = omega arith in
      let left : drop (5 * n) rest ≡ drop (5 * suc n) bytes = ap (λ (k : ℕ). drop k bytes) on in
      let first = spelled n rest (i + 1) (due + size) (omega arith) b.1.1.1.1.1 p.1 q.1 r.1 in
      let more = first ∙ (λ j. entries (to j) (map (item_of file) es) ++ left j) in
      (λ j. kind-is j ∷ c1 j ∷ c2 j ∷ c3 j ∷ c4 j ∷ more j)

  -- the bodies fill the file
  pub filled : (es : List Entry) (i due : ℕ) → misplaced i due es ≡ None → length file ≤ end_of due es → drop due file ≡ bodies (map (item_of file) es)
  filled [] i due m h = drop_all due file h
  filled (e ∷ es) i due m h =
      let p = none_passed (eqb e.place due) (spot i) (misplaced (i + 1) (due + e.size) es) m in
      let is-due = sym (eqb-true e.place due p.0) in
      sym (take-append-drop e.size (drop due file))
      ∙ ap (λ (l : List ℕ). take e.size (drop due file) ++ l) (drop-drop e.size due file ∙ filled es (i + 1) (due + e.size) p.1 h)
      ∙ ap (λ (k : ℕ). take e.size (drop k file) ++ bodies (map (item_of file) es)) is-due

-- the first six bytes
pub six_first : (file : List ℕ) → 6 ≤ length file → file ≡ get_or file 0 0 ∷ get_or file 1 0 ∷ get_or file 2 0 ∷ get_or file 3 0 ∷ get_or file 4 0 ∷ get_or file 5 0 ∷ drop 6 file
six_first [] h = absurd (omega arith)
six_first (a ∷ []) h = absurd (omega arith)
six_first (a ∷ b ∷ []) h = absurd (omega arith)
six_first (a ∷ b ∷ c ∷ []) h = absurd (omega arith)
six_first (a ∷ b ∷ c ∷ d ∷ []) h = absurd (omega arith)
six_first (a ∷ b ∷ c ∷ d ∷ e ∷ []) h = absurd (omega arith)
six_first (a ∷ b ∷ c ∷ d ∷ e ∷ f ∷ rest) h = refl
