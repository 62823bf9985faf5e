-- The lines of a playlist, one by one. Assumes nothing.
use Rattle.std.proofs.Common.{◌≡◌, ℕ, ◌+◌, ◌-◌, ◌<◌, ◌≤◌, Bool, true, false, cond, ◌&&◌, ltb, leb, List, [], ◌∷◌, length, take, drop, Some, None, sym, refl, ap, ◌∙◌, ⊎_elim, arith, length-take}
use Rattle.std.proofs.lemmas.List.{drop-drop, length-drop}
use Rattle.std.proofs.lemmas.Bool.{cond-true, cond-false, le-leb, lt-leb, ltb-true, ltb-false, cases_Bool}
use Rattle.uri.specs.Cuts.{place, before, holds, parts, further}
use Rattle.uri.proofs.Places.{place-within}
use Rattle.uri.proofs.Pieces.{parts_are}
use Rattle.tags.specs.declared.kind.Kind.{Kind}
use Rattle.tags.specs.Lines.{kind_of, now_waits, ends_in_return, trimmed, Row, row_of, is_more, rows, rows_at, Shown, shown_at, line_at}

abbrev pub written : Kind → ℕ → List ℕ → Row
written kind at text = record { kind = kind; place = at; text = text }

abbrev pub displayed : Row → ℕ → Bool → Shown
displayed row next waits = record { row = row; next = next; waits = waits }

pub length_before : (b : ℕ) (text : List ℕ) → length (before b text) ≡ place b text
length_before b text = omega (arith, length-take (place b text) text, place-within b text)

is_more_lem : (b : ℕ) (text : List ℕ) → is_more (parts b text) ≡ true
is_more_lem b text = ap is_more (parts_are b text)

module _ (text : List ℕ) (at : ℕ) (waits : Bool) (within : at ≤ length text) where
  abbrev rest : List ℕ
  rest = drop at text

  abbrev line : List ℕ
  line = trimmed (holds 10 rest) (before 10 rest)

  abbrev later : Bool
  later = now_waits waits (kind_of waits line)

  abbrev next : ℕ
  next = at + place 10 rest + 1

  abbrev wait : Bool → Bool
  wait ended = now_waits waits (kind_of waits (trimmed ended (before 10 rest)))

  -- the line, where it is the last one or not
  split : (ended : Bool) → holds 10 rest ≡ ended
      → rows at waits (before 10 rest ∷ further 10 (cond ended (Some (drop (place 10 rest + 1) rest)) None))
      ≡ row_of at waits (trimmed ended (before 10 rest)) ∷ rows_at next (wait ended) text
  split true e =
      ap (λ (more : Bool). row_of at waits (trimmed more (before 10 rest)) ∷ rows (at + length (before 10 rest) + 1) (now_waits waits (kind_of waits (trimmed more (before 10 rest)))) (parts 10 (drop (place 10 rest + 1) rest)))
      (is_more_lem 10 (drop (place 10 rest + 1) rest))
      ∙ ap (λ (l : List Row). row_of at waits (trimmed true (before 10 rest)) ∷ l) (
      ap (λ (n : ℕ). rows (at + n + 1) (wait true) (parts 10 (drop (place 10 rest + 1) rest))) (length_before 10 rest)
      ∙ ap (λ (l : List ℕ). rows next (wait true) (parts 10 l)) (drop-drop (place 10 rest + 1) at text ∙ ap (λ (n : ℕ). drop n text) (omega arith))
      ∙ sym (cond-true (leb next (length text)) (rows next (wait true) (parts 10 (drop next text))) [] (le-leb next (length text) inside))
      )
    where
      inside : next ≤ length text
      inside = omega (arith, ltb-true (place 10 rest) (length rest) e, length-drop at text)
  split false e =
      ap (λ (l : List Row). row_of at waits (trimmed false (before 10 rest)) ∷ l)
      (sym (cond-false (leb next (length text)) (rows next (wait false) (parts 10 (drop next text))) [] (lt-leb next (length text) beyond)))
    where
      beyond : length text < next
      beyond = omega (arith, ltb-false (place 10 rest) (length rest) e, length-drop at text)

  pub row_first : rows_at at waits text ≡ row_of at waits line ∷ rows_at next later text
  row_first =
      cond-true (leb at (length text)) (rows at waits (parts 10 rest)) [] (le-leb at (length text) within)
      ∙ ap (rows at waits) (parts_are 10 rest)
      ∙ split (holds 10 rest) refl

  -- the line from its length
  line_found : (n : ℕ) → n ≡ place 10 rest → trimmed (ltb n (length rest)) (take (n - 0) rest) ≡ line
  line_found n e =
      let same : n - 0 ≡ place 10 rest = omega arith in
      ap (λ (m : ℕ). trimmed (ltb m (length rest)) (take (n - 0) rest)) e ∙ ap (λ (m : ℕ). trimmed (holds 10 rest) (take m rest)) same

  next-within : next ≤ length text + 1
  next-within = omega (arith, place-within 10 rest, length-drop at text)

  trimmed-within : (ended : Bool) (l : List ℕ) → length (trimmed ended l) ≤ length l
  trimmed-within ended l = ⊎_elim
      (λ e. omega (arith, ap length (cond-true (ended && ends_in_return l) (take (length l - 1) l) l e), length-take (length l - 1) l))
      (λ e. omega (arith, ap length (cond-false (ended && ends_in_return l) (take (length l - 1) l) l e)))
      (cases_Bool (ended && ends_in_return l))

  line_within : at + length line ≤ length text
  line_within = omega (arith, trimmed-within (holds 10 rest) (before 10 rest), length_before 10 rest, place-within 10 rest, length-drop at text)

  -- what the code found there
  module _ (found : List ℕ) (kind : Kind) (n : ℕ) (w : Bool) (is : found ≡ line) (sort : kind ≡ kind_of waits found) (long : n ≡ place 10 rest)
      (turn : w ≡ now_waits waits kind) where
    same_kind : kind ≡ kind_of waits line
    same_kind = sort ∙ ap (kind_of waits) is

    same_turn : w ≡ later
    same_turn = turn ∙ ap (now_waits waits) same_kind

    same_row : written kind at found ≡ row_of at waits line
    same_row = ap (λ (k : Kind). written k at found) same_kind ∙ ap (λ (l : List ℕ). written (kind_of waits line) at l) is

    row_step : rows_at at waits text ≡ written kind at found ∷ rows_at (at + n + 1) w text
    row_step =
        row_first
        ∙ ap (λ (r : Row). r ∷ rows_at next later text) (sym same_row)
        ∙ ap (λ (m : ℕ). written kind at found ∷ rows_at (at + m + 1) later text) (sym long)
        ∙ ap (λ (v : Bool). written kind at found ∷ rows_at (at + n + 1) v text) (sym same_turn)

    row-shown : Some (displayed (written kind at found) (at + n + 1) w) ≡ line_at at waits text
    row-shown =
        ap (λ (r : Row). Some (displayed r (at + n + 1) w)) same_row
        ∙ ap (λ (m : ℕ). Some (displayed (row_of at waits line) (at + m + 1) w)) (long ∙ sym (length_before 10 rest))
        ∙ ap (λ (v : Bool). Some (displayed (row_of at waits line) (at + length (before 10 rest) + 1) v)) same_turn
        ∙ sym (cond-true (leb at (length text)) (Some (shown_at at waits rest)) None (le-leb at (length text) within))

  pub line_read :
      (back found : List ℕ) (kind : Kind) (n : ℕ) (w : Bool) → back ≡ rest → n ≡ place 10 back → found ≡ trimmed (ltb n (length back)) (take (n - 0) back)
      → kind ≡ kind_of waits found → w ≡ now_waits waits kind
      → (Some (displayed (written kind at found) (at + n + 1) w) ≡ line_at at waits text)
      × (rows_at at waits text ≡ written kind at found ∷ rows_at (at + n + 1) w text)
      × ((at < at + n + 1) × (at + n + 1 ≤ length text + 1))
      × (at + length found ≤ length text)
  line_read back found kind n w b long f sort turn =
      let there : n ≡ place 10 rest = long ∙ ap (place 10) b in
      let is : found ≡ line = f ∙ ap (λ (l : List ℕ). trimmed (ltb n (length l)) (take (n - 0) l)) b ∙ line_found n there in
      (row-shown found kind n w is sort there turn, row_step found kind n w is sort there turn, (omega arith, omega (arith, there, next-within)), omega (arith, ap length is, line_within))
