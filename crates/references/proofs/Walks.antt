-- A path without its dot segments, segment by segment, and its last `/`, byte by byte. Assumes nothing.
use Rattle.std.proofs.Common.{◌≡◌, ℕ, suc, ◌+◌, ◌-◌, ◌<◌, ◌≤◌, Bool, cond, eqb, List, [], ◌∷◌, ◌++◌, length, get_or, take, drop, Some, None, Option, sym, refl, ap, ◌∙◌, subst, arith, length-drop, length-take}
use lib.Seq.{paste}
use Rattle.std.proofs.lemmas.List.Edits.{take-paste, drop-paste}
use Rattle.std.proofs.lemmas.List.{length-take-le, take-append-drop, get_or-drop, at_drop_more, at_drop_all, take_rest, drop_more, drop-drop}
use Rattle.std.proofs.lemmas.Bool.{cond-false, ne_eqb, eqb-true}
use Rattle.std.specs.Option.{MatchOption}
use Rattle.references.specs.declared.segment.Segment.{Segment}
use Rattle.references.specs.declared.segment.Segment.TheVariants.{Plain}
use Rattle.uri.specs.Cuts.{place, behind, marked, onto, parts, further}
use Rattle.uri.proofs.Free.{Free, from_is}
use Rattle.uri.proofs.Pieces.{parts_are}
use Rattle.references.specs.Paths.{last_from, last_slash, ending, moved, segment_of, walked, opening, without_dots, Absolute}
use Rattle.references.specs.Views.{ahead}

-- no byte of the text is `/`
abbrev pub NoSlash : List ℕ → Type 0
NoSlash text = (k : ℕ) → k < length text → get_or text k 0 ≡ 47 → ⊥

-- a `/` stands there, and none behind it
abbrev pub Last : List ℕ → ℕ → Type 0
Last text n = (n < length text) × (get_or text n 0 ≡ 47) × ((k : ℕ) → n < k → k < length text → get_or text k 0 ≡ 47 → ⊥)

free_of : (text : List ℕ) → NoSlash text → Free 47 text
free_of [] none = Free.none
free_of (x ∷ xs) none = Free.more (ne_eqb x 47 (none 0 (omega arith))) (free_of xs (λ k h. none (suc k) (omega arith)))

cut_last : (text : List ℕ) (n : ℕ) → n < length text → get_or text n 0 ≡ 47 → text ≡ take n text ++ 47 ∷ drop (n + 1) text
cut_last text n h e = sym (take-append-drop n text) ∙ ap (λ (l : List ℕ). take n text ++ l) (drop_more text n 0 h ∙ ap (λ (x : ℕ). x ∷ drop (n + 1) text) e)

-- the last `/` of a path is the one before its last segment
pub last_free : (found : Option ℕ) (i : ℕ) {s : List ℕ} → Free 47 s → last_from found i s ≡ found
last_free found i Free.none = refl
last_free found i (Free.more {x} {xs} e f) = ap (λ (o : Option ℕ). last_from o (i + 1) xs) (cond-false (eqb x 47) (Some i) found e) ∙ last_free found (i + 1) f

pub last_at : (found : Option ℕ) (i : ℕ) (out : List ℕ) {s : List ℕ} → Free 47 s → last_from found i (out ++ 47 ∷ s) ≡ Some (i + length out)
last_at found i [] f = let same : i ≡ i + 0 = omega arith in last_free (Some i) (i + 1) f ∙ ap Some same
last_at found i (x ∷ out) f =
    let same : i + 1 + length out ≡ i + suc (length out) = omega arith in
    last_at (cond (eqb x 47) (Some i) found) (i + 1) out f ∙ ap Some same

-- the place that a search from the back found
pub last_is : (text : List ℕ) (o : Option ℕ) → MatchOption o (NoSlash text) (Last text) → o ≡ last_slash text
last_is text None none = sym (last_free None 0 (free_of text none))
last_is text (Some n) last =
    let behind : Free 47 (drop (n + 1) text) =
    free_of (drop (n + 1) text) (λ k h e. last.2 (n + 1 + k) (omega arith) (omega (arith, length-drop (n + 1) text)) (sym (get_or-drop (n + 1) text k 0) ∙ e)) in
    sym (ap last_slash (cut_last text n last.0 last.1) ∙ last_at None 0 (take n text) behind ∙ ap Some (omega (arith, length-take-le n text)))

-- behind a dot segment that ends at `to`
module _ (text out : List ℕ) (to : ℕ) where
  pub ending_first : to < length text → out ≡ ending out (ahead (drop to text))
  ending_first h =
      sym (at_drop_more (λ (rest : List ℕ). ending out (ahead rest)) text to 0 h
      ∙ ap (ending out) (parts_are 47 (drop (to + 1) text)))

  pub ending_last : length text ≤ to → out ++ 47 ∷ [] ≡ ending out (ahead (drop to text))
  ending_last h = sym (at_drop_all (λ (rest : List ℕ). ending out (ahead rest)) text to h)

-- any other segment, which is moved with its `/` to the end of the path so far
module _ (text : List ℕ) (written read to : ℕ) (behind' : written ≤ read) (some : read < to) (within : to ≤ length text) where
  abbrev after : List ℕ
  after = paste text written (drop read text) (to - read)

  room : to - read ≤ length (drop read text)
  room = omega (arith, length-drop read text)

  pub plain_moved :
      (now s : List ℕ) (ss : List (List ℕ)) → now ≡ after → s ≡ take (to - (read + 1)) (drop (read + 1) text) → get_or text read 0 ≡ 47 → Plain ≡ segment_of s
      → take (written + (to - read)) now ≡ moved (segment_of s) (take written text) s ss
  plain_moved now s ss e f slash is =
      let count : to - read ≡ suc (to - (read + 1)) = omega arith in
      ap (take (written + (to - read))) e
      ∙ take-paste text written (drop read text) (to - read) (omega arith) room
      ∙ ap (λ (xs : List ℕ). take written text ++ take (to - read) xs) (drop_more text read 0 (omega arith) ∙ ap (λ (x : ℕ). x ∷ drop (read + 1) text) slash)
      ∙ ap (λ (n : ℕ). take written text ++ take n (47 ∷ drop (read + 1) text)) count
      ∙ ap (λ (xs : List ℕ). take written text ++ 47 ∷ xs) (sym f)
      ∙ ap (λ (kind : Segment). moved kind (take written text) s ss) is

  pub plain_rest : (now : List ℕ) → now ≡ after → drop to now ≡ drop to text
  plain_rest now e =
      let same : to ≡ written + (to - read) + (read - written) = omega arith in
      ap (drop to) e
      ∙ ap (λ (n : ℕ). drop n after) same
      ∙ sym (drop-drop (read - written) (written + (to - read)) after)
      ∙ ap (drop (read - written)) (drop-paste text written (drop read text) (to - read) (omega arith) room)
      ∙ drop-drop (read - written) (written + (to - read)) text
      ∙ ap (λ (n : ℕ). drop n text) (sym same)

pub ahead-marked : (o : Option (List ℕ)) → ahead (marked 47 o) ≡ further 47 o
ahead-marked None = refl
ahead-marked (Some rest) = refl

pub absolute_marked : (o : Option (List ℕ)) → Absolute (marked 47 o)
absolute_marked None = tt
absolute_marked (Some rest) = refl

-- the segment at a `/`, which ends `p` bytes behind it, and those behind that
module _ (text : List ℕ) (read p : ℕ) (h : read < length text) (is : p ≡ place 47 (take (length text - (read + 1)) (drop (read + 1) text))) where
  abbrev rest : List ℕ
  rest = drop (read + 1) text

  abbrev segment : List ℕ
  segment = take (read + 1 + p - (read + 1)) rest

  place_is : p ≡ place 47 rest
  place_is = is ∙ ap (place 47) (take_rest text (read + 1))

  tail_is : drop (read + 1 + p) text ≡ marked 47 (behind 47 rest)
  tail_is = sym (drop-drop p (read + 1) text) ∙ ap (λ (n : ℕ). drop n rest) place_is ∙ from_is 47 rest

  pub segment_within : p ≤ length (take (length text - (read + 1)) (drop (read + 1) text)) → read + 1 + p ≤ length text
  segment_within k = omega (arith, length-take (length text - (read + 1)) rest, length-drop (read + 1) text)

  pub tail_absolute : Absolute (drop (read + 1 + p) text)
  tail_absolute = subst Absolute (sym tail_is) (absolute_marked (behind 47 rest))

  ahead_is : ahead (drop read text) ≡ segment ∷ ahead (drop (read + 1 + p) text)
  ahead_is =
      at_drop_more ahead text read 0 h
      ∙ parts_are 47 rest
      ∙ ap (λ (n : ℕ). take n rest ∷ further 47 (behind 47 rest)) (sym place_is ∙ omega arith)
      ∙ ap (λ (ss : List (List ℕ)). segment ∷ ss) (sym (ap ahead tail_is ∙ ahead-marked (behind 47 rest)))

  -- one segment more is walked, and left the text so
  pub walked_on :
      (out all now : List ℕ) (r : ℕ) → walked out (ahead (drop read text)) ≡ all → take r now ≡ moved (segment_of segment) out segment (ahead (drop (read + 1 + p) text))
      → drop (read + 1 + p) now ≡ drop (read + 1 + p) text → walked (take r now) (ahead (drop (read + 1 + p) now)) ≡ all
  walked_on out all now r before' value same =
      ap (λ (xs : List ℕ). walked xs (ahead (drop (read + 1 + p) now))) value
      ∙ ap (λ (xs : List ℕ). walked (moved (segment_of segment) out segment (ahead (drop (read + 1 + p) text))) (ahead xs)) same
      ∙ sym (ap (walked out) ahead_is)
      ∙ before'

pub slash_at : (text : List ℕ) (i : ℕ) → i < length text → Absolute (drop i text) → get_or text i 0 ≡ 47
slash_at text i h a = eqb-true (get_or text i 0) 47 (subst Absolute (drop_more text i 0 h) a)

pub walked-first : (text : List ℕ) → Absolute text → walked [] (ahead text) ≡ without_dots text
walked-first [] a = refl
walked-first (x ∷ xs) a = ap (λ (t : Bool). opening (onto x t (parts 47 xs))) (sym a)

pub walked_last : (text out : List ℕ) (i : ℕ) → length text ≤ i → walked out (ahead (drop i text)) ≡ out
walked_last text out i h = at_drop_all (λ (rest : List ℕ). walked out (ahead rest)) text i h
