-- A path that is walked segment by segment has no dot segment, and one that has none stays as it is. Assumes nothing.
use Rattle.std.proofs.Common.{◌≡◌, ℕ, ◌+◌, Bool, true, false, eqb, List, [], ◌∷◌, ◌++◌, length, Some, None, codes, Option, sym, refl, ap, ◌∙◌, subst, ⊎_elim, append_assoc, append-nil, arith}
use Rattle.std.proofs.ByRecursion.{All-push}
use Rattle.std.proofs.lemmas.Slice.Eq.{bytes_eq-Decides}
use Rattle.std.proofs.lemmas.List.{take_at}
use Rattle.std.proofs.lemmas.Bool.{cond-false, eqb-true, cases_Bool}
use Rattle.std.specs.List.{AllByRecursion}
use Rattle.std.specs.Str.{bytes_eq}
use Rattle.uri.specs.Cuts.{before, behind, onto, parts, further, led, joined_by}
use Rattle.uri.proofs.Free.{Free, free_join, before_of_free, behind_of_free, free_take}
use Rattle.uri.proofs.Pieces.{parts-marked, parts_are}
use Rattle.references.specs.declared.segment.Segment.{Segment}
use Rattle.references.specs.declared.segment.Segment.TheVariants.{Here, Above, Plain}
use Rattle.references.specs.Laws.{Named, NoDots}
use Rattle.references.specs.Paths.{last_slash, up_to, parent, segment_of, ending, moved, walked, without_dots, Absolute}
use Rattle.references.specs.Views.{ahead}
use Rattle.references.proofs.Walks.{last_at, walked-first}

-- the last `/` of a path is the one before its last segment
parent_is : (out : List ℕ) {s : List ℕ} → Free 47 s → parent (out ++ 47 ∷ s) ≡ out
parent_is out {s} f = ap (λ (o : Option ℕ). up_to o (out ++ 47 ∷ s)) (last_at None 0 out f) ∙ take_at out (47 ∷ s) (0 + length out) (omega arith)

-- a path of segments none of which is a dot segment, each with a `/` before it
pub data Walk : List ℕ → Type 0 where
  root : Walk []
  down : {out s : List ℕ} → Walk out → Free 47 s → segment_of s ≡ Plain → Walk (out ++ 47 ∷ s)

parent_walk : {out : List ℕ} → Walk out → Walk (parent out)
parent_walk Walk.root = Walk.root
parent_walk (Walk.down {out} w f e) = subst Walk (sym (parent_is out f)) w

ending_walk : {out : List ℕ} (ss : List (List ℕ)) → Walk out → Walk (ending out ss)
ending_walk [] w = Walk.down w Free.none refl
ending_walk (s ∷ ss) w = w

moved_walk : {out : List ℕ} (s : List ℕ) (ss : List (List ℕ)) (kind : Segment) → segment_of s ≡ kind → Free 47 s → Walk out → Walk (moved kind out s ss)
moved_walk s ss Here e f w = ending_walk ss w
moved_walk s ss Above e f w = ending_walk ss (parent_walk w)
moved_walk s ss Plain e f w = Walk.down w f e

walked_walk : (ss : List (List ℕ)) {out : List ℕ} → AllByRecursion (Free 47) ss → Walk out → Walk (walked out ss)
walked_walk [] h w = w
walked_walk (s ∷ ss) h w = walked_walk ss h.1 (moved_walk s ss (segment_of s) refl h.0 w)

-- the parts of a text that is cut at each b hold no b
onto_free : (b x : ℕ) (t : Bool) → (t ≡ false → eqb x b ≡ false) → (ps : List (List ℕ)) → AllByRecursion (Free b) ps → AllByRecursion (Free b) (onto x t ps)
onto_free b x true e ps h = (Free.none, h)
onto_free b x false e [] h = (Free.more (e refl) Free.none, tt)
onto_free b x false e (p ∷ ps) h = (Free.more (e refl) h.0, h.1)

pub parts_free : (b : ℕ) (text : List ℕ) → AllByRecursion (Free b) (parts b text)
parts_free b [] = (Free.none, tt)
parts_free b (x ∷ xs) = onto_free b x (eqb x b) (λ e. e) (parts b xs) (parts_free b xs)

pub ahead_free : (text : List ℕ) → AllByRecursion (Free 47) (ahead text)
ahead_free [] = tt
ahead_free (x ∷ xs) = parts_free 47 xs

pub without_walk : (path : List ℕ) → Absolute path → Walk (without_dots path)
without_walk path a = subst Walk (walked-first path a) (walked_walk (ahead path) (ahead_free path) Walk.root)

absolute_join : (xs ys : List ℕ) → Absolute xs → Absolute (xs ++ 47 ∷ ys)
absolute_join [] ys a = refl
absolute_join (x ∷ xs) ys a = a

pub walk_absolute : {out : List ℕ} → Walk out → Absolute out
walk_absolute Walk.root = tt
walk_absolute (Walk.down {out} {s} w f e) = absolute_join out s (walk_absolute w)

-- one segment more is one part more
onto_push : (x : ℕ) (t : Bool) (p : List ℕ) (ps : List (List ℕ)) (s : List ℕ) → onto x t (p ∷ (ps ++ s ∷ [])) ≡ onto x t (p ∷ ps) ++ s ∷ []
onto_push x true p ps s = refl
onto_push x false p ps s = refl

parts_down : (b : ℕ) (out : List ℕ) {s : List ℕ} → Free b s → parts b (out ++ b ∷ s) ≡ parts b out ++ s ∷ []
parts_down b [] {s} f =
    parts-marked Free.none (Some s)
    ∙ ap (λ (ps : List (List ℕ)). [] ∷ ps) (parts_are b s)
    ∙ ap (λ (p : List ℕ). [] ∷ p ∷ further b (behind b s)) (before_of_free f)
    ∙ ap (λ (o : Option (List ℕ)). [] ∷ s ∷ further b o) (behind_of_free f)
parts_down b (x ∷ out) {s} f =
    ap (onto x (eqb x b)) (parts_down b out f)
    ∙ ap (λ (ps : List (List ℕ)). onto x (eqb x b) (ps ++ s ∷ [])) (parts_are b out)
    ∙ onto_push x (eqb x b) (before b out) (further b (behind b out)) s
    ∙ ap (λ (ps : List (List ℕ)). onto x (eqb x b) ps ++ s ∷ []) (sym (parts_are b out))

pub named_from : (s : List ℕ) → segment_of s ≡ Plain → Named s
named_from s e = (λ is. let f : Here ≡ Plain = ap segment_of (sym is) ∙ e in cc, λ is. let f : Above ≡ Plain = ap segment_of (sym is) ∙ e in cc)

pub walk_named : {out : List ℕ} → Walk out → NoDots out
walk_named Walk.root = (named_from [] refl, tt)
walk_named (Walk.down {out} {s} w f e) = subst (AllByRecursion Named) (sym (parts_down 47 out f)) (All-push Named (parts 47 out) s (walk_named w) (named_from s e))

-- the other way round: a path without dot segments
other : (xs ys : List ℕ) → (xs ≡ ys → ⊥) → bytes_eq xs ys ≡ false
other xs ys off = ⊎_elim (λ e. absurd (off ((bytes_eq-Decides xs ys).0 e))) (λ e. e) (cases_Bool (bytes_eq xs ys))

pub plain_from : (s : List ℕ) → Named s → segment_of s ≡ Plain
plain_from s n = cond-false (bytes_eq s (codes ".")) Here _ (other s (codes ".") n.0) ∙ cond-false (bytes_eq s (codes "..")) Above Plain (other s (codes "..") n.1)

walked-plain : (out : List ℕ) (ss : List (List ℕ)) → AllByRecursion Named ss → walked out ss ≡ out ++ led 47 ss
walked-plain out [] n = sym (append-nil out)
walked-plain out (s ∷ ss) n =
    ap (λ (kind : Segment). walked (moved kind out s ss) ss) (plain_from s n.0) ∙ walked-plain (out ++ 47 ∷ s) ss n.1 ∙ append_assoc out (47 ∷ s) (led 47 ss)

joined_onto : (b x : ℕ) (t : Bool) → eqb x b ≡ t → (p : List ℕ) (ps : List (List ℕ)) → joined_by b (onto x t (p ∷ ps)) ≡ x ∷ joined_by b (p ∷ ps)
joined_onto b x true e p ps = ap (λ (y : ℕ). y ∷ (p ++ led b ps)) (sym (eqb-true x b e))
joined_onto b x false e p ps = refl

-- the parts of a text, joined again, are the text
pub joined_parts : (b : ℕ) (text : List ℕ) → joined_by b (parts b text) ≡ text
joined_parts b [] = refl
joined_parts b (x ∷ xs) =
    ap (λ (ps : List (List ℕ)). joined_by b (onto x (eqb x b) ps)) (parts_are b xs)
    ∙ joined_onto b x (eqb x b) refl (before b xs) (further b (behind b xs))
    ∙ ap (λ (ps : List (List ℕ)). x ∷ joined_by b ps) (sym (parts_are b xs))
    ∙ ap (λ (ys : List ℕ). x ∷ ys) (joined_parts b xs)

pub led-parts : (b : ℕ) (text : List ℕ) → led b (parts b text) ≡ b ∷ text
led-parts b text =
    ap (led b) (parts_are b text) ∙ ap (λ (ps : List (List ℕ)). b ∷ joined_by b ps) (sym (parts_are b text)) ∙ ap (λ (ys : List ℕ). b ∷ ys) (joined_parts b text)

pub without_same : (path : List ℕ) → Absolute path → NoDots path → without_dots path ≡ path
without_same [] a n = refl
without_same (x ∷ xs) a n =
    let names : AllByRecursion Named ([] ∷ parts 47 xs) = subst (λ (t : Bool). AllByRecursion Named (onto x t (parts 47 xs))) a n in
    sym (walked-first (x ∷ xs) a) ∙ walked-plain [] (parts 47 xs) names.1 ∙ led-parts 47 xs ∙ ap (λ (y : ℕ). y ∷ xs) (sym (eqb-true x 47 a))

-- a byte other than `/` that a path does not hold
module _ (b : ℕ) (off : eqb 47 b ≡ false) where
  parts_keep : {text : List ℕ} → Free b text → AllByRecursion (Free b) (parts 47 text)
  parts_keep Free.none = (Free.none, tt)
  parts_keep (Free.more {x} {xs} e f) = onto_free b x (eqb x 47) (λ _. e) (parts 47 xs) (parts_keep f)

  ahead_keeps : {text : List ℕ} → Free b text → AllByRecursion (Free b) (ahead text)
  ahead_keeps Free.none = tt
  ahead_keeps (Free.more e f) = parts_keep f

  up_keeps : (o : Option ℕ) {xs : List ℕ} → Free b xs → Free b (up_to o xs)
  up_keeps None f = Free.none
  up_keeps (Some n) f = free_take n f

  ending_keeps : (ss : List (List ℕ)) {out : List ℕ} → Free b out → Free b (ending out ss)
  ending_keeps [] f = free_join f (Free.more off Free.none)
  ending_keeps (s ∷ ss) f = f

  moved_keeps : (kind : Segment) (ss : List (List ℕ)) {out s : List ℕ} → Free b out → Free b s → Free b (moved kind out s ss)
  moved_keeps Here ss f g = ending_keeps ss f
  moved_keeps Above ss {out} f g = ending_keeps ss (up_keeps (last_slash out) f)
  moved_keeps Plain ss f g = free_join f (Free.more off g)

  walked_keeps : (ss : List (List ℕ)) {out : List ℕ} → AllByRecursion (Free b) ss → Free b out → Free b (walked out ss)
  walked_keeps [] h f = f
  walked_keeps (s ∷ ss) h f = walked_keeps ss h.1 (moved_keeps (segment_of s) ss f h.0)

  pub without_keeps : {path : List ℕ} → Absolute path → Free b path → Free b (without_dots path)
  without_keeps {path} a f = subst (Free b) (walked-first path a) (walked_keeps (ahead path) (ahead_keeps f) Free.none)
