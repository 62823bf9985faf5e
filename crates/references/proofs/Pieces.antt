-- The pieces that a base and a reference give: what they mean, how long they are, and where their path begins. Assumes nothing.
use Rattle.std.proofs.Common.{◌≡◌, ℕ, suc, ◌+◌, ◌≤◌, Bool, true, false, cond, ◌&&◌, eqb, List, [], ◌∷◌, ◌++◌, length, take, drop, Some, None, codes, Option, sym, refl, ap, ◌∙◌, subst, arith, length-append, length-drop, length-take}
use Rattle.std.proofs.lemmas.Bool.{cond_both, cond-true, false≢true, true≢false}
use Rattle.uri.specs.Cuts.{place, before, behind, holds}
use Rattle.uri.specs.Splits.{Split, split, without_fragment, without_query, has_scheme, behind_scheme, slashes, path}
use Rattle.uri.proofs.Free.{from_is}
use Rattle.references.specs.Paths.{last_from, last_slash, past, directory, without_dots, Absolute}
use Rattle.references.specs.Resolution.{is_there, is_empty, is_rooted, or_else, placed, transformed, scheme_text}
use Rattle.references.specs.Views.{introduced, Pieces, directory_for, chosen, meant, extent}
use Rattle.references.proofs.Walks.{absolute_marked}

-- the two pieces of a path are the path that the reference has
module _ (base : Split) (path : List ℕ) where
  abbrev onto-base : Bool → List ℕ
  onto-base t = cond t (codes "/") (directory base.path)

  joined : (rooted root : Bool) → cond rooted [] (onto-base root) ++ path ≡ cond rooted path (cond root (47 ∷ path) (directory base.path ++ path))
  joined true root = refl
  joined false true = refl
  joined false false = refl

  pub placed_is : directory_for base path ++ path ≡ placed base path
  placed_is = joined (is_rooted path) (is_there base.authority && is_empty base.path)

-- the five cases, by what the reference has
module _ (base ref : Split) where
  abbrev last_case : Pieces
  last_case = record { parts = record { scheme = base.scheme; authority = base.authority; path = ref.path; query = ref.query; fragment = ref.fragment }; directory = directory_for base ref.path; kept = false }

  abbrev kept_case : Pieces
  kept_case = record { parts = record { scheme = base.scheme; authority = base.authority; path = base.path; query = or_else ref.query base.query; fragment = ref.fragment }; directory = []; kept = true }

  abbrev owned_case : Pieces
  owned_case = record { parts = record { scheme = base.scheme; authority = ref.authority; path = ref.path; query = ref.query; fragment = ref.fragment }; directory = []; kept = false }

  abbrev own_case : Pieces
  own_case = record { parts = ref; directory = []; kept = false }

  pub by_case :
      (P : Pieces → Type 0) → (is_there ref.scheme ≡ true → P own_case) → (is_there ref.authority ≡ true → P owned_case)
      → (is_there ref.scheme ≡ false → is_there ref.authority ≡ false → is_empty ref.path ≡ true → P kept_case) → P last_case → P (chosen base ref)
  by_case P a b c d =
      cond_both (is_there ref.scheme) own_case (cond (is_there ref.authority) owned_case (cond (is_empty ref.path) kept_case last_case)) P a
      (λ e. cond_both (is_there ref.authority) owned_case (cond (is_empty ref.path) kept_case last_case) P b
      (λ f. cond_both (is_empty ref.path) kept_case last_case P (c e f) (λ _. d)))

  means :
      (s a e : Bool) → meant (cond s own_case (cond a owned_case (cond e kept_case last_case)))
      ≡ cond s (meant own_case) (cond a (meant owned_case) (cond e (meant kept_case)
      (record { scheme = base.scheme; authority = base.authority; path = without_dots (placed base ref.path); query = ref.query; fragment = ref.fragment })))
  means true a e = refl
  means false true e = refl
  means false false true = refl
  means false false false = ap (λ (p : List ℕ). record { scheme = base.scheme; authority = base.authority; path = without_dots p; query = ref.query; fragment = ref.fragment }) (placed_is base ref.path)

  pub chosen_means : meant (chosen base ref) ≡ transformed base ref
  chosen_means = means (is_there ref.scheme) (is_there ref.authority) (is_empty ref.path)

-- no part of a text is longer than the text
pub record Short (n : ℕ) (p : Split) : Type 0 where
  pub scheme : length (scheme_text p.scheme) ≤ n + 1
  pub authority : length (introduced (codes "//") p.authority) ≤ n + 2
  pub path : length p.path ≤ n
  pub query : length (introduced (codes "?") p.query) ≤ n + 1
  pub fragment : length (introduced (codes "#") p.fragment) ≤ n + 1

scheme-short : (t : Bool) (xs : List ℕ) (n : ℕ) → length xs ≤ n → length (scheme_text (cond t (Some xs) None)) ≤ n + 1
scheme-short true xs n h = omega (arith, length-append xs (58 ∷ []))
scheme-short false xs n h = omega arith

introduced-short : (mark : List ℕ) (t : Bool) (xs : List ℕ) (n : ℕ) → length xs ≤ n → length (introduced mark (cond t (Some xs) None)) ≤ n + length mark
introduced-short mark true xs n h = omega (arith, length-append mark xs)
introduced-short mark false xs n h = omega arith

either_short : (t : Bool) (xs ys : List ℕ) (n : ℕ) → length xs ≤ n → length ys ≤ n → length (cond t xs ys) ≤ n
either_short true xs ys n h k = h
either_short false xs ys n h k = k

take_short : (m : ℕ) (xs : List ℕ) → length (take m xs) ≤ length xs
take_short m xs = omega (arith, length-take m xs)

drop-short : (m : ℕ) (xs : List ℕ) → length (drop m xs) ≤ length xs
drop-short m xs = omega (arith, length-drop m xs)

module _ (text : List ℕ) where
  abbrev front : List ℕ
  front = without_query text

  abbrev rest : List ℕ
  rest = behind_scheme front

  whole-short : length (without_fragment text) ≤ length text
  whole-short = take_short (place 35 text) text

  front_short : length front ≤ length text
  front_short = omega (arith, take_short (place 63 (without_fragment text)) (without_fragment text), whole-short)

  rest_short : length rest ≤ length text
  rest_short = either_short (has_scheme front) (drop (place 58 front + 1) front) front (length text) (omega (arith, drop-short (place 58 front + 1) front, front_short)) front_short

  two-short : length (drop 2 rest) ≤ length text
  two-short = omega (arith, drop-short 2 rest, rest_short)

  pub split-short : Short (length text) (split text)
  split-short =
      record {
        scheme = scheme-short (has_scheme front) (before 58 front) (length text) (omega (arith, take_short (place 58 front) front, front_short));
        authority = introduced-short (codes "//") (slashes rest) (before 47 (drop 2 rest)) (length text) (omega (arith, take_short (place 47 (drop 2 rest)) (drop 2 rest), two-short));
        path = either_short (slashes rest) (drop (place 47 (drop 2 rest)) (drop 2 rest)) rest (length text) (omega (arith, drop-short (place 47 (drop 2 rest)) (drop 2 rest), two-short)) rest_short;
        query = introduced-short (codes "?") (holds 63 (without_fragment text)) (drop (place 63 (without_fragment text) + 1) (without_fragment text)) (length text) (omega (arith, drop-short (place 63 (without_fragment text) + 1) (without_fragment text), whole-short));
        fragment = introduced-short (codes "#") (holds 35 text) (drop (place 35 text + 1) text) (length text) (drop-short (place 35 text + 1) text);
      }

past-short : (o : Option ℕ) (xs : List ℕ) → length (past o xs) ≤ length xs
past-short None xs = omega arith
past-short (Some n) xs = take_short (n + 1) xs

or_else_short : (mark : List ℕ) (n : ℕ) (a b : Option (List ℕ)) → length (introduced mark a) ≤ n → length (introduced mark b) ≤ n → length (introduced mark (or_else a b)) ≤ n
or_else_short mark n None b h k = k
or_else_short mark n (Some x) b h k = h

module _ (base : Split) (path : List ℕ) (n : ℕ) (h : length base.path ≤ n) where
  pub directory-short : length (directory_for base path) ≤ n + 1
  directory-short =
      either_short (is_rooted path) [] (cond (is_there base.authority && is_empty base.path) (codes "/") (directory base.path)) (n + 1) (omega arith)
      (either_short (is_there base.authority && is_empty base.path) (codes "/") (directory base.path) (n + 1) (omega arith) (omega (arith, past-short (last_slash base.path) base.path)))

pub chosen-short : (base ref : Split) → Short 512 base → Short 512 ref → extent (chosen base ref) ≤ 4096
chosen-short base ref b r =
    by_case base ref (λ p. extent p ≤ 4096)
    (λ _. omega (arith, r.scheme, r.authority, r.path, r.query, r.fragment))
    (λ _. omega (arith, b.scheme, r.authority, r.path, r.query, r.fragment))
    (λ _ _ _. omega (arith, b.scheme, b.authority, b.path, or_else_short (codes "?") 513 ref.query base.query r.query b.query, r.fragment))
    (omega (arith, b.scheme, b.authority, directory-short base ref.path 512 b.path, r.path, r.query, r.fragment))

-- behind an authority a path is empty or begins with `/`
abbrev pub Rooted : Split → Type 0
Rooted p = is_there p.authority ≡ true → Absolute p.path

path_rooted : (t : Bool) (rest : List ℕ) → is_there (cond t (Some (before 47 (drop 2 rest))) None) ≡ true → Absolute (cond t (drop (place 47 (drop 2 rest)) (drop 2 rest)) rest)
path_rooted true xs e = subst Absolute (sym (from_is 47 (drop 2 xs))) (absolute_marked (behind 47 (drop 2 xs)))
path_rooted false xs e = absurd (false≢true e)

pub split_rooted : (text : List ℕ) → Rooted (split text)
split_rooted text = path_rooted (slashes (behind_scheme (without_query text))) (behind_scheme (without_query text))

-- behind a `/` there is always a last one
last_there : (m i : ℕ) (xs : List ℕ) → (n : ℕ) × (last_from (Some m) i xs ≡ Some n)
last_there m i [] = (m, refl)
last_there m i (x ∷ xs) =
    cond_both (eqb x 47) (Some i) (Some m) (λ o. (n : ℕ) × (last_from o (i + 1) xs ≡ Some n)) (λ _. last_there i (i + 1) xs) (λ _. last_there m (i + 1) xs)

one_more : (n x : ℕ) (xs : List ℕ) → take (n + 1) (x ∷ xs) ≡ x ∷ take n xs
one_more n x xs = let e : n + 1 ≡ suc n = omega arith in ap (λ (k : ℕ). take k (x ∷ xs)) e

directory-begins : (x : ℕ) (xs : List ℕ) → eqb x 47 ≡ true → (ys : List ℕ) × (directory (x ∷ xs) ≡ x ∷ ys)
directory-begins x xs e =
    let (n, is) = last_there 0 (0 + 1) xs in (
      take n xs,
      ap (λ (o : Option ℕ). past (last_from o (0 + 1) xs) (x ∷ xs)) (cond-true (eqb x 47) (Some 0) None e) ∙ ap (λ (o : Option ℕ). past o (x ∷ xs)) is ∙ one_more n x xs,
    )

directory_absolute : (p path : List ℕ) → is_empty p ≡ false → Absolute p → Absolute (directory p ++ path)
directory_absolute [] path e a = absurd (true≢false e)
directory_absolute (x ∷ xs) path e a = let (ys, is) = directory-begins x xs a in subst (λ (l : List ℕ). Absolute (l ++ path)) (sym is) a

rooted_absolute : (path : List ℕ) → is_rooted path ≡ true → Absolute path
rooted_absolute [] e = tt
rooted_absolute (x ∷ xs) e = e

second_false : (a b : Bool) → a ≡ true → (a && b) ≡ false → b ≡ false
second_false true b e f = f
second_false false b e f = absurd (false≢true e)

pub placed_absolute : (base : Split) (path : List ℕ) → is_there base.authority ≡ true → Absolute base.path → Absolute (directory_for base path ++ path)
placed_absolute base path there a =
    cond_both (is_rooted path) [] (cond (is_there base.authority && is_empty base.path) (codes "/") (directory base.path)) (λ d. Absolute (d ++ path)) (rooted_absolute path)
    (λ _. cond_both (is_there base.authority && is_empty base.path) (codes "/") (directory base.path) (λ d. Absolute (d ++ path)) (λ _. refl)
    (λ e. directory_absolute base.path path (second_false (is_there base.authority) (is_empty base.path) there e) a))

pub chosen_rooted : (base ref : Split) → Rooted base → Rooted ref → is_there (chosen base ref).parts.authority ≡ true → (chosen base ref).kept ≡ false → Absolute ((chosen base ref).directory ++ (chosen base ref).parts.path)
chosen_rooted base ref b r =
    by_case base ref (λ p. is_there p.parts.authority ≡ true → p.kept ≡ false → Absolute (p.directory ++ p.parts.path))
    (λ _ there k. r there)
    (λ _ there k. r there)
    (λ _ _ _ there k. absurd (true≢false k))
    (λ there k. placed_absolute base ref.path there (b there))
