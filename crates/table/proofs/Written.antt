-- The entries and the bodies of a file that was written. Assumes nothing.
use Rattle.std.proofs.Common.{◌≡◌, ℕ, ◌+◌, ◌*◌, ◌/◌, ◌%◌, List, [], ◌∷◌, ◌++◌, length, take, drop, sym, refl, ap, ◌∙◌, arith}
use Rattle.std.proofs.lemmas.Nat.{div-add-mod'}
use Rattle.std.proofs.lemmas.List.{drop_at, take_at, drop-drop, length-append}
use Rattle.pathways.specs.declared.dialect.Dialect.{Dialect}
use Rattle.pathways.specs.declared.dialect.Dialect.TheVariants.{Hls, Dash}
use Rattle.table.specs.declared.kind.Kind.{Kind}
use Rattle.table.specs.declared.kind.Kind.TheVariants.{Steering, Id, Member, Unknown}
use Rattle.table.specs.declared.entry.Entry.{Entry}
use Rattle.table.specs.Contents.{pair, kind_of, dialect_of, count_of, spot, entries_of, contents}
use Rattle.table.specs.Format.{Item, code, dialect_code, two, entries, bodies, laid}

-- the entries of items whose first body stands at `at`
abbrev pub entries_for : ℕ → List Item → List Entry
entries_for at [] = []
entries_for at (x ∷ xs) = record { kind = x.kind; place = at; size = length x.body } ∷ entries_for (at + length x.body) xs

kind_read : (k : Kind) → kind_of (code k) ≡ k
kind_read Steering = refl
kind_read Id = refl
kind_read Member = refl
kind_read Unknown = refl

pair_read : (n : ℕ) → pair (n / 256) (n % 256) ≡ n
pair_read n = div-add-mod' n 256

pub dialect_read : (d : Dialect) (xs : List Item) → dialect_of (laid d xs) ≡ d
dialect_read Hls xs = refl
dialect_read Dash xs = refl

entries_read : (at : ℕ) (xs : List Item) (rest : List ℕ) → entries_of (length xs) (entries at xs ++ rest) ≡ entries_for at xs
entries_read at [] rest = refl
entries_read at (x ∷ xs) rest =
    let k = kind_read x.kind in
    let p = pair_read at in
    let s = pair_read (length x.body) in
    let more = entries_read (at + length x.body) xs rest in
    (λ j. record { kind = k j; place = p j; size = s j } ∷ more j)

pub length-written : (at : ℕ) (xs : List Item) → length (entries at xs) ≡ 5 * length xs
length-written at [] = refl
length-written at (x ∷ xs) = omega (arith, length-written (at + length x.body) xs)

module _ (d : Dialect) (xs : List Item) where
  abbrev front : List ℕ
  front = 83 ∷ 84 ∷ 1 ∷ dialect_code d ∷ (two (length xs) ++ entries (spot (length xs)) xs)

  length_front : length front ≡ spot (length xs)
  length_front = omega (arith, length-written (spot (length xs)) xs)

  pub count_read : count_of (laid d xs) ≡ length xs
  count_read = pair_read (length xs)

  pub contents_read : contents (laid d xs) ≡ entries_for (spot (length xs)) xs
  contents_read =
      ap (λ (n : ℕ). entries_of n (entries (spot (length xs)) xs ++ bodies xs)) count_read
      ∙ entries_read (spot (length xs)) xs (bodies xs)

  pub bodies_read : drop (spot (length xs)) (laid d xs) ≡ bodies xs
  bodies_read = drop_at front (bodies xs) (spot (length xs)) length_front

  pub length-laid : length (laid d xs) ≡ spot (length xs) + length (bodies xs)
  length-laid = length-append front (bodies xs) ∙ ap (λ (n : ℕ). n + length (bodies xs)) length_front

-- a body that stands at `at`, and what stands behind it
module _ (file : List ℕ) (at : ℕ) (body rest : List ℕ) (here : drop at file ≡ body ++ rest) where
  pub body_read : take (length body) (drop at file) ≡ body
  body_read = ap (take (length body)) here ∙ take_at body rest (length body) refl

  pub behind : drop (at + length body) file ≡ rest
  behind = sym (drop-drop (length body) at file) ∙ ap (drop (length body)) here ∙ drop_at body rest (length body) refl
