-- The format of a service table, by what is written for a description. Assumes nothing.
use Rattle.std.specs.Prelude.{◌≡◌, ℕ, ◌+◌, ◌*◌, ◌/◌, ◌%◌, ◌<◌, ◌≤◌, true, List, [], ◌∷◌, ◌++◌, map, length}
use Rattle.std.specs.List.{flat_map, AllByRecursion}
use Rattle.uri.specs.Legal.{legal}
use Rattle.uri.specs.Splits.{without_fragment}
use Rattle.pathways.specs.declared.dialect.Dialect.{Dialect}
use Rattle.pathways.specs.declared.dialect.Dialect.TheVariants.{Hls, Dash}
use Rattle.pathways.specs.Meaning.{Pathway, Meaning}
use Rattle.pathways.specs.Limits.{Lawful}
use Rattle.table.specs.declared.kind.Kind.{Kind}
use Rattle.table.specs.declared.kind.Kind.TheVariants.{Steering, Id, Member, Unknown}

-- what an entry names: a body and its kind
pub record Item : Type 0 where
  pub kind : Kind
  pub body : List ℕ

-- the steering URI
abbrev pub steered : List ℕ → Item
steered uri = record { kind = Steering; body = uri }

-- the ID of a pathway
abbrev pub named : List ℕ → Item
named id = record { kind = Id; body = id }

-- the URI of a member
abbrev pub member : List ℕ → Item
member uri = record { kind = Member; body = uri }

-- a pathway: its ID, then its members
abbrev pub items_of : Pathway → List Item
items_of p = named p.id ∷ map member p.members

-- a description: its steering URI, then its pathways one after the other
abbrev pub items : List ℕ → List Pathway → List Item
items steering ps = steered steering ∷ flat_map items_of ps

-- the byte of a kind; no item is of an unknown one
abbrev pub code : Kind → ℕ
code Steering = 0
code Id = 1
code Member = 2
code Unknown = 3

-- the byte of a dialect
abbrev pub dialect_code : Dialect → ℕ
dialect_code Hls = 0
dialect_code Dash = 1

-- a number in two bytes, the high one first; in a file of at most 65,535 bytes each number that is written is below 65,536
abbrev pub two : ℕ → List ℕ
two n = n / 256 ∷ n % 256 ∷ []

-- the entries, five bytes each: kind, place and length of a body. The first body stands at `at`, and each other behind the one before it
abbrev pub entries : (at : ℕ) → List Item → List ℕ
entries at [] = []
entries at (x ∷ xs) = code x.kind ∷ (two at ++ (two (length x.body) ++ entries (at + length x.body) xs))

-- the bodies, one behind the other
abbrev pub bodies : List Item → List ℕ
bodies xs = flat_map (λ x. x.body) xs

-- a file: S, T, 1 and the dialect; how many entries there are; the entries; the bodies
abbrev pub laid : Dialect → List Item → List ℕ
laid d xs = 83 ∷ 84 ∷ 1 ∷ dialect_code d ∷ (two (length xs) ++ (entries (6 + 5 * length xs) xs ++ bodies xs))

-- the file of a description
abbrev pub written : Dialect → List ℕ → List Pathway → List ℕ
written d steering ps = laid d (items steering ps)

-- A service table is the file of a description with a legal steering URI and at most 16 lawful pathways, in at most 65,535 bytes.
pub record Table (file : List ℕ) : Type 0 where
  pub dialect : Dialect
  pub steering : List ℕ
  pub pathways : List Pathway
  pub whole : file ≡ written dialect steering pathways
  pub short : length file ≤ 65535
  pub uri : legal steering ≡ true
  pub lawful : Lawful pathways
  pub few : length pathways ≤ 16

-- what it means: all that was written, but for the steering URI's fragment
abbrev pub meant : {file : List ℕ} → Table file → Meaning
meant t = record { dialect = t.dialect; steering = without_fragment t.steering; pathways = t.pathways }

-- each number is a byte
abbrev pub Bytes : List ℕ → Type 0
Bytes file = AllByRecursion (λ b. b < 256) file
