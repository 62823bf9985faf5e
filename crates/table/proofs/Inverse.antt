-- Reading gives back what was written. Assumes nothing.
use Rattle.std.proofs.Common.{◌≡◌, ℕ, ◌+◌, List, [], ◌∷◌, ◌++◌, map, length, drop, refl, ap, ◌∙◌}
use Rattle.std.specs.List.{flat_map}
use Rattle.uri.specs.Splits.{without_fragment}
use Rattle.pathways.specs.declared.dialect.Dialect.{Dialect}
use Rattle.pathways.specs.Meaning.{Pathway}
use Rattle.table.specs.Contents.{spot, contents}
use Rattle.table.specs.Reading.{members_in, pathways_in, steering_in, meaning_of}
use Rattle.table.specs.Format.{member, items_of, items, bodies, written, Table, meant}
use Rattle.table.proofs.Written.{entries_for, dialect_read, contents_read, bodies_read, body_read, behind}

module _ (file : List ℕ) where
  -- the next pathway ends the members
  members-end : (ps : List Pathway) (at : ℕ) → members_in file (entries_for at (flat_map items_of ps)) ≡ []
  members-end [] at = refl
  members-end (p ∷ ps) at = refl

  members_read : (us : List (List ℕ)) (ps : List Pathway) (at : ℕ) → drop at file ≡ bodies (map member us ++ flat_map items_of ps)
      → members_in file (entries_for at (map member us ++ flat_map items_of ps)) ≡ us
  members_read [] ps at here = members-end ps at
  members_read (u ∷ us) ps at here =
      let rest = bodies (map member us ++ flat_map items_of ps) in
      let first = body_read file at u rest here in
      let more = members_read us ps (at + length u) (behind file at u rest here) in
      (λ j. first j ∷ more j)

  -- members are no pathways
  past-members : (us : List (List ℕ)) (ps : List Pathway) (at : ℕ) → drop at file ≡ bodies (map member us ++ flat_map items_of ps)
      → ((to : ℕ) → drop to file ≡ bodies (flat_map items_of ps) → pathways_in file (entries_for to (flat_map items_of ps)) ≡ ps)
      → pathways_in file (entries_for at (map member us ++ flat_map items_of ps)) ≡ ps
  past-members [] ps at here more = more at here
  past-members (u ∷ us) ps at here more =
      past-members us ps (at + length u) (behind file at u (bodies (map member us ++ flat_map items_of ps)) here) more

  pub pathways_read : (ps : List Pathway) (at : ℕ) → drop at file ≡ bodies (flat_map items_of ps) → pathways_in file (entries_for at (flat_map items_of ps)) ≡ ps
  pathways_read [] at here = refl
  pathways_read (p ∷ ps) at here =
      let rest = bodies (map member p.members ++ flat_map items_of ps) in
      let to = at + length p.id in
      let next = behind file at p.id rest here in
      let id-is = body_read file at p.id rest here in
      let members-are = members_read p.members ps to next in
      let more = past-members p.members ps to next (pathways_read ps) in
      (λ j. record { id = id-is j; members = members-are j } ∷ more j)

  -- the same with the steering URI in front
  module _ (s : List ℕ) (ps : List Pathway) (at : ℕ) (here : drop at file ≡ bodies (items s ps)) where
    pub described_read : pathways_in file (entries_for at (items s ps)) ≡ ps
    described_read = pathways_read ps (at + length s) (behind file at s (bodies (flat_map items_of ps)) here)

    steering_read : steering_in file (entries_for at (items s ps)) ≡ without_fragment s
    steering_read = ap without_fragment (body_read file at s (bodies (flat_map items_of ps)) here)

inverse : (d : Dialect) (s : List ℕ) (ps : List Pathway) → meaning_of (written d s ps) ≡ record { dialect = d; steering = without_fragment s; pathways = ps }
inverse d s ps =
    let file = written d s ps in
    let at = spot (length (items s ps)) in
    let es = contents_read d (items s ps) in
    let here = bodies_read d (items s ps) in
    let dialect-is = dialect_read d (items s ps) in
    let steering-is : steering_in file (contents file) ≡ without_fragment s = ap (steering_in file) es ∙ steering_read file s ps at here in
    let pathways_are : pathways_in file (contents file) ≡ ps = ap (pathways_in file) es ∙ described_read file s ps at here in
    (λ j. record { dialect = dialect-is j; steering = steering-is j; pathways = pathways_are j })

pub reading_inverts : (file : List ℕ) (t : Table file) → meaning_of file ≡ meant t
reading_inverts file t = ap meaning_of t.whole ∙ inverse t.dialect t.steering t.pathways
