-- The entries of a file that passes the check are those of a description. Assumes nothing.
use Rattle.std.proofs.Common.{◌≡◌, ℕ, ◌+◌, true, false, cond, List, [], ◌∷◌, ◌++◌, map, Some, None, refl, ap, ◌∙◌, arith}
use Rattle.std.specs.List.{flat_map}
use Rattle.std.proofs.lemmas.Bool.{both_ways, false≢true}
use Rattle.uri.specs.Legal.{legal}
use Rattle.table.specs.declared.kind.Kind.{Kind}
use Rattle.table.specs.declared.kind.Kind.TheVariants.{Steering, Id, Member, Unknown}
use Rattle.table.specs.declared.entry.Entry.{Entry}
use Rattle.table.specs.Contents.{spot, body_of, is_id, is_member}
use Rattle.table.specs.Reading.{members_in, pathways_in}
use Rattle.table.specs.Offences.{follows, disordered, out_of_order, bad_uri}
use Rattle.table.specs.Format.{Item, member, items_of, items}
use Rattle.table.proofs.Lawful.{none_passed, first-legal}

-- no steering URI stands behind an entry, and nothing unknown
late_steering : (k : Kind) → follows (Some k) Steering ≡ false
late_steering Steering = refl
late_steering Id = refl
late_steering Member = refl
late_steering Unknown = refl

late_unknown : (k : Kind) → follows (Some k) Unknown ≡ false
late_unknown Steering = refl
late_unknown Id = refl
late_unknown Member = refl
late_unknown Unknown = refl

module _ (file : List ℕ) where
  -- what an entry names
  abbrev pub item_of : Entry → Item
  item_of e = record { kind = e.kind; body = body_of file e }

  -- behind an entry: the members of its pathway, then the other pathways
  behind_entry : (k : Kind) (i : ℕ) (es : List Entry) → disordered (Some k) i es ≡ None → map item_of es ≡ map member (members_in file es) ++ flat_map items_of (pathways_in file es)
  behind_entry k i [] h = refl
  behind_entry k i (e ∷ es) h =
      let p = none_passed (follows (Some k) e.kind) (spot i) (disordered (Some e.kind) (i + 1) es) h in
      go e.kind p.0 (behind_entry e.kind (i + 1) es p.1)
    where
      go : (l : Kind) → follows (Some k) l ≡ true
          → map item_of es ≡ map member (members_in file es) ++ flat_map items_of (pathways_in file es)
          → record { kind = l; body = body_of file e } ∷ map item_of es
          ≡ map member (cond (is_member l) (body_of file e ∷ members_in file es) [])
          ++ flat_map items_of (cond (is_id l) (record { id = body_of file e; members = members_in file es } ∷ pathways_in file es) (pathways_in file es))
      go Steering t more = absurd (both_ways (follows (Some k) Steering) (late_steering k) t)
      go Id t more = (λ j. record { kind = Id; body = body_of file e } ∷ more j)
      go Member t more = (λ j. record { kind = Member; body = body_of file e } ∷ more j)
      go Unknown t more = absurd (both_ways (follows (Some k) Unknown) (late_unknown k) t)

  -- behind the steering URI there is no member
  no_member : (i : ℕ) (es : List Entry) → disordered (Some Steering) i es ≡ None → members_in file es ≡ []
  no_member i [] h = refl
  no_member i (e ∷ es) h = go e.kind (none_passed (follows (Some Steering) e.kind) (spot i) (disordered (Some e.kind) (i + 1) es) h).0
    where
      go : (l : Kind) → follows (Some Steering) l ≡ true → cond (is_member l) (body_of file e ∷ members_in file es) [] ≡ []
      go Steering t = refl
      go Id t = refl
      go Member t = absurd (false≢true t)
      go Unknown t = refl

  -- the first body, which is the steering URI with its fragment
  abbrev pub first_body : List Entry → List ℕ
  first_body [] = []
  first_body (e ∷ es) = body_of file e

  pub first-uri : (es : List Entry) → out_of_order es ≡ None → bad_uri file es ≡ None → legal (first_body es) ≡ true
  first-uri [] o u = let z : ◌≡◌ {A = ℕ} 0 1 = cc in absurd (omega arith)
  first-uri (e ∷ es) o u = first-legal file e es o u

  pub regrouped : (es : List Entry) → out_of_order es ≡ None → map item_of es ≡ items (first_body es) (pathways_in file es)
  regrouped [] o = let z : ◌≡◌ {A = ℕ} 0 1 = cc in absurd (omega arith)
  regrouped (e ∷ es) o =
      let p = none_passed (follows None e.kind) (spot 0) (disordered (Some e.kind) 1 es) o in
      go e.kind p.0 p.1
    where
      go : (l : Kind) → follows None l ≡ true → disordered (Some l) 1 es ≡ None
          → record { kind = l; body = body_of file e } ∷ map item_of es
          ≡ items (body_of file e) (cond (is_id l) (record { id = body_of file e; members = members_in file es } ∷ pathways_in file es) (pathways_in file es))
      go Steering t h =
          let more = behind_entry Steering 1 es h ∙ ap (λ (us : List (List ℕ)). map member us ++ flat_map items_of (pathways_in file es)) (no_member 1 es h) in
          (λ j. record { kind = Steering; body = body_of file e } ∷ more j)
      go Id t h = absurd (false≢true t)
      go Member t h = absurd (false≢true t)
      go Unknown t h = absurd (false≢true t)
