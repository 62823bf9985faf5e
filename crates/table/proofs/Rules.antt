-- What is written for lawful pathways keeps each rule. Assumes nothing.
use Rattle.std.proofs.Common.{◌≡◌, ℕ, ◌+◌, ◌≤◌, true, false, not, ◌&&◌, ◌||◌, eqb, leb, List, [], ◌∷◌, ◌++◌, map, length, take, drop, Some, None, refl, ap, ◌∙◌, arith}
use Rattle.std.specs.List.{flat_map, AllByRecursion}
use Rattle.std.proofs.ByRecursion.{All-append, All-map, All-weaker}
use Rattle.std.proofs.lemmas.List.{length-append}
use Rattle.std.proofs.lemmas.Bool.{cond-true, cond-false, eq-eqb, le-leb, lt-leb, or_from, not_from_true}
use Rattle.uri.specs.Legal.{legal}
use Rattle.pathways.specs.Meaning.{Pathway}
use Rattle.pathways.specs.Limits.{legal_id, LawfulPathway}
use Rattle.table.specs.declared.kind.Kind.{Kind}
use Rattle.table.specs.declared.kind.Kind.TheVariants.{Steering, Id, Member}
use Rattle.table.specs.Contents.{spot, is_id, is_unknown}
use Rattle.table.specs.Offences.{misplaced, overlong, end_of, unknown_kind, follows, disordered, bad_id, bad_uri, member_first, overrun}
use Rattle.table.specs.Format.{Item, named, member, items_of, items, bodies}
use Rattle.table.proofs.Written.{entries_for, body_read, behind}

-- where the bodies lie
pub none-misplaced : (i at : ℕ) (xs : List Item) → misplaced i at (entries_for at xs) ≡ None
none-misplaced i at [] = refl
none-misplaced i at (x ∷ xs) =
    let to = at + length x.body in
    cond-true (eqb at at) (misplaced (i + 1) to (entries_for to xs)) (Some (spot i)) (eq-eqb at at refl) ∙ none-misplaced (i + 1) to xs

pub ends_at : (at : ℕ) (xs : List Item) → end_of at (entries_for at xs) ≡ at + length (bodies xs)
ends_at at [] = omega arith
ends_at at (x ∷ xs) = ends_at (at + length x.body) xs ∙ omega (arith, length-append x.body (bodies xs))

pub none-overlong : (end i at : ℕ) (xs : List Item) → at + length (bodies xs) ≤ end → overlong end i (entries_for at xs) ≡ None
none-overlong end i at [] h = refl
none-overlong end i at (x ∷ xs) h =
    let to = at + length x.body in
    let l = length-append x.body (bodies xs) in
    cond-true (leb to end) (overlong end (i + 1) (entries_for to xs)) (Some (spot i)) (le-leb to end (omega arith))
    ∙ none-overlong end (i + 1) to xs (omega arith)

-- an item by itself keeps the rules: its kind is known, an ID is legal, and so is a URI
pub record Sane (x : Item) : Type 0 where
  pub known : is_unknown x.kind ≡ false
  pub id : (is_id x.kind && not (legal_id x.body)) ≡ false
  pub uri : (not (is_id x.kind) && not (legal x.body)) ≡ false

sane_member : (u : List ℕ) → legal u ≡ true → Sane (member u)
sane_member u h = record { known = refl; id = refl; uri = not_from_true (legal u) h }

sane_pathways : (ps : List Pathway) → AllByRecursion LawfulPathway ps → AllByRecursion Sane (flat_map items_of ps)
sane_pathways [] h = tt
sane_pathways (p ∷ ps) h =
    let id : Sane (named p.id) = record { known = refl; id = not_from_true (legal_id p.id) h.0.id; uri = refl } in
    let members = All-map Sane member p.members (All-weaker (λ (u : List ℕ). legal u ≡ true) (λ (u : List ℕ). Sane (member u)) sane_member p.members h.0.uris) in
    (id, All-append Sane (map member p.members) (flat_map items_of ps) members (sane_pathways ps h.1))

pub sane_items : (s : List ℕ) (ps : List Pathway) → legal s ≡ true → AllByRecursion LawfulPathway ps → AllByRecursion Sane (items s ps)
sane_items s ps l h = (record { known = refl; id = refl; uri = not_from_true (legal s) l }, sane_pathways ps h)

pub none_unknown : (i at : ℕ) (xs : List Item) → AllByRecursion Sane xs → unknown_kind i (entries_for at xs) ≡ None
none_unknown i at [] h = refl
none_unknown i at (x ∷ xs) h =
    let to = at + length x.body in
    cond-false (is_unknown x.kind) (Some (spot i)) (unknown_kind (i + 1) (entries_for to xs)) h.0.known ∙ none_unknown (i + 1) to xs h.1

module _ (file : List ℕ) where
  pub none_bad_id : (at : ℕ) (xs : List Item) → drop at file ≡ bodies xs → AllByRecursion Sane xs → bad_id file (entries_for at xs) ≡ None
  none_bad_id at [] here h = refl
  none_bad_id at (x ∷ xs) here h =
      let to = at + length x.body in
      let b = body_read file at x.body (bodies xs) here in
      let test : (is_id x.kind && not (legal_id (take (length x.body) (drop at file)))) ≡ false = ap (λ (l : List ℕ). is_id x.kind && not (legal_id l)) b ∙ h.0.id in
      cond-false (is_id x.kind && not (legal_id (take (length x.body) (drop at file)))) (Some at) (bad_id file (entries_for to xs)) test
      ∙ none_bad_id to xs (behind file at x.body (bodies xs) here) h.1

  pub none_bad_uri : (at : ℕ) (xs : List Item) → drop at file ≡ bodies xs → AllByRecursion Sane xs → bad_uri file (entries_for at xs) ≡ None
  none_bad_uri at [] here h = refl
  none_bad_uri at (x ∷ xs) here h =
      let to = at + length x.body in
      let b = body_read file at x.body (bodies xs) here in
      let test : (not (is_id x.kind) && not (legal (take (length x.body) (drop at file)))) ≡ false = ap (λ (l : List ℕ). not (is_id x.kind) && not (legal l)) b ∙ h.0.uri in
      cond-false (not (is_id x.kind) && not (legal (take (length x.body) (drop at file)))) (Some at) (bad_uri file (entries_for to xs)) test
      ∙ none_bad_uri to xs (behind file at x.body (bodies xs) here) h.1

-- the order of the kinds, behind a kind that an ID may follow
abbrev Ordered : Kind → List Item → Type 0
Ordered k xs = (i at : ℕ) → disordered (Some k) i (entries_for at xs) ≡ None

members_ordered : (us : List (List ℕ)) (ps : List Pathway) (k : Kind) → follows (Some k) Id ≡ true → follows (Some k) Member ≡ true
    → ((l : Kind) → follows (Some l) Id ≡ true → Ordered l (flat_map items_of ps)) → Ordered k (map member us ++ flat_map items_of ps)
members_ordered [] ps k t m more i at = more k t i at
members_ordered (u ∷ us) ps k t m more i at =
    let to = at + length u in
    cond-true (follows (Some k) Member) (disordered (Some Member) (i + 1) (entries_for to (map member us ++ flat_map items_of ps))) (Some (spot i)) m
    ∙ members_ordered us ps Member refl refl more (i + 1) to

pathways_ordered : (ps : List Pathway) (k : Kind) → follows (Some k) Id ≡ true → Ordered k (flat_map items_of ps)
pathways_ordered [] k t i at = refl
pathways_ordered (p ∷ ps) k t i at =
    let to = at + length p.id in
    cond-true (follows (Some k) Id) (disordered (Some Id) (i + 1) (entries_for to (map member p.members ++ flat_map items_of ps))) (Some (spot i)) t
    ∙ members_ordered p.members ps Id refl refl (pathways_ordered ps) (i + 1) to

pub items_ordered : (s : List ℕ) (ps : List Pathway) (at : ℕ) → disordered None 0 (entries_for at (items s ps)) ≡ None
items_ordered s ps at = pathways_ordered ps Steering refl 1 (at + length s)

-- the counts, behind `ids` IDs
abbrev Counted : ℕ → List Item → Type 0
Counted ids xs = (members i at : ℕ) → overrun ids members i (entries_for at xs) ≡ None

members-counted : (us : List (List ℕ)) (ps : List Pathway) (ids : ℕ) → Counted ids (flat_map items_of ps)
    → (members i at : ℕ) → members + length us ≤ 32 → overrun ids members i (entries_for at (map member us ++ flat_map items_of ps)) ≡ None
members-counted [] ps ids more members i at h = more members i at
members-counted (u ∷ us) ps ids more members i at h =
    let to = at + length u in
    cond-false (leb 32 members) (Some (spot i)) (overrun ids (members + 1) (i + 1) (entries_for to (map member us ++ flat_map items_of ps))) (lt-leb 32 members (omega arith))
    ∙ members-counted us ps ids more (members + 1) (i + 1) to (omega arith)

member-first : (us : List (List ℕ)) (xs : List Item) (at : ℕ) → 1 ≤ length us → member_first (entries_for at (map member us ++ xs)) ≡ true
member-first [] xs at h = absurd (omega arith)
member-first (u ∷ us) xs at h = refl

pub pathways-counted : (ps : List Pathway) (ids : ℕ) → AllByRecursion LawfulPathway ps → ids + length ps ≤ 16 → Counted ids (flat_map items_of ps)
pathways-counted [] ids h l members i at = refl
pathways-counted (p ∷ ps) ids h l members i at =
    let to = at + length p.id in
    let es = entries_for to (map member p.members ++ flat_map items_of ps) in
    let first = member-first p.members (flat_map items_of ps) to h.0.some in
    cond-false (leb 16 ids || not (member_first es)) (Some (spot i)) (overrun (ids + 1) 0 (i + 1) es)
    (or_from (leb 16 ids) (not (member_first es)) (lt-leb 16 ids (omega arith)) (not_from_true (member_first es) first))
    ∙ members-counted p.members ps (ids + 1) (pathways-counted ps (ids + 1) h.1 (omega arith)) 0 (i + 1) to (omega (arith, h.0.few))
