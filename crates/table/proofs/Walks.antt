-- From part to part of a file: its pathways, and the members of each. Assumes nothing.
use Rattle.std.proofs.Common.{◌≡◌, ℕ, suc, ◌+◌, Bool, true, false, cond, ltb, List, [], ◌∷◌, map, length, get_or, take, Some, None, Option, MatchOption, sym, refl, ap, ◌∙◌, subst, arith}
use denote.Param.Members.{Mut}
use denote.Ref.{Bor}
use Rattle.std.specs.Fn.{CalledAt}
use Rattle.std.specs.Option.{option_map}
use Rattle.std.specs.List.{FoldsTo, prefix_len, slice_get}
use Rattle.std.specs.Iterator.{Yields, YieldsFirstBy, FindsItem}
use Rattle.std.proofs.lemmas.Option.{slice_get-get_or, slice_get_past}
use Rattle.std.proofs.lemmas.Bool.{cond-true, cond-false, ltb-true, ltb-false}
use Rattle.pathways.specs.Meaning.{Pathway}
use Rattle.pathways.specs.Questions.{member_of}
use Rattle.table.specs.declared.reading.walking.Group.{Group}
use Rattle.table.specs.Walks.{pathway_of}
use Rattle.table.specs.declared.entry.Entry.{Entry}
use Rattle.table.specs.declared.bodies.parts.Part.{Part}
use Rattle.table.specs.declared.bodies.parts.Parts.{Parts}
use Rattle.table.specs.Contents.{entries_in, body_of, is_id, is_member}
use Rattle.table.specs.Reading.{members_in, pathways_in}
use Rattle.table.specs.Parts.{with_bodies, shown, parts_left}

-- the members that stand in front of parts, and the pathways among them
abbrev pub members_among : List (Entry × List ℕ) → List (List ℕ)
members_among [] = []
members_among (p ∷ ps) = cond (is_member p.0.kind) (p.1 ∷ members_among ps) []

abbrev pub pathways_among : List (Entry × List ℕ) → List Pathway
pathways_among [] = []
pathways_among (p ∷ ps) = cond (is_id p.0.kind) (record { id = p.1; members = members_among ps } ∷ pathways_among ps) (pathways_among ps)

pub members-among : (file : List ℕ) (es : List Entry) → members_among (with_bodies file es) ≡ members_in file es
members-among file [] = refl
members-among file (e ∷ es) = ap (λ (l : List (List ℕ)). cond (is_member e.kind) (body_of file e ∷ l) []) (members-among file es)

pub pathways-among : (file : List ℕ) (es : List Entry) → pathways_among (with_bodies file es) ≡ pathways_in file es
pathways-among file [] = refl
pathways-among file (e ∷ es) =
    let members-are = members-among file es in
    let more = pathways-among file es in
    (λ j. cond (is_id e.kind) (record { id = body_of file e; members = members-are j } ∷ more j) (more j))

-- the same of what is left
abbrev pub members_in_parts : Parts → List (List ℕ)
members_in_parts s = members_in s.file.now (entries_in s.entries.bytes.now)

abbrev pub pathways_in_parts : Parts → List Pathway
pathways_in_parts s = pathways_in s.file.now (entries_in s.entries.bytes.now)

pub among : (s : Parts) → pathways_among (parts_left s) ≡ pathways_in_parts s
among s = pathways-among s.file.now (entries_in s.entries.bytes.now)

-- parts that are no IDs are passed over
module _ {F : Type 0} (g : Mut F (Bor Part × Unit {0}) Bool) (f : F)
    (no : (x : Part) (q : F) → CalledAt g f x false q → (q ≡ f) × (is_id x.entry.kind ≡ false)) where
  passed_over : (xs : List Part) (s t : Parts) (j : F) → Yields (YieldsFirstBy shown parts_left) s xs t → FoldsTo (λ p x q. CalledAt g p x false q) f xs j
      → pathways_among (parts_left s) ≡ pathways_among (parts_left t)
  passed_over [] s t j y h = ap (λ (u : Parts). pathways_among (parts_left u)) y
  passed_over (x ∷ xs) s t j y h =
      let here = no x h.0 h.1 in
      let more = passed_over xs y.0 t j y.2 (subst (λ (q : F). FoldsTo (λ p z r. CalledAt g p z false r) q xs j) here.0 h.2) in
      ap pathways_among y.1
      ∙ cond-false (is_id x.entry.kind) (record { id = x.body.now; members = members_among (parts_left y.0) } ∷ pathways_among (parts_left y.0)) (pathways_among (parts_left y.0)) here.1
      ∙ more

  -- what `find` of an ID says, where there is none, and where there is one
  pub no_pathway : (s u : Parts) → FindsItem (YieldsFirstBy shown parts_left) g s f None u → (pathways_in_parts s ≡ []) × (pathways_in_parts u ≡ [])
  no_pathway s u ran =
      let over = passed_over ran.0 s ran.2.0 ran.1 ran.2.1 ran.3 in
      (sym (among s) ∙ over ∙ ap pathways_among ran.2.2.0, sym (among u) ∙ ap pathways_among ran.2.2.1)

  pub next_pathway : (is : (x : Part) (p q : F) → CalledAt g p x true q → is_id x.entry.kind ≡ true) (s u : Parts) (x : Part)
      → FindsItem (YieldsFirstBy shown parts_left) g s f (Some x) u
      → pathways_in_parts s ≡ record { id = x.body.now; members = members_in_parts u } ∷ pathways_in_parts u
  next_pathway is s u x ran =
      let over = passed_over ran.0 s ran.2.0 ran.1 ran.2.1 ran.3 in
      let members-are = members-among u.file.now (entries_in u.entries.bytes.now) in
      let more = among u in
      sym (among s)
      ∙ over
      ∙ ap pathways_among ran.2.2
      ∙ cond-true (is_id x.entry.kind) (record { id = x.body.now; members = members_among (parts_left u) } ∷ pathways_among (parts_left u)) (pathways_among (parts_left u)) (is x ran.1 ran.4.0 ran.4.1)
      ∙ (λ j. record { id = x.body.now; members = members-are j } ∷ more j)

-- the parts in front that are members
abbrev pub is_member_part : Entry × List ℕ → Bool
is_member_part p = is_member p.0.kind

abbrev pub body : Entry × List ℕ → List ℕ
body p = p.1

pub members_front : (ps : List (Entry × List ℕ)) → map body (take (prefix_len is_member_part ps) ps) ≡ members_among ps
members_front [] = refl
members_front (p ∷ ps) = go (is_member_part p) (members_front ps)
  where
    go : (b : Bool) → map body (take (prefix_len is_member_part ps) ps) ≡ members_among ps
        → map body (take (cond b (1 + prefix_len is_member_part ps) 0) (p ∷ ps)) ≡ cond b (p.1 ∷ members_among ps) []
    go true more =
        let on : 1 + prefix_len is_member_part ps ≡ suc (prefix_len is_member_part ps) = omega arith in
        ap (λ (k : ℕ). map body (take k (p ∷ ps))) on ∙ ap (λ (l : List (List ℕ)). p.1 ∷ l) more
    go false more = refl

pub front_is : (s : Parts) → map body (take (prefix_len is_member_part (parts_left s)) (parts_left s)) ≡ members_in_parts s
front_is s = members_front (parts_left s) ∙ members-among s.file.now (entries_in s.entries.bytes.now)

-- the URI of a part that was found
pub found_body : (found : Option Part) (told : Option (Bor (List ℕ))) → told ≡ option_map (λ (p : Part). p.body) found → option_map (λ (x : Bor (List ℕ)). x.now) told ≡ option_map body (option_map shown found)
found_body found told t = ap (option_map (λ (x : Bor (List ℕ)). x.now)) t ∙ known found
  where
    known : (o : Option Part) → option_map (λ (x : Bor (List ℕ)). x.now) (option_map (λ (p : Part). p.body) o) ≡ option_map body (option_map shown o)
    known None = refl
    known (Some p) = refl

-- the element of a number, where there is one
pub get_is : {X : Type 0} (xs : List X) (n : ℕ) (d : X) → slice_get xs n ≡ cond (ltb n (length xs)) (Some (get_or xs n d)) None
get_is xs n d = go (ltb n (length xs)) refl
  where
    go : (b : Bool) → ltb n (length xs) ≡ b → slice_get xs n ≡ cond b (Some (get_or xs n d)) None
    go true t = slice_get-get_or xs n d (ltb-true n (length xs) t)
    go false t = slice_get_past xs n (ltb-false n (length xs) t)

-- what is told of a member of a pathway that was found
pub member_told : (m : ℕ) (told : Option (Bor (List ℕ))) (found : Option Group) → MatchOption found (told ≡ None) (λ g. option_map (λ (x : Bor (List ℕ)). x.now) told ≡ slice_get (pathway_of g).members m)
    → option_map (λ (x : Bor (List ℕ)). x.now) told ≡ member_of (option_map pathway_of found) m
member_told m told None t = ap (option_map (λ (x : Bor (List ℕ)). x.now)) t
member_told m told (Some g) t = t ∙ get_is (pathway_of g).members m []
