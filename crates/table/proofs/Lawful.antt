-- A file that passes the check describes what keeps the limits. Assumes nothing.
use Rattle.std.proofs.Common.{◌≡◌, ℕ, ◌+◌, ◌<◌, ◌≤◌, Bool, true, false, cond, not, ◌&&◌, ◌||◌, eqb, ltb, leb, List, [], ◌∷◌, ◌++◌, length, is_ok, Some, None, Option, sym, refl, ap, ◌∙◌, subst, arith}
use Rattle.std.specs.List.{AllByRecursion}
use Rattle.std.specs.Str.{bytes_eq}
use Rattle.std.proofs.ByRecursion.{All-weaker}
use Rattle.std.proofs.lemmas.Slice.Eq.{bytes_eq-Decides}
use Rattle.std.proofs.lemmas.Bool.{false≢true, true≢false, not-false, ltb-false, leb-true, leb-false, eqb-false, or_parts, cond-true, cond-false}
use Rattle.std.proofs.lemmas.Bool.Decides.{not_from_Decides}
use Rattle.uri.specs.Legal.{legal}
use Rattle.uri.specs.Splits.{fragment}
use Rattle.uri.proofs.Fragments.{legal-whole, no_fragment}
use Rattle.pathways.specs.Meaning.{ids}
use Rattle.pathways.specs.Limits.{legal_id, Different, LawfulPathway, Lawful, Described}
use Rattle.table.specs.declared.kind.Kind.{Kind}
use Rattle.table.specs.declared.kind.Kind.TheVariants.{Steering, Id, Member, Unknown}
use Rattle.table.specs.declared.entry.Entry.{Entry}
use Rattle.table.specs.Contents.{count_of, spot, contents, body_of, is_id, is_member}
use Rattle.table.specs.Reading.{members_in, pathway_at, pathways_in, steering_in, meaning_of}
use Rattle.table.specs.Offences.{contents_long, overlong, follows, disordered, out_of_order, bad_id, has_id, repeated, bad_uri, member_first, excess, ids_now, members_now, overrun, bad_count}
use Rattle.pathways.specs.Rules.{Rule, verdict, and_then, judged}
use Rattle.table.specs.Checks.{layout, sense, checked}

-- no offence: the test was not met, and there is none further on
pub none-further : (b : Bool) (p : ℕ) (o : Option ℕ) → cond b (Some p) o ≡ None → (b ≡ false) × (o ≡ None)
none-further true p o e = let z : ◌≡◌ {A = ℕ} 0 1 = cc in absurd (omega arith)
none-further false p o e = (refl, e)

pub none_passed : (b : Bool) (p : ℕ) (o : Option ℕ) → cond b o (Some p) ≡ None → (b ≡ true) × (o ≡ None)
none_passed true p o e = (refl, e)
none_passed false p o e = let z : ◌≡◌ {A = ℕ} 0 1 = cc in absurd (omega arith)

-- bodies that pass no end
pub all_within : (end i : ℕ) (es : List Entry) → overlong end i es ≡ None → AllByRecursion (λ (e : Entry). e.place + e.size ≤ end) es
all_within end i [] h = tt
all_within end i (e ∷ es) h =
    let p = none_passed (leb (e.place + e.size) end) (spot i) (overlong end (i + 1) es) h in
    (leb-true (e.place + e.size) end p.0, all_within end (i + 1) es p.1)

-- kinds
id_no_member : (k : Kind) → is_id k ≡ true → is_member k ≡ false
id_no_member Steering e = refl
id_no_member Id e = refl
id_no_member Member e = absurd (false≢true e)
id_no_member Unknown e = refl

member_no_id : (k : Kind) → is_member k ≡ true → is_id k ≡ false
member_no_id Steering e = refl
member_no_id Id e = absurd (false≢true e)
member_no_id Member e = refl
member_no_id Unknown e = refl

first_no_id : (k : Kind) → follows None k ≡ true → is_id k ≡ false
first_no_id Steering e = refl
first_no_id Id e = absurd (false≢true e)
first_no_id Member e = refl
first_no_id Unknown e = refl

id_in_limits : (ids members : ℕ) (k : Kind) (es : List Entry) → is_id k ≡ true → excess ids members k es ≡ false → (ids < 16) × (member_first es ≡ true)
id_in_limits ids members Steering es t e = absurd (false≢true t)
id_in_limits ids members Id es t e =
    let parts = or_parts (leb 16 ids) (not (member_first es)) e in
    (leb-false 16 ids parts.0, not-false (member_first es) parts.1)
id_in_limits ids members Member es t e = absurd (false≢true t)
id_in_limits ids members Unknown es t e = absurd (false≢true t)

member_in_limits : (ids members : ℕ) (k : Kind) (es : List Entry) → is_member k ≡ true → excess ids members k es ≡ false → members < 32
member_in_limits ids members Steering es t e = absurd (false≢true t)
member_in_limits ids members Id es t e = absurd (false≢true t)
member_in_limits ids members Member es t e = leb-false 32 members e
member_in_limits ids members Unknown es t e = absurd (false≢true t)

-- tests of two parts
judged_true : (x l : Bool) → x ≡ true → (x && not l) ≡ false → l ≡ true
judged_true true true t e = refl
judged_true true false t e = absurd (true≢false e)
judged_true false l t e = absurd (false≢true t)

judged_false : (x l : Bool) → x ≡ false → (not x && not l) ≡ false → l ≡ true
judged_false true l t e = absurd (true≢false t)
judged_false false true t e = refl
judged_false false false t e = absurd (true≢false e)

module _ (file : List ℕ) where
  -- members of the latest ID, those that stand in front included
  pub members_limit : (ids members i : ℕ) (es : List Entry) → overrun ids members i es ≡ None → members ≤ 32 → members + length (members_in file es) ≤ 32
  members_limit ids members i [] h l = omega arith
  members_limit ids members i (e ∷ es) h l =
      let p = none-further (excess ids members e.kind es) (spot i) (overrun (ids_now ids e.kind) (members_now members e.kind) (i + 1) es) h in
      go (is_member e.kind) refl p.0 (λ k. members_limit (ids_now ids e.kind) (members_now members e.kind) (i + 1) es p.1 k)
    where
      go : (b : Bool) → is_member e.kind ≡ b → excess ids members e.kind es ≡ false
          → (members_now members e.kind ≤ 32 → members_now members e.kind + length (members_in file es) ≤ 32)
          → members + length (cond b (body_of file e ∷ members_in file es) []) ≤ 32
      go true t x more =
          let less = member_in_limits ids members e.kind es t x in
          let is : members_now members e.kind ≡ members + 1 = cond-true (is_member e.kind) (members + 1) 0 t in
          omega (arith, more (omega (arith, is)), is)
      go false t x more = omega arith

  pub ids_limit : (ids members i : ℕ) (es : List Entry) → overrun ids members i es ≡ None → ids ≤ 16 → ids + length (pathways_in file es) ≤ 16
  ids_limit ids members i [] h l = omega arith
  ids_limit ids members i (e ∷ es) h l =
      let p = none-further (excess ids members e.kind es) (spot i) (overrun (ids_now ids e.kind) (members_now members e.kind) (i + 1) es) h in
      go (is_id e.kind) refl p.0 (λ k. ids_limit (ids_now ids e.kind) (members_now members e.kind) (i + 1) es p.1 k)
    where
      go : (b : Bool) → is_id e.kind ≡ b → excess ids members e.kind es ≡ false
          → (ids_now ids e.kind ≤ 16 → ids_now ids e.kind + length (pathways_in file es) ≤ 16)
          → ids + length (cond b (pathway_at file (e ∷ es) ∷ pathways_in file es) (pathways_in file es)) ≤ 16
      go true t x more =
          let less = (id_in_limits ids members e.kind es t x).0 in
          let is : ids_now ids e.kind ≡ ids + 1 = cond-true (is_id e.kind) (ids + 1) ids t in
          omega (arith, more (omega (arith, is)), is)
      go false t x more =
          let is : ids_now ids e.kind ≡ ids = cond-false (is_id e.kind) (ids + 1) ids t in
          omega (arith, more (omega (arith, is)), is)

  uris-legal : (es : List Entry) → bad_uri file es ≡ None → AllByRecursion (λ (u : List ℕ). legal u ≡ true) (members_in file es)
  uris-legal [] h = tt
  uris-legal (e ∷ es) h =
      let p = none-further (not (is_id e.kind) && not (legal (body_of file e))) e.place (bad_uri file es) h in
      go (is_member e.kind) refl p.0 (uris-legal es p.1)
    where
      go : (b : Bool) → is_member e.kind ≡ b → (not (is_id e.kind) && not (legal (body_of file e))) ≡ false
          → AllByRecursion (λ (u : List ℕ). legal u ≡ true) (members_in file es)
          → AllByRecursion (λ (u : List ℕ). legal u ≡ true) (cond b (body_of file e ∷ members_in file es) [])
      go true t x more = (judged_false (is_id e.kind) (legal (body_of file e)) (member_no_id e.kind t) x, more)
      go false t x more = tt

  some-members : (es : List Entry) → member_first es ≡ true → 1 ≤ length (members_in file es)
  some-members [] t = absurd (false≢true t)
  some-members (e ∷ es) t =
      subst (λ (l : List (List ℕ)). 1 ≤ length l) (sym (cond-true (is_member e.kind) (body_of file e ∷ members_in file es) [] t)) (omega arith)

  pub each-lawful : (ids members i : ℕ) (es : List Entry) → bad_id file es ≡ None → bad_uri file es ≡ None → overrun ids members i es ≡ None → AllByRecursion LawfulPathway (pathways_in file es)
  each-lawful ids members i [] h u c = tt
  each-lawful ids members i (e ∷ es) h u c =
      let p = none-further (is_id e.kind && not (legal_id (body_of file e))) e.place (bad_id file es) h in
      let q = none-further (not (is_id e.kind) && not (legal (body_of file e))) e.place (bad_uri file es) u in
      let r = none-further (excess ids members e.kind es) (spot i) (overrun (ids_now ids e.kind) (members_now members e.kind) (i + 1) es) c in
      go (is_id e.kind) refl p.0 q.1 r.0 r.1
      (each-lawful (ids_now ids e.kind) (members_now members e.kind) (i + 1) es p.1 q.1 r.1)
    where
      go : (b : Bool) → is_id e.kind ≡ b → (is_id e.kind && not (legal_id (body_of file e))) ≡ false → bad_uri file es ≡ None
          → excess ids members e.kind es ≡ false → overrun (ids_now ids e.kind) (members_now members e.kind) (i + 1) es ≡ None
          → AllByRecursion LawfulPathway (pathways_in file es)
          → AllByRecursion LawfulPathway (cond b (pathway_at file (e ∷ es) ∷ pathways_in file es) (pathways_in file es))
      go true t x u' y z more =
          let none : members_now members e.kind ≡ 0 = cond-false (is_member e.kind) (members + 1) 0 (id_no_member e.kind t) in (
            record {
              id = judged_true (is_id e.kind) (legal_id (body_of file e)) t x;
              some = some-members es (id_in_limits ids members e.kind es t y).1;
              few = omega (arith, members_limit (ids_now ids e.kind) (members_now members e.kind) (i + 1) es z (omega (arith, none)), none);
              uris = uris-legal es u';
            },
            more,
          )
      go false t x u' y z more = more

  -- an ID among the entries and one more
  or_none : (b : Bool) → (b || false) ≡ b
  or_none true = refl
  or_none false = refl

  or_assoc : (a b c : Bool) → (a || (b || c)) ≡ ((a || b) || c)
  or_assoc true b c = refl
  or_assoc false b c = refl

  pub has_append : (id : List ℕ) (es : List Entry) (e : Entry) → has_id file id (es ++ e ∷ []) ≡ (has_id file id es || (is_id e.kind && bytes_eq (body_of file e) id))
  has_append id [] e = or_none (is_id e.kind && bytes_eq (body_of file e) id)
  has_append id (x ∷ es) e =
      ap (λ (b : Bool). (is_id x.kind && bytes_eq (body_of file x) id) || b) (has_append id es e)
      ∙ or_assoc (is_id x.kind && bytes_eq (body_of file x) id) (has_id file id es) (is_id e.kind && bytes_eq (body_of file e) id)

  -- IDs that stand neither among the entries before them nor twice
  pub record Fresh (before : List Entry) (xs : List (List ℕ)) : Type 0 where
    pub different : Different xs
    pub new : AllByRecursion (λ (x : List ℕ). has_id file x before ≡ false) xs

  pub ids_fresh : (before es : List Entry) → repeated file before es ≡ None → Fresh before (ids (pathways_in file es))
  ids_fresh before [] h = record { different = tt; new = tt }
  ids_fresh before (e ∷ es) h =
      let p = none-further (is_id e.kind && has_id file (body_of file e) before) e.place (repeated file (before ++ e ∷ []) es) h in
      go (is_id e.kind) refl p.0 (ids_fresh (before ++ e ∷ []) es p.1)
    where
      old : (x : List ℕ) → has_id file x (before ++ e ∷ []) ≡ false → has_id file x before ≡ false
      old x n = (or_parts (has_id file x before) (is_id e.kind && bytes_eq (body_of file e) x) (sym (has_append x before e) ∙ n)).0

      apart : is_id e.kind ≡ true → (x : List ℕ) → has_id file x (before ++ e ∷ []) ≡ false → body_of file e ≡ x → ⊥
      apart t x n =
          let both : (is_id e.kind && bytes_eq (body_of file e) x) ≡ false = (or_parts (has_id file x before) (is_id e.kind && bytes_eq (body_of file e) x) (sym (has_append x before e) ∙ n)).1 in
          not_from_Decides (bytes_eq (body_of file e) x) (bytes_eq-Decides (body_of file e) x) (sym (ap (λ (b : Bool). b && bytes_eq (body_of file e) x) t) ∙ both)

      go : (b : Bool) → is_id e.kind ≡ b → (is_id e.kind && has_id file (body_of file e) before) ≡ false
          → Fresh (before ++ e ∷ []) (ids (pathways_in file es))
          → Fresh before (ids (cond b (pathway_at file (e ∷ es) ∷ pathways_in file es) (pathways_in file es)))
      go true t x more =
          record {
            different = (All-weaker (λ (y : List ℕ). has_id file y (before ++ e ∷ []) ≡ false) (λ (y : List ℕ). body_of file e ≡ y → ⊥) (apart t) (ids (pathways_in file es)) more.new, more.different);
            new = (sym (ap (λ (b : Bool). b && has_id file (body_of file e) before) t) ∙ x, All-weaker (λ (y : List ℕ). has_id file y (before ++ e ∷ []) ≡ false) (λ (y : List ℕ). has_id file y before ≡ false) old (ids (pathways_in file es)) more.new);
          }
      go false t x more =
          record {
            different = more.different;
            new = All-weaker (λ (y : List ℕ). has_id file y (before ++ e ∷ []) ≡ false) (λ (y : List ℕ). has_id file y before ≡ false) old (ids (pathways_in file es)) more.new;
          }

  -- the first entry is the steering URI
  pub first-legal : (e : Entry) (es : List Entry) → out_of_order (e ∷ es) ≡ None → bad_uri file (e ∷ es) ≡ None → legal (body_of file e) ≡ true
  first-legal e es o u =
      let p = none_passed (follows None e.kind) (spot 0) (disordered (Some e.kind) 1 es) o in
      let q = none-further (not (is_id e.kind) && not (legal (body_of file e))) e.place (bad_uri file es) u in
      judged_false (is_id e.kind) (legal (body_of file e)) (first_no_id e.kind p.0) q.0

  steering-legal : (es : List Entry) → out_of_order es ≡ None → bad_uri file es ≡ None → legal (steering_in file es) ≡ true
  steering-legal [] o u = let z : ◌≡◌ {A = ℕ} 0 1 = cc in absurd (omega arith)
  steering-legal (e ∷ es) o u = legal-whole (body_of file e) (first-legal e es o u)

  steering-whole : (es : List Entry) → out_of_order es ≡ None → fragment (steering_in file es) ≡ None
  steering-whole [] o = let z : ◌≡◌ {A = ℕ} 0 1 = cc in absurd (omega arith)
  steering-whole (e ∷ es) o = no_fragment (body_of file e)

  some_entry : (es : List Entry) → out_of_order es ≡ None → 0 < length es
  some_entry [] o = let z : ◌≡◌ {A = ℕ} 0 1 = cc in absurd (omega arith)
  some_entry (e ∷ es) o = omega arith

-- each rule is kept
rule_kept : (n : ℕ) (o : Option ℕ) (rs : List Rule) → is_ok (and_then (verdict n o) (judged rs)) ≡ true → (o ≡ None) × (is_ok (judged rs) ≡ true)
rule_kept n None rs e = (refl, e)
rule_kept n (Some p) rs e = absurd (false≢true e)

all_kept : (rs : List Rule) → is_ok (judged rs) ≡ true → AllByRecursion (λ (r : Rule). r.offence ≡ None) rs
all_kept [] e = tt
all_kept (r ∷ rs) e = let p = rule_kept r.number r.offence rs e in (p.0, all_kept rs p.1)

module _ (file : List ℕ) (sound : is_ok (checked file) ≡ true) where
  pub kept : AllByRecursion (λ (r : Rule). r.offence ≡ None) (layout file ++ sense file)
  kept = all_kept (layout file ++ sense file) sound

  fits_kept : contents_long file ≡ None
  fits_kept = kept.1.1.1.0

  pub within-kept : overlong (length file) 0 (contents file) ≡ None
  within-kept = kept.1.1.1.1.1.0

  pub order_kept : out_of_order (contents file) ≡ None
  order_kept = kept.1.1.1.1.1.1.1.1.0

  ids-kept : bad_id file (contents file) ≡ None
  ids-kept = kept.1.1.1.1.1.1.1.1.1.0

  repeats-kept : repeated file [] (contents file) ≡ None
  repeats-kept = kept.1.1.1.1.1.1.1.1.1.1.0

  pub uris-kept : bad_uri file (contents file) ≡ None
  uris-kept = kept.1.1.1.1.1.1.1.1.1.1.1.0

  counts_kept : bad_count file (contents file) ≡ None
  counts_kept = kept.1.1.1.1.1.1.1.1.1.1.1.1.0

  pub sound_fits : spot (count_of file) ≤ length file
  sound_fits = ltb-false (length file) (spot (count_of file)) (none-further (ltb (length file) (spot (count_of file))) 4 None fits_kept).0

  pub sound_some : 0 < length (contents file)
  sound_some = some_entry file (contents file) order_kept

  counted : (eqb (length (pathways_in file (contents file))) 0 ≡ false) × (overrun 0 0 0 (contents file) ≡ None)
  counted = none-further (eqb (length (pathways_in file (contents file))) 0) 4 (overrun 0 0 0 (contents file)) counts_kept

  pub sound_few : length (pathways_in file (contents file)) ≤ 16
  sound_few = omega (arith, ids_limit file 0 0 0 (contents file) counted.1 (omega arith))

  pub sound_lawful : Lawful (pathways_in file (contents file))
  sound_lawful =
      record {
        some = omega (arith, eqb-false (length (pathways_in file (contents file))) 0 counted.0);
        few = omega (arith, sound_few);
        different = (ids_fresh file [] (contents file) repeats-kept).different;
        each = each-lawful file 0 0 0 (contents file) ids-kept uris-kept counted.1;
      }

  pub sound_described : Described (meaning_of file) (pathways_in file (contents file))
  sound_described =
      record {
        same = refl;
        few = sound_few;
        steering = steering-legal file (contents file) order_kept uris-kept;
        whole = steering-whole file (contents file) order_kept;
      }
