-- Where the IDs differ, none is repeated. Assumes nothing.
use Rattle.std.proofs.Common.{◌≡◌, ℕ, Bool, true, false, cond, ◌&&◌, List, [], ◌∷◌, ◌++◌, Some, None, refl, ◌∙◌}
use Rattle.std.specs.List.{AllByRecursion}
use Rattle.std.specs.Str.{bytes_eq}
use Rattle.std.proofs.lemmas.Slice.Eq.{bytes_eq-Decides}
use Rattle.std.proofs.lemmas.Bool.{cond-false, or_from, and_left, and_right}
use Rattle.pathways.specs.Meaning.{ids}
use Rattle.table.specs.declared.entry.Entry.{Entry}
use Rattle.table.specs.Contents.{body_of, is_id}
use Rattle.table.specs.Reading.{pathway_at, pathways_in}
use Rattle.table.specs.Offences.{has_id, repeated}
use Rattle.table.proofs.Lawful.{Fresh, has_append}

not_same : (x y : List ℕ) → (x ≡ y → ⊥) → bytes_eq x y ≡ false
not_same x y h = go (bytes_eq x y) (bytes_eq-Decides x y).0
  where
    go : (b : Bool) → (b ≡ true → x ≡ y) → b ≡ false
    go true d = absurd (h (d refl))
    go false d = refl

module _ (file : List ℕ) where
  abbrev New : List Entry → List (List ℕ) → Type 0
  New before xs = AllByRecursion (λ (x : List ℕ). has_id file x before ≡ false) xs

  -- one entry more that is none of the IDs
  still_new : (before : List Entry) (e : Entry) (xs : List (List ℕ)) → New before xs
      → AllByRecursion (λ (x : List ℕ). (is_id e.kind && bytes_eq (body_of file e) x) ≡ false) xs → New (before ++ e ∷ []) xs
  still_new before e [] h k = tt
  still_new before e (x ∷ xs) h k =
      let first = has_append file x before e ∙ or_from (has_id file x before) (is_id e.kind && bytes_eq (body_of file e) x) h.0 k.0 in
      (first, still_new before e xs h.1 k.1)

  no_id : (e : Entry) (xs : List (List ℕ)) → is_id e.kind ≡ false → AllByRecursion (λ (x : List ℕ). (is_id e.kind && bytes_eq (body_of file e) x) ≡ false) xs
  no_id e [] t = tt
  no_id e (x ∷ xs) t = (and_left (is_id e.kind) (bytes_eq (body_of file e) x) t, no_id e xs t)

  other_id : (e : Entry) (xs : List (List ℕ)) → AllByRecursion (λ (x : List ℕ). body_of file e ≡ x → ⊥) xs → AllByRecursion (λ (x : List ℕ). (is_id e.kind && bytes_eq (body_of file e) x) ≡ false) xs
  other_id e [] h = tt
  other_id e (x ∷ xs) h =
      (and_right (is_id e.kind) (bytes_eq (body_of file e) x) (not_same (body_of file e) x h.0), other_id e xs h.1)

  pub none-repeated : (before es : List Entry) → Fresh file before (ids (pathways_in file es)) → repeated file before es ≡ None
  none-repeated before [] h = refl
  none-repeated before (e ∷ es) h = go (is_id e.kind) refl h (none-repeated (before ++ e ∷ []) es)
    where
      go : (b : Bool) → is_id e.kind ≡ b
          → Fresh file before (ids (cond b (pathway_at file (e ∷ es) ∷ pathways_in file es) (pathways_in file es)))
          → (Fresh file (before ++ e ∷ []) (ids (pathways_in file es)) → repeated file (before ++ e ∷ []) es ≡ None)
          → repeated file before (e ∷ es) ≡ None
      go true t f more =
          cond-false (is_id e.kind && has_id file (body_of file e) before) (Some e.place) (repeated file (before ++ e ∷ []) es) (and_right (is_id e.kind) (has_id file (body_of file e) before) f.new.0)
          ∙ more (record { different = f.different.1; new = still_new before e (ids (pathways_in file es)) f.new.1 (other_id e (ids (pathways_in file es)) f.different.0) })
      go false t f more =
          cond-false (is_id e.kind && has_id file (body_of file e) before) (Some e.place) (repeated file (before ++ e ∷ []) es) (and_left (is_id e.kind) (has_id file (body_of file e) before) t)
          ∙ more (record { different = f.different; new = still_new before e (ids (pathways_in file es)) f.new (no_id e (ids (pathways_in file es)) t) })

  -- no ID stands before the first entry
  pub all_new : (xs : List (List ℕ)) → New [] xs
  all_new [] = tt
  all_new (x ∷ xs) = (refl, all_new xs)
