-- What is looked up in the index is what the meaning says. Assumes nothing.
use Rattle.std.proofs.Common.{◌≡◌, ℕ, zero, suc, ◌<◌, ◌≤◌, Bool, true, false, cond, ltb, List, [], ◌∷◌, length, get_or, drop, is_some, Some, None, Option, sym, refl, ap, ◌∙◌, subst, ⊎_elim, arith}
use Rattle.std.specs.List.{AllByRecursion}
use Rattle.std.specs.Str.{bytes_eq}
use Rattle.std.proofs.lemmas.List.{length-map}
use Rattle.std.proofs.lemmas.Bool.{cond-true, cond-false, lt-ltb, le-ltb, ltb-true, ltb-false, cases_Bool, false≢true}
use Rattle.std.proofs.ByRecursion.{All-get_or}
use Rattle.pathways.specs.Limits.{LawfulPathway}
use Rattle.pathways.specs.Meaning.{Pathway, nowhere}
use Rattle.pathways.specs.Questions as questions
use Rattle.uri.specs.Legal.{legal}
use Rattle.references.specs.Resolution.{resolved}
use Rattle.tags.specs.Attributes.{or_nothing}
use Rattle.playlist.specs.Items.{Item, target_of, members_of, pathway_for, pathways_of, ids_in, uris_in}
use Rattle.playlist.specs.Lookups.{nth_in, count_in, step_to, uri_in, count_for, uri_for, target_for}
use Rattle.playlist.proofs.Looking.{map_at}

abbrev lying : List ℕ → List ℕ → Item
lying id uri = record { id = id; uri = uri }

abbrev first : List (List ℕ) → List ℕ
first [] = []
first (x ∷ xs) = x

-- the pathway of a number, by its ID
abbrev pathway_by : List ℕ → List Item → Option (List ℕ) → Option Pathway
pathway_by own items None = None
pathway_by own items (Some id) = Some (pathway_for own items id)

module _ (own : List ℕ) (items : List Item) (order : List (List ℕ)) where
  numbered_is : (n : ℕ) (b : Bool) → ltb n (length order) ≡ b
      → cond (ltb n (length (pathways_of own items order))) (Some (get_or (pathways_of own items order) n nowhere)) None ≡ pathway_by own items (cond b (Some (get_or order n [])) None)
  numbered_is n true e =
      let h : n < length order = ltb-true n (length order) e in
      cond-true (ltb n (length (pathways_of own items order))) (Some (get_or (pathways_of own items order) n nowhere)) None
      (lt-ltb n (length (pathways_of own items order)) (omega (arith, length-map order (pathway_for own items))))
      ∙ ap Some (map_at (pathway_for own items) order n [] nowhere h)
  numbered_is n false e =
      let h : length order ≤ n = ltb-false n (length order) e in
      cond-false (ltb n (length (pathways_of own items order))) (Some (get_or (pathways_of own items order) n nowhere)) None
      (le-ltb n (length (pathways_of own items order)) (omega (arith, length-map order (pathway_for own items))))

  pub numbered_by : (n : ℕ) → questions.numbered (pathways_of own items order) n ≡ pathway_by own items (nth_in order n)
  numbered_by n = numbered_is n (ltb n (length order)) refl

-- the number of members
count_step : (own id : List ℕ) (x : Item) (xs : List Item) (b : Bool) → length (members_of own id xs) ≡ count_in id xs
    → length (cond b (target_of own x.uri ∷ members_of own id xs) (members_of own id xs)) ≡ cond b (suc (count_in id xs)) (count_in id xs)
count_step own id x xs true e = ap suc e
count_step own id x xs false e = e

pub count_is : (own id : List ℕ) (items : List Item) → length (members_of own id items) ≡ count_in id items
count_is own id [] = refl
count_is own id (x ∷ xs) = count_step own id x xs (bytes_eq x.id id) (count_is own id xs)

members_of_lem : (own : List ℕ) (items : List Item) (o : Option (List ℕ)) → count_for items o ≡ questions.members_of (pathway_by own items o)
members_of_lem own items None = refl
members_of_lem own items (Some id) = ap Some (sym (count_is own id items))

pub members_by : (own : List ℕ) (items : List Item) (order : List (List ℕ)) (n : ℕ)
    → count_for items (nth_in order n) ≡ questions.members_of (questions.numbered (pathways_of own items order) n)
members_by own items order n = members_of_lem own items (nth_in order n) ∙ ap questions.members_of (sym (numbered_by own items order n))

-- a legal target is what the reference stands for
there : (o : Option (List ℕ)) → legal (or_nothing o) ≡ true → o ≡ Some (or_nothing o)
there None e = absurd (false≢true e)
there (Some t) e = refl

ltb_suc : (m n : ℕ) → ltb (suc m) (suc n) ≡ ltb m n
ltb_suc m n = ⊎_elim
    (λ e. lt-ltb (suc m) (suc n) (omega (arith, ltb-true m n e)) ∙ sym e)
    (λ e. le-ltb (suc m) (suc n) (omega (arith, ltb-false m n e)) ∙ sym e)
    (cases_Bool (ltb m n))

-- the member of a number
module _ (own id : List ℕ) where
  abbrev member_in : List (List ℕ) → ℕ → Option (List ℕ)
  member_in us m = cond (ltb m (length us)) (Some (get_or us m [])) None

  member-first : (x : Item) (xs : List Item) (m : ℕ) → legal (target_of own x.uri) ≡ true → ((k : ℕ) → target_for own (uri_in id k xs) ≡ member_in (members_of own id xs) k)
      → target_for own (step_to m x.uri (λ k. uri_in id k xs)) ≡ member_in (target_of own x.uri ∷ members_of own id xs) m
  member-first x xs zero e later = there (resolved own x.uri) e ∙ sym (cond-true (ltb 0 (suc (length (members_of own id xs)))) (Some (target_of own x.uri)) None (lt-ltb 0 (suc (length (members_of own id xs))) (omega arith)))
  member-first x xs (suc m) e later = later m ∙ ap (λ (b : Bool). cond b (Some (get_or (members_of own id xs) m [])) None) (sym (ltb_suc m (length (members_of own id xs))))

  member_step : (x : Item) (xs : List Item) (m : ℕ) (b : Bool) → AllByRecursion (λ u. legal u ≡ true) (cond b (target_of own x.uri ∷ members_of own id xs) (members_of own id xs))
      → (AllByRecursion (λ u. legal u ≡ true) (members_of own id xs) → (k : ℕ) → target_for own (uri_in id k xs) ≡ member_in (members_of own id xs) k)
      → target_for own (cond b (step_to m x.uri (λ k. uri_in id k xs)) (uri_in id m xs)) ≡ member_in (cond b (target_of own x.uri ∷ members_of own id xs) (members_of own id xs)) m
  member_step x xs m true good later = member-first x xs m good.0 (later good.1)
  member_step x xs m false good later = later good m

  member_is : (items : List Item) → AllByRecursion (λ u. legal u ≡ true) (members_of own id items) → (m : ℕ) → target_for own (uri_in id m items) ≡ member_in (members_of own id items) m
  member_is [] good m = sym (cond-false (ltb m 0) (Some (get_or [] m [])) None (le-ltb m 0 (omega arith)))
  member_is (x ∷ xs) good m = member_step x xs m (bytes_eq x.id id) good (λ g k. member_is xs g k)

-- each pathway of the order has legal members
abbrev Good : List ℕ → List Item → List ℕ → Type 0
Good own items id = AllByRecursion (λ u. legal u ≡ true) (members_of own id items)

member_of_lem : (own : List ℕ) (items : List Item) (o : Option (List ℕ)) (m : ℕ) → ((id : List ℕ) → o ≡ Some id → Good own items id)
    → target_for own (uri_for items m o) ≡ questions.member_of (pathway_by own items o) m
member_of_lem own items None m good = refl
member_of_lem own items (Some id) m good = member_is own id items (good id refl) m

-- the pathways that a lawful order numbers have legal members
nth_good : (own : List ℕ) (items : List Item) (order : List (List ℕ)) (n : ℕ) → AllByRecursion (Good own items) order → (id : List ℕ) → nth_in order n ≡ Some id → Good own items id
nth_good own items order n good id e = ⊎_elim
    (λ inside.
    subst (Good own items) (some_inj (sym (cond-true (ltb n (length order)) (Some (get_or order n [])) None inside) ∙ e))
    (All-get_or (Good own items) order n [] (ltb-true n (length order) inside) good))
    (λ beyond. absurd (none-some (sym (cond-false (ltb n (length order)) (Some (get_or order n [])) None beyond) ∙ e)))
    (cases_Bool (ltb n (length order)))
  where
    some_inj : {x y : List ℕ} → ◌≡◌ {A = Option (List ℕ)} (Some x) (Some y) → x ≡ y
    some_inj p = ap or_nothing p

    none-some : {x : List ℕ} → ◌≡◌ {A = Option (List ℕ)} None (Some x) → ⊥
    none-some p = false≢true (ap is_some p)

good_members : (own : List ℕ) (items : List Item) (order : List (List ℕ)) → AllByRecursion LawfulPathway (pathways_of own items order) → AllByRecursion (Good own items) order
good_members own items [] good = tt
good_members own items (id ∷ ids) good = (good.0.uris, good_members own items ids good.1)

pub member_by : (own : List ℕ) (items : List Item) (order : List (List ℕ)) (n m : ℕ) → AllByRecursion LawfulPathway (pathways_of own items order)
    → target_for own (uri_for items m (nth_in order n)) ≡ questions.member_of (questions.numbered (pathways_of own items order) n) m
member_by own items order n m good =
    member_of_lem own items (nth_in order n) m (nth_good own items order n (good_members own items order good))
    ∙ ap (λ (p : Option Pathway). questions.member_of p m) (sym (numbered_by own items order n))

-- two lists of items with the same IDs and the same URIs
pub same-items : (xs ys : List Item) → ids_in xs ≡ ids_in ys → uris_in xs ≡ uris_in ys → xs ≡ ys
same-items [] [] p q = refl
same-items [] (y ∷ ys) p q = absurd (omega (arith, ap length p))
same-items (x ∷ xs) [] p q = absurd (omega (arith, ap length p))
same-items (x ∷ xs) (y ∷ ys) p q =
    ap (λ (l : List ℕ). lying l x.uri ∷ xs) (ap first p)
    ∙ ap (λ (l : List ℕ). lying y.id l ∷ xs) (ap first q)
    ∙ ap (λ (l : List Item). y ∷ l) (same-items xs ys (ap (drop 1) p) (ap (drop 1) q))
