-- What holds of every answer. Assumes nothing.
use Rattle.std.proofs.Common.{◌≡◌, ℕ, ◌+◌, Bool, true, false, cond, not, ◌&&◌, ◌||◌, eqb, leb, ◌⊎◌, List, [], ◌∷◌, ◌++◌, length, Some, None, codes, Option, sym, refl, ap, ◌∙◌, subst, inl, inr, ⊎_elim}
use Rattle.std.proofs.lemmas.Bool.{cond_both, cond-true, and_parts, and_from, or_left, false≢true, true≢false}
use Rattle.uri.specs.Cuts.{before, holds}
use Rattle.uri.specs.Splits.{Split, split}
use Rattle.uri.specs.Legal.{is_scheme, is_authority, is_path, is_query, if_present, present, legal_parts, legal}
use Rattle.uri.proofs.Free.{Free, free_join, free_take}
use Rattle.references.specs.Laws.{OnlyLegal, NoDots, SamePath, Undotted, Itself}
use Rattle.references.specs.Paths.{last_slash, past, directory, without_dots, Absolute}
use Rattle.references.specs.Resolution.{is_there, is_empty, is_rooted, or_else, transformed, recomposed, is_reference, if_legal, resolved}
use Rattle.references.specs.Views.{Pieces, directory_for, chosen, meant}
use Rattle.references.proofs.Named.{without_walk, walk_absolute, walk_named, without_same, without_keeps}
use Rattle.references.proofs.Pieces.{by_case, chosen_means, placed_absolute, split_rooted}
use Rattle.references.proofs.Recomposed.{SchemeFree, OwnerFree, QueryFree, Tidy, split_tidy, path_back, recomposed-split}

-- what holds of none, and of the text that the parts make if it is legal, holds of the answer
module _ (base ref : List ℕ) where
  abbrev target : Split
  target = transformed (split base) (split ref)

  by_answer :
      (P : Option (List ℕ) → Type 0) → P None → (legal base ≡ true → is_there target.authority ≡ true → legal (recomposed target) ≡ true → P (Some (recomposed target)))
      → P (resolved base ref)
  by_answer P none some =
      cond_both (legal base && (is_reference ref && is_there target.authority)) (if_legal (recomposed target)) None P
      (λ e.
      let (good, more) = and_parts (legal base) (is_reference ref && is_there target.authority) e in
      cond_both (legal (recomposed target)) (Some (recomposed target)) None P (some good (and_parts (is_reference ref) (is_there target.authority) more).1) (λ _. none))
      (λ _. none)

  pub only_legal : (answer : Option (List ℕ)) → answer ≡ resolved base ref → OnlyLegal answer
  only_legal answer e = subst OnlyLegal (sym e) (by_answer OnlyLegal tt (λ _ _ good. good))

present_there : (test : List ℕ → Bool) (o : Option (List ℕ)) → present test o ≡ true → is_there o ≡ true
present_there test None e = e
present_there test (Some x) e = refl

-- a legal URI has a scheme, an authority and a path of legal bytes
module _ (text : List ℕ) (good : legal text ≡ true) where
  short_and_parts : (leb (length text) 512 ≡ true) × (legal_parts (split text) ≡ true)
  short_and_parts = and_parts (leb (length text) 512) (legal_parts (split text)) good

  halves : ((present is_scheme (split text).scheme && present is_authority (split text).authority) ≡ true) × ((is_path (split text).path && (if_present is_query (split text).query && if_present is_query (split text).fragment)) ≡ true)
  halves = and_parts _ _ short_and_parts.1

  heads : (present is_scheme (split text).scheme ≡ true) × (present is_authority (split text).authority ≡ true)
  heads = and_parts _ _ halves.0

  scheme_there : is_there (split text).scheme ≡ true
  scheme_there = present_there is_scheme (split text).scheme heads.0

  authority_there : is_there (split text).authority ≡ true
  authority_there = present_there is_authority (split text).authority heads.1

  path-legal : is_path (split text).path ≡ true
  path-legal = (and_parts _ _ halves.1).0

none_from : (o : Option (List ℕ)) → is_there o ≡ false → o ≡ None
none_from None e = refl
none_from (Some x) e = absurd (true≢false e)

empty_from : (xs : List ℕ) → is_empty xs ≡ true → xs ≡ []
empty_from [] e = refl
empty_from (x ∷ xs) e = absurd (false≢true e)

or_else_free : (a b : Option (List ℕ)) → QueryFree a → QueryFree b → QueryFree (or_else a b)
or_else_free None b f g = g
or_else_free (Some x) b f g = f

past_free : (b : ℕ) → eqb 47 b ≡ false → (o : Option ℕ) (xs : List ℕ) → Free b xs → Free b (past o xs)
past_free b off None xs f = Free.none
past_free b off (Some n) xs f = free_take (n + 1) f

directory_free : (b : ℕ) → eqb 47 b ≡ false → (base : Split) (path : List ℕ) → Free b base.path → Free b (directory_for base path)
directory_free b off base path f =
    cond_both (is_rooted path) [] (cond (is_there base.authority && is_empty base.path) (codes "/") (directory base.path)) (Free b) (λ _. Free.none)
    (λ _. cond_both (is_there base.authority && is_empty base.path) (codes "/") (directory base.path) (Free b) (λ _. Free.more off Free.none) (λ _. past_free b off (last_slash base.path) base.path f))

-- parts with a path whose dot segments are gone
without_tidy :
    (sc au : Option (List ℕ)) (path : List ℕ) (q f : Option (List ℕ)) → SchemeFree sc → OwnerFree au → QueryFree q → Absolute path → Free 63 path → Free 35 path
    → Tidy (record { scheme = sc; authority = au; path = without_dots path; query = q; fragment = f })
without_tidy sc au path q f s o u a asks tails =
    record {
      scheme = s;
      authority = o;
      rooted = λ _. walk_absolute (without_walk path a);
      asks = without_keeps 63 refl a asks;
      tails = without_keeps 35 refl a tails;
      query = u;
    }

-- the parts that a reference stands for can be told from their text, and have no dot segment unless the path is the base's own
module _ (ref : List ℕ) (base : Split) (b : Tidy base) (schemed : is_there base.scheme ≡ true) where
  abbrev parts : Split
  parts = split ref

  abbrev Told : Pieces → Type 0
  Told p = is_there p.parts.authority ≡ true → Tidy (meant p) × (is_there p.parts.scheme ≡ true) × (SamePath ref ⊎ NoDots (meant p).path)

  without : (path : List ℕ) → Absolute path → SamePath ref ⊎ NoDots (without_dots path)
  without path a = inr (walk_named (without_walk path a))

  chosen-told : Told (chosen base parts)
  chosen-told =
      let r = split_tidy ref in
      by_case base parts Told
      (λ e there. (without_tidy parts.scheme parts.authority parts.path parts.query parts.fragment r.scheme r.authority r.query (r.rooted there) r.asks r.tails, e, without parts.path (r.rooted there)))
      (λ _ there. (without_tidy base.scheme parts.authority parts.path parts.query parts.fragment b.scheme r.authority r.query (r.rooted there) r.asks r.tails, schemed, without parts.path (r.rooted there)))
      (λ e f g there. (
        record { scheme = b.scheme; authority = b.authority; rooted = b.rooted; asks = b.asks; tails = b.tails; query = or_else_free parts.query base.query r.query b.query },
        schemed,
        inl (none_from parts.scheme e, none_from parts.authority f, empty_from parts.path g),
      ))
      (λ there.
      let path = directory_for base parts.path ++ parts.path in
      let a : Absolute path = placed_absolute base parts.path there (b.rooted there) in (
        without_tidy base.scheme base.authority path parts.query parts.fragment b.scheme b.authority r.query a
            (free_join (directory_free 63 refl base parts.path b.asks) r.asks) (free_join (directory_free 35 refl base parts.path b.tails) r.tails),
        schemed,
        without path a,
      ))

  pub transformed-told : is_there (transformed base parts).authority ≡ true → SamePath ref ⊎ NoDots (split (recomposed (transformed base parts))).path
  transformed-told there =
      let told = subst (λ (p : Split). is_there p.authority ≡ true → Tidy p × (is_there p.scheme ≡ true) × (SamePath ref ⊎ NoDots p.path)) (chosen_means base parts) chosen-told there in
      ⊎_elim inl (λ n. inr (subst NoDots (sym (path_back (transformed base parts) told.0 told.1 there)) n)) told.2

module _ (base ref : List ℕ) where
  pub undotted : (answer : Option (List ℕ)) → answer ≡ resolved base ref → Undotted ref answer
  undotted answer e =
      subst (Undotted ref) (sym e)
      (by_answer base ref (Undotted ref) tt (λ good there _. transformed-told ref (split base) (split_tidy base) (scheme_there base good) there))

  module _ (good : legal base ≡ true) (own : legal ref ≡ true) (names : NoDots (split ref).path) where
    -- all parts are the reference's own
    target_is : target base ref ≡ split ref
    target_is =
        let r = split ref in
        cond-true (is_there r.scheme) (record { scheme = r.scheme; authority = r.authority; path = without_dots r.path; query = r.query; fragment = r.fragment }) _ (scheme_there ref own)
        ∙ ap (λ (p : List ℕ). record { scheme = r.scheme; authority = r.authority; path = p; query = r.query; fragment = r.fragment }) (without_same r.path (split_rooted ref (authority_there ref own)) names)

    text_is : recomposed (target base ref) ≡ ref
    text_is = ap recomposed target_is ∙ recomposed-split ref

    is_reference_lem : is_reference ref ≡ true
    is_reference_lem =
        and_from (leb (length ref) 512) (is_path (split ref).path && (is_there (split ref).scheme || not (holds 58 (before 47 (split ref).path)))) (short_and_parts ref own).0
        (and_from (is_path (split ref).path) (is_there (split ref).scheme || not (holds 58 (before 47 (split ref).path))) (path-legal ref own)
        (or_left (is_there (split ref).scheme) (not (holds 58 (before 47 (split ref).path))) (scheme_there ref own)))

    same : resolved base ref ≡ Some ref
    same =
        cond-true (legal base && (is_reference ref && is_there (target base ref).authority)) (if_legal (recomposed (target base ref))) None
        (and_from (legal base) (is_reference ref && is_there (target base ref).authority) good
        (and_from (is_reference ref) (is_there (target base ref).authority) is_reference_lem (ap (λ (p : Split). is_there p.authority) target_is ∙ authority_there ref own)))
        ∙ ap if_legal text_is
        ∙ cond-true (legal ref) (Some ref) None own

  pub itself : (answer : Option (List ℕ)) → answer ≡ resolved base ref → Itself base ref answer
  itself answer e good own names = e ∙ same good own names
