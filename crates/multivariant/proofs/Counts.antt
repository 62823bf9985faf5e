-- Streams counted one by one. Assumes nothing.
use Rattle.std.proofs.Common.{◌≡◌, ℕ, zero, suc, ◌+◌, ◌≤◌, Bool, true, false, cond, eqb, List, [], ◌∷◌, ◌++◌, length, take, drop, Some, sym, refl, ap, ◌∙◌, arith}
use Rattle.std.proofs.lemmas.Bool.{cond-true, cond-false}
use Rattle.std.specs.List.{filter}
use Rattle.uri.specs.Cuts.{onto, parts}
use Rattle.tags.specs.declared.kind.Kind.{Kind}
use Rattle.tags.specs.declared.kind.Kind.TheVariants.{Steering, Stream, Uri, Other}
use Rattle.tags.specs.Lines.{Row, kind_of, now_waits, trimmed, is_more, rows, rows_of}
use Rattle.multivariant.specs.Streams.{Served, no_tag, streams_in, streams_of, pathway_of, is_of, count_of}
use Rattle.multivariant.specs.Offences.{excess, pathways_now, overrun}

-- the streams that a filter lets through are counted
pub counted : (id : List ℕ) (ss : List Served) → length (filter (is_of id) ss) ≡ count_of id ss
counted id [] = refl
counted id (s ∷ ss) = either (is_of id s) (counted id ss)
  where
    either : (b : Bool) → length (filter (is_of id) ss) ≡ count_of id ss → length (cond b (s ∷ filter (is_of id) ss) (filter (is_of id) ss)) ≡ cond b (suc (count_of id ss)) (count_of id ss)
    either true e = ap suc e
    either false e = e

-- one more stream stands before the others
one-before : (n : ℕ) (all : List Served) (s : Served) (ss : List Served) → drop n all ≡ s ∷ ss → (take (n + 1) all ≡ take n all ++ s ∷ []) × (drop (n + 1) all ≡ ss)
one-before zero all s ss e = (ap (take 1) e, ap (drop 1) e)
one-before (suc n) [] s ss e = absurd (omega (arith, ap length e))
one-before (suc n) (x ∷ xs) s ss e =
    let on : suc n + 1 ≡ suc (n + 1) = omega arith in
    let (front, back) = one-before n xs s ss e in
    (ap (λ (m : ℕ). take m (x ∷ xs)) on ∙ ap (λ (l : List Served). x ∷ l) front, ap (λ (m : ℕ). drop m (x ∷ xs)) on ∙ back)

module _ (all : List Served) (n pathways same : ℕ) (s : Served) (ss : List Served) (here : drop n all ≡ s ∷ ss) (is : same ≡ count_of (pathway_of s) (take n all)) where
  overrun_on : (p : ℕ) → excess pathways same ≡ false → p ≡ pathways_now pathways same
      → overrun pathways (take n all) (s ∷ ss) ≡ overrun p (take (n + 1) all) ss
  overrun_on p e f =
      cond-false (excess pathways (count_of (pathway_of s) (take n all))) (Some s.tag.place)
      (overrun (pathways_now pathways (count_of (pathway_of s) (take n all))) (take n all ++ s ∷ []) ss) (ap (excess pathways) (sym is) ∙ e)
      ∙ ap (λ (m : ℕ). overrun (pathways_now pathways m) (take n all ++ s ∷ []) ss) (sym is)
      ∙ ap (λ (m : ℕ). overrun m (take n all ++ s ∷ []) ss) (sym f)
      ∙ ap (λ (l : List Served). overrun p l ss) (sym (one-before n all s ss here).0)

at_most : (pathways same : ℕ) → pathways_now pathways same ≤ pathways + 1
at_most pathways same = either (eqb same 0)
  where
    either : (b : Bool) → cond b (pathways + 1) pathways ≤ pathways + 1
    either true = omega arith
    either false = omega arith

-- a text has few lines, and lines have few streams
parts_few : (b : ℕ) (text : List ℕ) → length (parts b text) ≤ length text + 1
parts_few b [] = omega arith
parts_few b (x ∷ xs) = either (eqb x b) (parts b xs) (parts_few b xs)
  where
    either : (t : Bool) (ps : List (List ℕ)) → length ps ≤ length xs + 1 → length (onto x t ps) ≤ length (x ∷ xs) + 1
    either true ps h = omega arith
    either false [] h = omega arith
    either false (p ∷ ps) h = omega arith

rows_few : (at : ℕ) (waits : Bool) (ps : List (List ℕ)) → length (rows at waits ps) ≡ length ps
rows_few at waits [] = refl
rows_few at waits (p ∷ ps) = ap suc (rows_few (at + length p + 1) (now_waits waits (kind_of waits (trimmed (is_more ps) p))) ps)

streams_few : (tag : Row) (rows : List Row) → length (streams_in tag rows) ≤ length rows
streams_few tag [] = omega arith
streams_few tag (r ∷ rs) = either r.kind (λ t. streams_few t rs)
  where
    either : (k : Kind)
        → ((t : Row) → length (streams_in t rs) ≤ length rs)
        → length {A = Served} (elim k [
          | Steering ↦ streams_in tag rs
          | Stream ↦ streams_in r rs
          | Uri ↦ record { tag = tag; uri = r } ∷ streams_in no_tag rs
          | Other ↦ streams_in tag rs
        ])
        ≤ suc (length rs)
    either Steering few = omega (arith, few tag)
    either Stream few = omega (arith, few r)
    either Uri few = omega (arith, few no_tag)
    either Other few = omega (arith, few tag)

pub few_streams : (text : List ℕ) → length (streams_of text) ≤ length text + 1
few_streams text = omega (arith, streams_few no_tag (rows_of text), rows_few 0 false (parts 10 text), parts_few 10 text)

-- the search for a count that passes its limit, at the stream s
module _ (all rest ss : List Served) (s : Served) (n pathways same : ℕ) (so_far : overrun 0 [] all ≡ overrun pathways (take n all) rest) (first : rest ≡ s ∷ ss) (here : drop n all ≡ rest)
    (is : same ≡ count_of (pathway_of s) (take n all)) where
  pub overrun_here : excess pathways same ≡ true → overrun 0 [] all ≡ Some s.tag.place
  overrun_here e =
      so_far
      ∙ ap (overrun pathways (take n all)) first
      ∙ cond-true (excess pathways (count_of (pathway_of s) (take n all))) (Some s.tag.place)
      (overrun (pathways_now pathways (count_of (pathway_of s) (take n all))) (take n all ++ s ∷ []) ss) (ap (excess pathways) (sym is) ∙ e)

  pub overrun_again : (later : ℕ) → pathways ≤ n → excess pathways same ≡ false → later ≡ pathways_now pathways same
      → (overrun 0 [] all ≡ overrun later (take (n + 1) all) ss) × (drop (n + 1) all ≡ ss) × (later ≤ n + 1)
  overrun_again later few e f = (
    so_far ∙ ap (overrun pathways (take n all)) first ∙ overrun_on all n pathways same s ss (here ∙ first) is later e f,
    (one-before n all s ss (here ∙ first)).1,
    omega (arith, at_most pathways same),
  )
