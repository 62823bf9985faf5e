-- The rules, entry by entry, where the loops of the check do not show them by themselves. Assumes nothing.
use Rattle.std.proofs.Common.{◌≡◌, ℕ, suc, ◌+◌, ◌≤◌, Bool, true, false, cond, not, ◌||◌, eqb, leb, List, [], ◌∷◌, length, get_or, drop, Some, None, Option, MatchOption, sym, refl, ap, ◌∙◌, arith}
use Rattle.std.specs.Option.{option_to_list}
use Rattle.std.specs.List.{list_any}
use Rattle.std.specs.Iterator.Adapters.{enumerate_source, enumerate_count}
use Rattle.std.specs.declared.iter.Enumerate.{Enumerate}
use Rattle.std.proofs.lemmas.Bool.{cond-true, cond-false, eq-eqb, ne_eqb, le-leb, and_from, not_from_true}
use Rattle.table.specs.declared.kind.Kind.{Kind}
use Rattle.table.specs.declared.kind.Kind.TheVariants.{Steering, Id, Member, Unknown}
use Rattle.table.specs.declared.entry.Entry.{Entry}
use Rattle.table.specs.declared.contents.Entries.{Entries}
use Rattle.table.specs.Contents.{headed, spot, is_id}
use Rattle.table.specs.Reading.{pathway_at, pathways_in}
use Rattle.table.specs.Parts.{entries_left}
use Rattle.table.specs.Offences.{bad_header, misplaced, end_of, follows, disordered, member_first, excess, ids_now, members_now, overrun}

pub good_header : (file : List ℕ) → 4 ≤ length file → get_or file 0 0 ≡ 83 → get_or file 1 0 ≡ 84 → get_or file 2 0 ≡ 1 → get_or file 3 0 ≤ 1 → bad_header file ≡ None
good_header file h s t o d =
    cond-false (not (headed file)) (Some 0) None
    (not_from_true (headed file)
    (and_from _ _ (le-leb 4 (length file) h)
    (and_from _ _ (eq-eqb (get_or file 0 0) 83 s) (and_from _ _ (eq-eqb (get_or file 1 0) 84 t) (and_from _ _ (eq-eqb (get_or file 2 0) 1 o) (le-leb (get_or file 3 0) 1 d))))))

-- the entries that a loop has left, and the number of the first
abbrev pub left : Enumerate Entries → List Entry
left it = entries_left (enumerate_source it)

abbrev pub number : Enumerate Entries → ℕ
number it = enumerate_count it

-- where a loop begins
pub begun : (a b : Enumerate Entries) (s : Entries) (es : List Entry) → a ≡ b → enumerate_source b ≡ s → enumerate_count b ≡ 0 → entries_left s ≡ es → (number a ≡ 0) × (left a ≡ es)
begun a b s es same source count is = (ap number same ∙ count, ap left same ∙ ap entries_left source ∙ is)

-- at an entry e: the entries from here on are e and the rest
module _ (es rest : List Entry) (e : Entry) (step : es ≡ e ∷ rest) where
  pub misplaced_on : (i j due next : ℕ) → j ≡ i + 1 → e.place ≡ due → next ≡ e.place + e.size → misplaced i due es ≡ misplaced j next rest
  misplaced_on i j due next jp h n =
      let to : due + e.size ≡ next = omega arith in
      ap (misplaced i due) step
      ∙ cond-true (eqb e.place due) (misplaced (i + 1) (due + e.size) rest) (Some (spot i)) (eq-eqb e.place due h)
      ∙ ap (λ (k : ℕ). misplaced k (due + e.size) rest) (sym jp)
      ∙ ap (λ (k : ℕ). misplaced j k rest) to

  pub end_on : (due next : ℕ) → e.place ≡ due → next ≡ e.place + e.size → end_of due es ≡ end_of next rest
  end_on due next h n =
      let to : due + e.size ≡ next = omega arith in
      ap (end_of due) step ∙ ap (λ (k : ℕ). end_of k rest) to

  pub ordered_on : (before : Option Kind) (i j : ℕ) → j ≡ i + 1 → follows before e.kind ≡ true → disordered before i es ≡ disordered (Some e.kind) j rest
  ordered_on before i j jp h =
      ap (disordered before i) step
      ∙ cond-true (follows before e.kind) (disordered (Some e.kind) (i + 1) rest) (Some (spot i)) h
      ∙ ap (λ (k : ℕ). disordered (Some e.kind) k rest) (sym jp)

  pub overrun_on : (ids members i j : ℕ) → j ≡ i + 1 → excess ids members e.kind rest ≡ false
      → overrun ids members i es ≡ overrun (ids_now ids e.kind) (members_now members e.kind) j rest
  overrun_on ids members i j jp h =
      ap (overrun ids members i) step
      ∙ cond-false (excess ids members e.kind rest) (Some (spot i)) (overrun (ids_now ids e.kind) (members_now members e.kind) (i + 1) rest) h
      ∙ ap (λ (k : ℕ). overrun (ids_now ids e.kind) (members_now members e.kind) k rest) (sym jp)

-- an iterator that goes one entry ahead, and has es left: a call of `next` gives r, and leaves rest
module _ (es rest here : List Entry) (r : Option Entry) (gave : MatchOption r ((here ≡ []) × (rest ≡ [])) (λ x. here ≡ x ∷ rest)) (is : here ≡ es) where
  pub ahead : rest ≡ drop 1 es
  ahead = go r gave ∙ ap (drop 1) is
    where
      go : (o : Option Entry) → MatchOption o ((here ≡ []) × (rest ≡ [])) (λ x. here ≡ x ∷ rest) → rest ≡ drop 1 here
      go None h = h.1 ∙ ap (drop 1) (sym h.0)
      go (Some x) h = ap (drop 1) (sym h)

  next_first : member_first (option_to_list r) ≡ member_first es
  next_first = go r gave ∙ ap member_first is
    where
      go : (o : Option Entry) → MatchOption o ((here ≡ []) × (rest ≡ [])) (λ x. here ≡ x ∷ rest) → member_first (option_to_list o) ≡ member_first here
      go None h = ap member_first (sym h.0)
      go (Some x) h = ap member_first (sym h)

  pub excess_next : (ids members : ℕ) (k : Kind) → excess ids members k (option_to_list r) ≡ excess ids members k es
  excess_next ids members Steering = refl
  excess_next ids members Id = ap (λ (b : Bool). leb 16 ids || not b) next_first
  excess_next ids members Member = refl
  excess_next ids members Unknown = refl

-- there is a pathway for each ID
pub any_pathway : (file : List ℕ) (es : List Entry) → list_any (λ (e : Entry). is_id e.kind) es ≡ not (eqb (length (pathways_in file es)) 0)
any_pathway file [] = refl
any_pathway file (e ∷ es) = go (is_id e.kind) (any_pathway file es)
  where
    go : (b : Bool) → list_any (λ (x : Entry). is_id x.kind) es ≡ not (eqb (length (pathways_in file es)) 0)
        → (b || list_any (λ (x : Entry). is_id x.kind) es) ≡ not (eqb (length (cond b (pathway_at file (e ∷ es) ∷ pathways_in file es) (pathways_in file es))) 0)
    go true more = sym (ap not (ne_eqb (suc (length (pathways_in file es))) 0 (λ z. omega arith)))
    go false more = more

-- an entry adds at most one to each count
pub ids_few : (n : ℕ) (k : Kind) → ids_now n k ≤ n + 1
ids_few n Steering = omega arith
ids_few n Id = omega arith
ids_few n Member = omega arith
ids_few n Unknown = omega arith

pub members_few : (n : ℕ) (k : Kind) → members_now n k ≤ n + 1
members_few n Steering = omega arith
members_few n Id = omega arith
members_few n Member = omega arith
members_few n Unknown = omega arith
