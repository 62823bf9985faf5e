-- The entries that bytes stand for. Assumes nothing.
use Rattle.std.proofs.Common.{◌≡◌, ℕ, zero, suc, ◌-◌, ◌*◌, ◌≤◌, List, [], ◌∷◌, length, get_or, take, drop, sym, refl, ap, ◌∙◌, arith}
use Rattle.std.proofs.lemmas.List.{take_rest, drop_all, length-drop}
use Rattle.table.specs.declared.kind.Kind.{Kind}
use Rattle.table.specs.declared.entry.Entry.{Entry}
use Rattle.table.specs.Contents.{pair, kind_of, count_of, spot, entry_of, entries_of, entries_in, contents}

pub length-entries : (n : ℕ) (bytes : List ℕ) → length (entries_of n bytes) ≡ n
length-entries zero bytes = refl
length-entries (suc n) bytes = ap suc (length-entries n (drop 5 bytes))

pub length-contents : (file : List ℕ) → length (contents file) ≡ count_of file
length-contents file = length-entries (count_of file) (drop 6 file)

-- behind so many entries there are no more
pub no_more : (file : List ℕ) (i : ℕ) → count_of file ≤ i → drop i (contents file) ≡ []
no_more file i h = drop_all i (contents file) (rw (length-contents file) h)

-- the first entry, and what is left behind its bytes
pub first_entry : (bs : List ℕ) (k : Kind) (p s : ℕ) → 5 ≤ length bs
    → k ≡ kind_of (get_or bs 0 0) → p ≡ pair (get_or bs 1 0) (get_or bs 2 0) → s ≡ pair (get_or bs 3 0) (get_or bs 4 0)
    → entries_in bs ≡ record { kind = k; place = p; size = s } ∷ entries_in (take (length bs - 5) (drop 5 bs))
first_entry [] k p s h ek ep es = absurd (omega arith)
first_entry (a ∷ []) k p s h ek ep es = absurd (omega arith)
first_entry (a ∷ b ∷ []) k p s h ek ep es = absurd (omega arith)
first_entry (a ∷ b ∷ c ∷ []) k p s h ek ep es = absurd (omega arith)
first_entry (a ∷ b ∷ c ∷ d ∷ []) k p s h ek ep es = absurd (omega arith)
first_entry (a ∷ b ∷ c ∷ d ∷ e ∷ rest) k p s h ek ep es =
    let kind-is = sym ek in
    let place-is = sym ep in
    let size-is = sym es in
    let left = sym (take_rest (a ∷ b ∷ c ∷ d ∷ e ∷ rest) 5) in
    (λ j. record { kind = kind-is j; place = place-is j; size = size-is j } ∷ entries_in (left j))

whole : (n : ℕ) (bs : List ℕ) → 5 * n ≤ length bs → entries_in (take (5 * n) bs) ≡ entries_of n bs
whole zero bs h = refl
whole (suc n) [] h = absurd (omega arith)
whole (suc n) (a ∷ []) h = absurd (omega arith)
whole (suc n) (a ∷ b ∷ []) h = absurd (omega arith)
whole (suc n) (a ∷ b ∷ c ∷ []) h = absurd (omega arith)
whole (suc n) (a ∷ b ∷ c ∷ d ∷ []) h = absurd (omega arith)
whole (suc n) (a ∷ b ∷ c ∷ d ∷ e ∷ rest) h =
    let bs = a ∷ b ∷ c ∷ d ∷ e ∷ rest in
    let on : 5 * suc n ≡ suc (suc (suc (suc (suc (5 * n))))) = omega arith in
    ap (λ (k : ℕ). entries_in (take k bs)) on ∙ ap (λ (es : List Entry). entry_of bs ∷ es) (whole n rest (omega arith))

-- the bytes of the contents
pub contents_in : (file : List ℕ) (end : ℕ) → spot (count_of file) ≤ length file → end ≡ spot (count_of file) → entries_in (take (end - 6) (drop 6 file)) ≡ contents file
contents_in file end fits is =
    let len : end - 6 ≡ 5 * count_of file = omega arith in
    ap (λ (k : ℕ). entries_in (take k (drop 6 file))) len ∙ whole (count_of file) (drop 6 file) (omega (arith, length-drop 6 file))
