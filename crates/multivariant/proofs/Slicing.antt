-- Where streams and the steering tag stand, and the bytes that stand there. Assumes nothing.
use Rattle.std.proofs.Common.{◌≡◌, ℕ, ◌+◌, ◌-◌, ◌<◌, ◌≤◌, Bool, ◌&&◌, leb, List, [], ◌∷◌, length, take, drop, get_or, Some, None, Option, refl, ap, ◌∙◌, ⊎_elim, arith, length-take}
use Rattle.std.proofs.lemmas.List.{length-drop}
use Rattle.std.proofs.lemmas.Bool.{cond-true, cond-false, leb-false, and_cases, cases_Bool}
use Rattle.uri.specs.Cuts.{place}
use Rattle.tags.specs.Places.{Lies}
use Rattle.tags.specs.Lines.{Row}
use Rattle.tags.specs.Attributes.{Found, unquoted}
use Rattle.tags.proofs.Lying.{front_lies, rest_lies, part_lies}
use Rattle.multivariant.specs.Tags.{name_length, list_of}
use Rattle.multivariant.specs.declared.span.Span.{Span}
use Rattle.std.specs.Option.{option_map}
use Rattle.multivariant.specs.Items.{foremost, inner_of}
use Rattle.multivariant.specs.Spans.{sliced, names_in}

none : (xs : List ℕ) → length xs ≡ 0 → [] ≡ xs
none [] e = refl
none (x ∷ xs) e = absurd (omega arith)

abbrev spanned : ℕ → ℕ → Span
spanned from to = record { from = from; to = to }

-- the span of a part holds the part
pub sliced_lies : (text part : List ℕ) (from to : ℕ) → to ≡ from + length part → Lies text from part → sliced text (spanned from to) ≡ part
sliced_lies text part from to e lies = ⊎_elim
    (λ ok.
    let size : to - from ≡ length part = omega arith in
    cond-true test (take (to - from) (drop from text)) [] ok ∙ ap (λ (n : ℕ). take n (drop from text)) size ∙ lies)
    (λ off.
    let beyond : length text < to =
    ⊎_elim (λ no. absurd (omega (arith, leb-false from to no))) (λ no. leb-false to (length text) no) (and_cases (leb from to) (leb to (length text)) off) in
    cond-false test (take (to - from) (drop from text)) [] off
    ∙ none part (omega (arith, ap length lies, length-take (length part) (drop from text), length-drop from text)))
    (cases_Bool test)
  where
    test : Bool
    test = leb from to && leb to (length text)

-- what stands between the quotes of a value of a tag
pub inner_sliced : (text value inner : List ℕ) (r : Row) (n at : ℕ) → Lies text r.place r.text → Lies (list_of r) at value → n ≡ name_length r.kind → inner ≡ unquoted value
    → sliced text (spanned (r.place + n + at + 1) (r.place + n + at + 1 + length inner)) ≡ unquoted value
inner_sliced text value inner r n at line lies name is =
    let list = part_lies text r.text (list_of r) r.place (name_length r.kind) line (rest_lies r.text (name_length r.kind)) in
    let there = part_lies text (list_of r) value (r.place + name_length r.kind) at list lies in
    let whole = part_lies text value (unquoted value) (r.place + name_length r.kind + at) 1 there (front_lies (place 34 (drop 1 value)) (drop 1 value)) in
    let spot : r.place + n + at + 1 ≡ r.place + name_length r.kind + at + 1 = omega arith in
    sliced_lies text (unquoted value) (r.place + n + at + 1) (r.place + n + at + 1 + length inner) (ap (λ (l : List ℕ). r.place + n + at + 1 + length l) is)
    (ap (λ (m : ℕ). take (length (unquoted value)) (drop m text)) spot ∙ whole)

-- what a span stands for, where it holds what a value has between its quotes
pub spanned_inner : (text : List ℕ) (s : Option Span) (v : Option Found) → names_in text s ≡ foremost v → option_map (sliced text) s ≡ inner_of v
spanned_inner text None None e = refl
spanned_inner text (Some s) (Some f) e = ap (λ (l : List (List ℕ)). Some (get_or l 0 [])) e
spanned_inner text None (Some f) e = absurd (omega (arith, ap length e))
spanned_inner text (Some s) None e = absurd (omega (arith, ap length e))
