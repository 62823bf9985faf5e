-- What the code answers, by what it found on its way. Assumes nothing.
use Rattle.std.proofs.Common.{◌≡◌, ℕ, ◌≤◌, true, false, not, ◌&&◌, ◌||◌, leb, List, ◌++◌, length, is_some, Some, None, Option, sym, refl, ap, ◌∙◌, subst, arith, Bor}
use Rattle.std.proofs.lemmas.Bool.{cond-true, and_from, and_parts, leb-true}
use Rattle.std.specs.Option.{option_map}
use Rattle.uri.specs.Cuts.{before, holds}
use Rattle.uri.specs.Splits.{Split, split}
use Rattle.uri.specs.Legal.{is_path, legal_parts, legal}
use Rattle.references.specs.Paths.{Absolute}
use Rattle.references.specs.Resolution.{is_there, transformed, recomposed, is_reference, if_legal, resolved}
use Rattle.references.specs.Views.{Pieces, chosen, meant, extent}
use Rattle.references.proofs.Pieces.{Short, chosen_means, chosen-short, chosen_rooted, split-short, split_rooted}

short_at : (n m : ℕ) (p : Split) → n ≤ m → Short n p → Short m p
short_at n m p h s =
    record {
      scheme = omega (arith, s.scheme);
      authority = omega (arith, s.authority);
      path = omega (arith, s.path);
      query = omega (arith, s.query);
      fragment = omega (arith, s.fragment);
    }

module _
    (base ref : List ℕ) (b r : Split) (p : Pieces) (b-is : b ≡ split base) (r-is : r ≡ split ref) (p-is : p ≡ chosen b r)
    (good : legal base ≡ true) (sound : is_reference ref ≡ true) (there : is_there p.parts.authority ≡ true) where
  pieces_are : p ≡ chosen (split base) (split ref)
  pieces_are = p-is ∙ ap (λ (s : Split). chosen s r) b-is ∙ ap (chosen (split base)) r-is

  base_short : Short 512 (split base)
  base_short = short_at (length base) 512 (split base) (leb-true (length base) 512 (and_parts (leb (length base) 512) (legal_parts (split base)) good).0) (split-short base)

  ref_short : Short 512 (split ref)
  ref_short =
      short_at (length ref) 512 (split ref) (leb-true (length ref) 512 (and_parts (leb (length ref) 512) (is_path (split ref).path && (is_there (split ref).scheme || not (holds 58 (before 47 (split ref).path)))) sound).0) (split-short ref)

  pub room : extent p ≤ 4096
  room = omega (arith, ap extent pieces_are, chosen-short (split base) (split ref) base_short ref_short)

  pub rooted : p.kept ≡ false → Absolute (p.directory ++ p.parts.path)
  rooted =
      subst (λ (q : Pieces). is_there q.parts.authority ≡ true → q.kept ≡ false → Absolute (q.directory ++ q.parts.path)) (sym pieces_are)
      (chosen_rooted (split base) (split ref) (split_rooted base) (split_rooted ref)) there

  meant_is : meant p ≡ transformed (split base) (split ref)
  meant_is = ap meant pieces_are ∙ chosen_means (split base) (split ref)

  owner_there : is_there (transformed (split base) (split ref)).authority ≡ true
  owner_there = ap (λ (s : Split). is_there s.authority) (sym meant_is) ∙ there

  pub answered : (answer : Option (List ℕ)) (text : List ℕ) → text ≡ recomposed (meant p) → answer ≡ if_legal text → answer ≡ resolved base ref
  answered answer text e f =
      f
      ∙ ap if_legal (e ∙ ap recomposed meant_is)
      ∙ sym (cond-true (legal base && (is_reference ref && is_there (transformed (split base) (split ref)).authority)) (if_legal (recomposed (transformed (split base) (split ref)))) None
      (and_from (legal base) (is_reference ref && is_there (transformed (split base) (split ref)).authority) good
      (and_from (is_reference ref) (is_there (transformed (split base) (split ref)).authority) sound owner_there)))

-- a part that the code found to be there
pub there_found : (o : Option (Bor (List ℕ))) → is_some o ≡ true → is_there (option_map (λ x. x.now) o) ≡ true
there_found None e = e
there_found (Some x) e = refl
