-- RFC 3986's loop that removes dot segments (section 5.2.4), rule by rule. Assumes nothing.
use Rattle.std.specs.Prelude.{◌≡◌, ℕ, List, [], ◌∷◌, ◌++◌, length, codes}
use Rattle.uri.specs.Cuts.{place}
use Rattle.references.specs.Laws.{Named}
use Rattle.references.specs.Paths.{parent, without_dots, Absolute}

-- a segment: there is no `/` in it
abbrev pub Slashless : List ℕ → Type 0
Slashless s = place 47 s ≡ length s

-- From an input buffer and an output buffer the loop comes to a result. The rules are tried in their order, so the last moves no dot segment.
pub data Loop : (input output result : List ℕ) → Type 0 where
  -- 2, 3: the input is empty, and the output is returned
  returned : {out : List ℕ} → Loop [] out out
  -- 2A: a prefix `../` or `./` is removed
  front_above : {rest out result : List ℕ} → Loop rest out result → Loop (codes "../" ++ rest) out result
  front_here : {rest out result : List ℕ} → Loop rest out result → Loop (codes "./" ++ rest) out result
  -- 2B: a prefix `/./`, or `/.` that is all, is replaced by `/`
  here : {rest out result : List ℕ} → Loop (codes "/" ++ rest) out result → Loop (codes "/./" ++ rest) out result
  here_last : {out result : List ℕ} → Loop (codes "/") out result → Loop (codes "/.") out result
  -- 2C: a prefix `/../`, or `/..` that is all, is replaced by `/`, and the output loses its last segment with the `/` before it
  above : {rest out result : List ℕ} → Loop (codes "/" ++ rest) (parent out) result → Loop (codes "/../" ++ rest) out result
  above_last : {out result : List ℕ} → Loop (codes "/") (parent out) result → Loop (codes "/..") out result
  -- 2D: an input that is only `.` or `..` is removed
  only_here : {out result : List ℕ} → Loop [] out result → Loop (codes ".") out result
  only_above : {out result : List ℕ} → Loop [] out result → Loop (codes "..") out result
  -- 2E: the first segment, with the `/` before it if there is one, is moved to the end of the output
  move : {s rest out result : List ℕ} → Slashless s → Named s → Absolute rest → Loop rest (out ++ 47 ∷ s) result → Loop (47 ∷ (s ++ rest)) out result
  move_first : {x : ℕ} {s rest out result : List ℕ} → Slashless (x ∷ s) → Named (x ∷ s) → Absolute rest → Loop rest (out ++ x ∷ s) result → Loop (x ∷ (s ++ rest)) out result

-- a path without its dot segments is what the loop gives for it, and there is nothing else that the loop gives
abbrev pub Looped : Type 0
Looped = (path : List ℕ) → Loop path [] (without_dots path) × ((result : List ℕ) → Loop path [] result → result ≡ without_dots path)
