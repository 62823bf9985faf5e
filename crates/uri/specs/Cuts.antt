-- A text cut at the first of a byte, and at each. Assumes nothing.
use Rattle.std.specs.Prelude.{ℕ, suc, ◌+◌, Bool, true, false, cond, List, [], ◌∷◌, ◌++◌, length, take, drop, Some, None, Option, ◌==◌, nat_lt}

-- how many bytes stand before the first b; where there is none, all of them
abbrev pub place : ℕ → List ℕ → ℕ
place b [] = 0
place b (x ∷ xs) = cond (x == b) 0 (suc (place b xs))

-- what stands before the first b
abbrev pub before : ℕ → List ℕ → List ℕ
before b text = take (place b text) text

-- what stands behind a byte of the text, if it has so many
abbrev pub behind_at : ℕ → List ℕ → Option (List ℕ)
behind_at n text = cond (nat_lt n (length text)) (Some (drop (n + 1) text)) None

-- what stands behind the first b, if there is one
abbrev pub behind : ℕ → List ℕ → Option (List ℕ)
behind b text = cond (nat_lt (place b text) (length text)) (Some (drop (place b text + 1) text)) None

-- a part that may be absent, with its mark in front of it
abbrev pub marked : ℕ → Option (List ℕ) → List ℕ
marked b None = []
marked b (Some rest) = b ∷ rest

abbrev pub holds : ℕ → List ℕ → Bool
holds b text = nat_lt (place b text) (length text)

-- a byte in front of the first part; where it is the mark, a part that is empty
abbrev pub onto : ℕ → Bool → List (List ℕ) → List (List ℕ)
onto x true ps = [] ∷ ps
onto x false [] = (x ∷ []) ∷ []
onto x false (p ∷ ps) = (x ∷ p) ∷ ps

-- the parts of a text that is cut at each b
abbrev pub parts : ℕ → List ℕ → List (List ℕ)
parts b [] = [] ∷ []
parts b (x ∷ xs) = onto x (x == b) (parts b xs)

-- the parts behind the first, by what stands behind the first b
abbrev pub further : ℕ → Option (List ℕ) → List (List ℕ)
further b None = []
further b (Some rest) = parts b rest

-- parts, each with b in front of it
abbrev pub led : ℕ → List (List ℕ) → List ℕ
led b [] = []
led b (p ∷ ps) = b ∷ (p ++ led b ps)

-- parts with b between them
abbrev pub joined_by : ℕ → List (List ℕ) → List ℕ
joined_by b [] = []
joined_by b (p ∷ ps) = p ++ led b ps
