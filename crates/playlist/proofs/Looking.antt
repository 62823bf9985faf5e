-- Looking up pathways and members in lists. Assumes nothing.
use Rattle.std.proofs.Common.{◌≡◌, ℕ, zero, suc, ◌<◌, Bool, true, false, cond, ◌||◌, List, [], ◌∷◌, map, length, get_or, Option, refl, ap, arith}
use Rattle.std.specs.List.{filter, list_any, slice_get}
use Rattle.std.specs.Option.{option_map}
use Rattle.std.specs.Str.{bytes_eq}
use Rattle.multivariant.specs.declared.entry.Entry.{Entry}
use Rattle.multivariant.specs.Views.{item}
use Rattle.playlist.specs.Lookups.{count_in, step_to, uri_in}

pub map_at : {X Y : Type 0} (f : X → Y) (xs : List X) (n : ℕ) (d : X) (e : Y) → n < length xs → get_or (map f xs) n e ≡ f (get_or xs n d)
map_at f [] n d e h = absurd (omega arith)
map_at f (x ∷ xs) zero d e h = refl
map_at f (x ∷ xs) (suc n) d e h = map_at f xs n d e (omega arith)

-- a test of each thing as it is seen
pub any_seen : {X Y : Type 0} (see : X → Y) (test : Y → Bool) (xs : List X) → list_any (λ x. test (see x)) xs ≡ list_any test (map see xs)
any_seen see test [] = refl
any_seen see test (x ∷ xs) = ap (λ (b : Bool). test (see x) || b) (any_seen see test xs)

-- whether an entry belongs to a pathway
abbrev pub belongs : List ℕ → Entry → Bool
belongs id e = bytes_eq e.id.now id

count_step : (id : List ℕ) (e : Entry) (es : List Entry) (b : Bool) → length (filter (belongs id) es) ≡ count_in id (map item es)
    → length (cond b (e ∷ filter (belongs id) es) (filter (belongs id) es)) ≡ cond b (suc (count_in id (map item es))) (count_in id (map item es))
count_step id e es true h = ap suc h
count_step id e es false h = h

-- the entries of a pathway are counted
pub counted : (id : List ℕ) (es : List Entry) → length (filter (belongs id) es) ≡ count_in id (map item es)
counted id [] = refl
counted id (e ∷ es) = count_step id e es (belongs id e) (counted id es)

abbrev uri_at : List Entry → ℕ → Option (List ℕ)
uri_at es n = option_map (λ (e : Entry). e.uri.now) (slice_get es n)

uri_step : (id : List ℕ) (e : Entry) (es : List Entry) (b : Bool) (n : ℕ) → ((k : ℕ) → uri_at (filter (belongs id) es) k ≡ uri_in id k (map item es))
    → uri_at (cond b (e ∷ filter (belongs id) es) (filter (belongs id) es)) n ≡ cond b (step_to n e.uri.now (λ m. uri_in id m (map item es))) (uri_in id n (map item es))
uri_step id e es true zero h = refl
uri_step id e es true (suc n) h = h n
uri_step id e es false n h = h n

-- the entry of a number, of those of a pathway
pub found : (id : List ℕ) (es : List Entry) (n : ℕ) → uri_at (filter (belongs id) es) n ≡ uri_in id n (map item es)
found id [] n = refl
found id (e ∷ es) n = uri_step id e es (belongs id e) n (λ k. found id es k)
