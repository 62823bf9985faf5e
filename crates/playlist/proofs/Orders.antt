-- The order of the pathways, and the counts that the check bounds. Assumes nothing.
use Rattle.std.proofs.Common.{◌≡◌, ℕ, suc, ◌+◌, ◌<◌, ◌≤◌, Bool, true, false, cond, not, ◌||◌, eqb, leb, List, [], ◌∷◌, ◌++◌, map, length, None, sym, refl, ap, ◌∙◌, subst, arith}
use Rattle.std.specs.List.{AllByRecursion}
use Rattle.std.specs.Str.{bytes_eq}
use Rattle.std.proofs.ByRecursion.{All-push, All-weaker}
use Rattle.std.proofs.lemmas.Slice.Eq.{bytes_eq-Decides}
use Rattle.std.proofs.lemmas.List.{length_push}
use Rattle.std.proofs.lemmas.Bool.{false≢true, eqb-true, ne_eqb, leb-false, or_left, or_right, or_from, or_parts, cond-true, cond-false}
use Rattle.std.proofs.lemmas.Bool.Decides.{not_from_Decides}
use Rattle.pathways.specs.Limits.{Different}
use Rattle.table.proofs.Lawful.{none-further}
use Rattle.multivariant.specs.Streams.{Served, pathway_of, is_of, has_stream, count_of}
use Rattle.multivariant.specs.Offences.{excess, pathways_now, overrun}
use Rattle.playlist.specs.Items.{Item, item_of, is_among, joining, in_order}
use Rattle.playlist.specs.Lookups.{count_in}

-- tests
same : (x y : List ℕ) → bytes_eq x y ≡ true → x ≡ y
same x y = (bytes_eq-Decides x y).0

pub itself : (x : List ℕ) → bytes_eq x x ≡ true
itself x = (bytes_eq-Decides x x).1 refl

turned : (x y : List ℕ) → bytes_eq x y ≡ false → bytes_eq y x ≡ false
turned x y e = go (bytes_eq y x) refl
  where
    go : (b : Bool) → bytes_eq y x ≡ b → bytes_eq y x ≡ false
    go true f = absurd (not_from_Decides (bytes_eq x y) (bytes_eq-Decides x y) e (sym (same y x f)))
    go false f = f

or_none : (b : Bool) → (b || false) ≡ b
or_none true = refl
or_none false = refl

or_assoc : (a b c : Bool) → ((a || b) || c) ≡ (a || (b || c))
or_assoc true b c = refl
or_assoc false b c = refl

absorbed : (x b : Bool) → (b ≡ true → x ≡ true) → (x || b) ≡ x
absorbed true b f = refl
absorbed false true f = sym (f refl)
absorbed false false f = refl

again : (a h c : Bool) → a ≡ c → (a || h) ≡ (a || (h || c))
again true h c e = refl
again false h c e = sym (ap (λ b. h || b) (sym e) ∙ or_none h)

abbrev one : Bool → ℕ
one true = 1
one false = 0

more_than : (b : Bool) (n : ℕ) → cond b (suc n) n ≡ one b + n
more_than true n = omega arith
more_than false n = omega arith

zero_step : (b h : Bool) (n : ℕ) → eqb n 0 ≡ not h → eqb (cond b (suc n) n) 0 ≡ not (b || h)
zero_step true h n e = ne_eqb (suc n) 0 (λ z. omega arith)
zero_step false h n e = e

some_step : (b h : Bool) (n : ℕ) → (h ≡ true → 1 ≤ n) → (b || h) ≡ true → 1 ≤ cond b (suc n) n
some_step true h n f e = omega arith
some_step false h n f e = f e

within : (pathways n : ℕ) → excess pathways n ≡ false → n < 32
within pathways n e = go (eqb n 0) refl e
  where
    go : (b : Bool) → eqb n 0 ≡ b → cond b (leb 16 pathways) (leb 32 n) ≡ false → n < 32
    go true z e = omega (arith, eqb-true n 0 z)
    go false z e = leb-false 32 n e

-- one more stream
module _ (id : List ℕ) where
  count_push : (before : List Served) (s : Served) → count_of id (before ++ s ∷ []) ≡ count_of id before + one (is_of id s)
  count_push [] s = omega (arith, more_than (is_of id s) 0)
  count_push (x ∷ xs) s =
      omega (arith, more_than (is_of id x) (count_of id (xs ++ s ∷ [])), more_than (is_of id x) (count_of id xs), count_push xs s)

  has_push : (before : List Served) (s : Served) → has_stream id (before ++ s ∷ []) ≡ (has_stream id before || is_of id s)
  has_push [] s = or_none (is_of id s)
  has_push (x ∷ xs) s = ap (λ b. is_of id x || b) (has_push xs s) ∙ sym (or_assoc (is_of id x) (has_stream id xs) (is_of id s))

  among_push : (ids : List (List ℕ)) (x : List ℕ) → is_among id (ids ++ x ∷ []) ≡ (is_among id ids || bytes_eq x id)
  among_push [] x = or_none (bytes_eq x id)
  among_push (y ∷ ys) x = ap (λ b. bytes_eq y id || b) (among_push ys x) ∙ sym (or_assoc (bytes_eq y id) (is_among id ys) (bytes_eq x id))

  -- a pathway has a stream where its streams are counted
  none-counted : (ss : List Served) → eqb (count_of id ss) 0 ≡ not (has_stream id ss)
  none-counted [] = refl
  none-counted (s ∷ ss) = zero_step (is_of id s) (has_stream id ss) (count_of id ss) (none-counted ss)

  pub some-counted : (ss : List Served) → has_stream id ss ≡ true → 1 ≤ count_of id ss
  some-counted [] e = absurd (false≢true e)
  some-counted (s ∷ ss) e = some_step (is_of id s) (has_stream id ss) (count_of id ss) (some-counted ss) e

  pub count_items : (ss : List Served) → count_in id (map item_of ss) ≡ count_of id ss
  count_items [] = refl
  count_items (s ∷ ss) = ap (λ (n : ℕ). cond (is_of id s) (suc n) n) (count_items ss)

  -- a pathway has at most 32 streams
  pub few_streams : (pathways : ℕ) (before ss : List Served) → overrun pathways before ss ≡ None → count_of id before ≤ 32 → count_of id before + count_of id ss ≤ 32
  few_streams pathways before [] h l = omega arith
  few_streams pathways before (s ∷ ss) h l =
      let p = none-further (excess pathways (count_of (pathway_of s) before)) s.tag.place (overrun (pathways_now pathways (count_of (pathway_of s) before)) (before ++ s ∷ []) ss) h in
      go (is_of id s) refl p.0 (few_streams (pathways_now pathways (count_of (pathway_of s) before)) (before ++ s ∷ []) ss p.1)
    where
      go : (b : Bool) → is_of id s ≡ b → excess pathways (count_of (pathway_of s) before) ≡ false
          → (count_of id (before ++ s ∷ []) ≤ 32 → count_of id (before ++ s ∷ []) + count_of id ss ≤ 32)
          → count_of id before + cond b (suc (count_of id ss)) (count_of id ss) ≤ 32
      go true e x more =
          let less : count_of id before < 32 = within pathways (count_of id before) (ap (λ (i : List ℕ). excess pathways (count_of i before)) (sym (same (pathway_of s) id e)) ∙ x) in
          let is : count_of id (before ++ s ∷ []) ≡ count_of id before + 1 = count_push before s ∙ ap (λ b. count_of id before + one b) e in
          omega (arith, more (omega (arith, is, less)), is)
      go false e x more =
          let is : count_of id (before ++ s ∷ []) ≡ count_of id before + 0 = count_push before s ∙ ap (λ b. count_of id before + one b) e in
          omega (arith, more (omega (arith, is, l)), is)

-- the order keeps what holds of its IDs
module _ (P : List ℕ → Type 0) where
  pub all_order : (ids : List (List ℕ)) (ss : List Served) → AllByRecursion P ids → AllByRecursion (λ s. P (pathway_of s)) ss → AllByRecursion P (in_order ids (map item_of ss))
  all_order ids [] h k = h
  all_order ids (s ∷ ss) h k = all_order (joining (pathway_of s) ids) ss (go (is_among (pathway_of s) ids)) k.1
    where
      go : (b : Bool) → AllByRecursion P (cond b ids (ids ++ pathway_of s ∷ []))
      go true = h
      go false = All-push P ids (pathway_of s) h k.0

apart : (id : List ℕ) (ids : List (List ℕ)) → is_among id ids ≡ false → Different ids → Different (ids ++ id ∷ [])
apart id [] e d = (tt, tt)
apart id (x ∷ xs) e d =
    let (n, m) = or_parts (bytes_eq x id) (is_among id xs) e in
    (All-push (λ y. x ≡ y → ⊥) xs id d.0 (not_from_Decides (bytes_eq x id) (bytes_eq-Decides x id) n), apart id xs m d.1)

pub order_different : (ids : List (List ℕ)) (xs : List Item) → Different ids → Different (in_order ids xs)
order_different ids [] d = d
order_different ids (x ∷ xs) d = order_different (joining x.id ids) xs (go (is_among x.id ids) refl)
  where
    go : (b : Bool) → is_among x.id ids ≡ b → Different (cond b ids (ids ++ x.id ∷ []))
    go true e = d
    go false e = apart x.id ids e d

pub order_grows : (ids : List (List ℕ)) (xs : List Item) → length ids ≤ length (in_order ids xs)
order_grows ids [] = omega arith
order_grows ids (x ∷ xs) = omega (arith, order_grows (joining x.id ids) xs, go (is_among x.id ids))
  where
    go : (b : Bool) → length ids ≤ length (cond b ids (ids ++ x.id ∷ []))
    go true = omega arith
    go false = omega (arith, length_push ids x.id)

-- each stream's pathway has a stream
pub all_own : (ss : List Served) → AllByRecursion (λ s. has_stream (pathway_of s) ss ≡ true) ss
all_own [] = tt
all_own (s ∷ ss) = (
  or_left (is_of (pathway_of s) s) (has_stream (pathway_of s) ss) (itself (pathway_of s)),
  All-weaker (λ t. has_stream (pathway_of t) ss ≡ true) (λ t. has_stream (pathway_of t) (s ∷ ss) ≡ true)
      (λ t e. or_right (is_of (pathway_of t) s) (has_stream (pathway_of t) ss) e) ss (all_own ss),
)

-- the pathways that are counted, and the foremost one until it is counted
module _ (sid : List ℕ) where
  pub record Counts (pathways : ℕ) (before : List Served) (ids : List (List ℕ)) : Type 0 where
    pub among : (id : List ℕ) → is_among id ids ≡ (bytes_eq sid id || has_stream id before)
    pub long : length ids ≡ pathways + one (not (has_stream sid before))
    pub few : pathways ≤ 16

  module _ (pathways : ℕ) (before : List Served) (ids : List (List ℕ)) (c : Counts pathways before ids) (s : Served) where
    abbrev n : ℕ
    n = count_of (pathway_of s) before

    -- a pathway that is counted
    old : has_stream (pathway_of s) before ≡ true → Counts (pathways_now pathways n) (before ++ s ∷ []) (joining (pathway_of s) ids)
    old e =
        let now : pathways_now pathways n ≡ pathways = cond-false (eqb n 0) (pathways + 1) pathways (none-counted (pathway_of s) before ∙ ap not e) in
        let stay : joining (pathway_of s) ids ≡ ids = cond-true (is_among (pathway_of s) ids) ids (ids ++ pathway_of s ∷ [])
        (c.among (pathway_of s) ∙ or_right (bytes_eq sid (pathway_of s)) (has_stream (pathway_of s) before) e) in
        let kept : (id : List ℕ) → has_stream id (before ++ s ∷ []) ≡ has_stream id before = λ id. has_push id before s
        ∙ absorbed (has_stream id before) (is_of id s) (λ t. subst (λ (i : List ℕ). has_stream i before ≡ true) (same (pathway_of s) id t) e) in
        record {
          among = λ id. ap (is_among id) stay ∙ c.among id ∙ ap (λ b. bytes_eq sid id || b) (sym (kept id));
          long = ap length stay ∙ c.long ∙ omega (arith, now, ap (λ b. one (not b)) (kept sid));
          few = omega (arith, now, c.few);
        }

    module _ (x : excess pathways n ≡ false) (e : has_stream (pathway_of s) before ≡ false) where
      zero : eqb n 0 ≡ true
      zero = none-counted (pathway_of s) before ∙ ap not e

      now : pathways_now pathways n ≡ pathways + 1
      now = cond-true (eqb n 0) (pathways + 1) pathways zero

      less : pathways < 16
      less = leb-false 16 pathways (sym (cond-true (eqb n 0) (leb 16 pathways) (leb 32 n) zero) ∙ x)

      -- the foremost pathway
      foremost : bytes_eq sid (pathway_of s) ≡ true → Counts (pathways_now pathways n) (before ++ s ∷ []) (joining (pathway_of s) ids)
      foremost t =
          let is : sid ≡ pathway_of s = same sid (pathway_of s) t in
          let stay : joining (pathway_of s) ids ≡ ids = cond-true (is_among (pathway_of s) ids) ids (ids ++ pathway_of s ∷ [])
          (c.among (pathway_of s) ∙ or_left (bytes_eq sid (pathway_of s)) (has_stream (pathway_of s) before) t) in
          let was : has_stream sid before ≡ false = ap (λ (i : List ℕ). has_stream i before) is ∙ e in
          let has : has_stream sid (before ++ s ∷ []) ≡ true = has_push sid before s
          ∙ or_right (has_stream sid before) (is_of sid s) (ap (λ (i : List ℕ). bytes_eq i sid) (sym is) ∙ itself sid) in
          record {
            among = λ id. ap (is_among id) stay ∙ c.among id
                ∙ again (bytes_eq sid id) (has_stream id before) (is_of id s) (ap (λ (i : List ℕ). bytes_eq i id) is)
                ∙ ap (λ b. bytes_eq sid id || b) (sym (has_push id before s));
            long = ap length stay ∙ omega (arith, c.long, now, ap (λ b. one (not b)) was, ap (λ b. one (not b)) has);
            few = omega (arith, now, less);
          }

      -- any other
      new : bytes_eq sid (pathway_of s) ≡ false → Counts (pathways_now pathways n) (before ++ s ∷ []) (joining (pathway_of s) ids)
      new t =
          let grow : joining (pathway_of s) ids ≡ ids ++ pathway_of s ∷ [] = cond-false (is_among (pathway_of s) ids) ids (ids ++ pathway_of s ∷ [])
          (c.among (pathway_of s) ∙ or_from (bytes_eq sid (pathway_of s)) (has_stream (pathway_of s) before) t e) in
          let has : has_stream sid (before ++ s ∷ []) ≡ has_stream sid before = has_push sid before s
          ∙ ap (λ b. has_stream sid before || b) (turned sid (pathway_of s) t) ∙ or_none (has_stream sid before) in
          record {
            among = λ id. ap (is_among id) grow ∙ among_push id ids (pathway_of s) ∙ ap (λ b. b || is_of id s) (c.among id)
                ∙ or_assoc (bytes_eq sid id) (has_stream id before) (is_of id s)
                ∙ ap (λ b. bytes_eq sid id || b) (sym (has_push id before s));
            long = ap length grow ∙ omega (arith, length_push ids (pathway_of s), c.long, now, ap (λ b. one (not b)) has);
            few = omega (arith, now, less);
          }

    counts_more : excess pathways n ≡ false → Counts (pathways_now pathways n) (before ++ s ∷ []) (joining (pathway_of s) ids)
    counts_more x = go (has_stream (pathway_of s) before) refl (bytes_eq sid (pathway_of s)) refl
      where
        go : (h : Bool) → has_stream (pathway_of s) before ≡ h → (t : Bool) → bytes_eq sid (pathway_of s) ≡ t
            → Counts (pathways_now pathways n) (before ++ s ∷ []) (joining (pathway_of s) ids)
        go true e t f = old e
        go false e true f = foremost x e f
        go false e false f = new x e f

  -- where the foremost pathway has a stream, there are as many as are counted
  few_from : (pathways : ℕ) (before ss : List Served) (ids : List (List ℕ)) → Counts pathways before ids → overrun pathways before ss ≡ None
      → (has_stream sid before || has_stream sid ss) ≡ true → length (in_order ids (map item_of ss)) ≤ 16
  few_from pathways before [] ids c h e =
      omega (arith, c.long, c.few, ap (λ b. one (not b)) (sym (or_none (has_stream sid before)) ∙ e))
  few_from pathways before (s ∷ ss) ids c h e =
      let p = none-further (excess pathways (count_of (pathway_of s) before)) s.tag.place (overrun (pathways_now pathways (count_of (pathway_of s) before)) (before ++ s ∷ []) ss) h in
      few_from (pathways_now pathways (count_of (pathway_of s) before)) (before ++ s ∷ []) ss (joining (pathway_of s) ids) (counts_more pathways before ids c s p.0) p.1
      (ap (λ b. b || has_stream sid ss) (has_push sid before s) ∙ or_assoc (has_stream sid before) (is_of sid s) (has_stream sid ss) ∙ e)

  pub few-pathways : (ss : List Served) → overrun 0 [] ss ≡ None → has_stream sid ss ≡ true → length (in_order (sid ∷ []) (map item_of ss)) ≤ 16
  few-pathways ss h e = few_from 0 [] ss (sid ∷ []) (record { among = λ id. refl; long = refl; few = omega arith }) h e
