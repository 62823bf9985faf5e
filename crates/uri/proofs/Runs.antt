-- Runs of bytes and escapes, and the paths that are made of them. Assumes nothing.
use Rattle.std.proofs.Common.{◌≡◌, ℕ, Bool, true, false, ◌&&◌, eqb, ◌⊎◌, List, [], ◌∷◌, ◌++◌, sym, refl, ap, ◌∙◌, subst, ⊎_elim}
use Rattle.std.proofs.lemmas.Bool.{both_ways, cases_Bool, eqb-true, and_from, and_parts, or_left, or_cases, false≢true}
use Rattle.terms.specs.Classes.{hex_digit, every}
use Rattle.uri.specs.Legal.{pchar, path_byte, escaped}
use Rattle.uri.specs.Grammar.{Run, Path}
use Rattle.uri.specs.Grammar.Run.{end, byte, escape}
use Rattle.uri.specs.Grammar.Path.{none, segment}
use Rattle.uri.proofs.Free.{Free}

-- a byte that passes a test is none that fails it
pub apart : (test : ℕ → Bool) (x b : ℕ) → test x ≡ true → test b ≡ false → eqb x b ≡ false
apart test x b e f =
    ⊎_elim (λ same. absurd (both_ways (test b) f (ap test (sym (eqb-true x b same)) ∙ e))) (λ other. other) (cases_Bool (eqb x b))

module _ (allowed : ℕ → Bool) where
  -- what a byte leads to outside an escape, by whether it is `%`
  abbrev way : ℕ → List ℕ → Bool → Bool
  way b bs t = elim t [ true ↦ escaped allowed 2 bs | false ↦ allowed b && escaped allowed 0 bs ]

  pub escaped_from_run : {text : List ℕ} → allowed 37 ≡ false → Run allowed text → escaped allowed 0 text ≡ true
  escaped_from_run plain end = refl
  escaped_from_run plain (byte {b} {bs} e r) =
      ap (way b bs) (apart allowed b 37 e plain) ∙ and_from (allowed b) (escaped allowed 0 bs) e (escaped_from_run plain r)
  escaped_from_run plain (escape {h} {l} {bs} e f r) =
      and_from (hex_digit h) (hex_digit l && escaped allowed 0 bs) e (and_from (hex_digit l) (escaped allowed 0 bs) f (escaped_from_run plain r))

  -- the first byte, by whether it is `%`; the texts behind it are runs if they pass
  one : (b : ℕ) (t : Bool) → eqb b 37 ≡ t → way b [] t ≡ true → Run allowed (b ∷ [])
  one b true p e = absurd (false≢true e)
  one b false p e = byte (and_parts (allowed b) true e).0 end

  two : (b h : ℕ) (t : Bool) → eqb b 37 ≡ t → way b (h ∷ []) t ≡ true → (escaped allowed 0 (h ∷ []) ≡ true → Run allowed (h ∷ [])) → Run allowed (b ∷ h ∷ [])
  two b h true p e tail = absurd (false≢true (and_parts (hex_digit h) false e).1)
  two b h false p e tail = let (a, q) = and_parts (allowed b) (escaped allowed 0 (h ∷ [])) e in byte a (tail q)

  three :
      (b h l : ℕ) (bs : List ℕ) (t : Bool) → eqb b 37 ≡ t → way b (h ∷ l ∷ bs) t ≡ true
      → (escaped allowed 0 (h ∷ l ∷ bs) ≡ true → Run allowed (h ∷ l ∷ bs)) → (escaped allowed 0 bs ≡ true → Run allowed bs) → Run allowed (b ∷ h ∷ l ∷ bs)
  three b h l bs true p e tail later =
      let (d, q) = and_parts (hex_digit h) (hex_digit l && escaped allowed 0 bs) e in
      let (f, r) = and_parts (hex_digit l) (escaped allowed 0 bs) q in
      subst (λ (x : ℕ). Run allowed (x ∷ h ∷ l ∷ bs)) (sym (eqb-true b 37 p)) (escape d f (later r))
  three b h l bs false p e tail later = let (a, q) = and_parts (allowed b) (escaped allowed 0 (h ∷ l ∷ bs)) e in byte a (tail q)

  pub run_from_escaped : (text : List ℕ) → escaped allowed 0 text ≡ true → Run allowed text
  run_from_escaped [] e = end
  run_from_escaped (b ∷ []) e = one b (eqb b 37) refl e
  run_from_escaped (b ∷ h ∷ []) e = two b h (eqb b 37) refl e (λ q. run_from_escaped (h ∷ []) q)
  run_from_escaped (b ∷ h ∷ l ∷ bs) e =
      three b h l bs (eqb b 37) refl e (λ q. run_from_escaped (h ∷ l ∷ bs) q) (λ q. run_from_escaped bs q)

  -- a run holds no byte that is not allowed and stands in no escape
  pub run_free : (b : ℕ) {text : List ℕ} → allowed b ≡ false → hex_digit b ≡ false → eqb 37 b ≡ false → Run allowed text → Free b text
  run_free b plain digit mark end = Free.none
  run_free b plain digit mark (byte {b = x} e r) = Free.more (apart allowed x b e plain) (run_free b plain digit mark r)
  run_free b plain digit mark (escape {h} {l} e f r) =
      Free.more mark (Free.more (apart hex_digit h b e digit) (Free.more (apart hex_digit l b f digit) (run_free b plain digit mark r)))

pub every_free : (test : ℕ → Bool) (b : ℕ) (text : List ℕ) → test b ≡ false → every test text ≡ true → Free b text
every_free test b [] off e = Free.none
every_free test b (x ∷ xs) off e = let (p, q) = and_parts (test x) (every test xs) e in Free.more (apart test x b p off) (every_free test b xs off q)

-- a run of segments' bytes with another run behind it is a run of a path's
run_join : {xs ys : List ℕ} → Run pchar xs → Run path_byte ys → Run path_byte (xs ++ ys)
run_join end s = s
run_join (byte {b} e r) s = byte (or_left (pchar b) (eqb b 47) e) (run_join r s)
run_join (escape e f r) s = escape e f (run_join r s)

pub run_from_path : {text : List ℕ} → Path text → Run path_byte text
run_from_path none = end
run_from_path (segment r p) = byte refl (run_join r (run_from_path p))

-- a run of a path's bytes, cut at its first `/`
record Cut (text : List ℕ) : Type 0 where
  first : List ℕ
  rest : List ℕ
  whole : text ≡ first ++ rest
  run : Run pchar first
  path : Path rest

cut_at : (b : ℕ) (bs : List ℕ) → (pchar b ≡ true) ⊎ (eqb b 47 ≡ true) → Cut bs → Cut (b ∷ bs)
cut_at b bs is c = ⊎_elim
    (λ e. record { first = b ∷ c.first; rest = c.rest; whole = ap (λ (xs : List ℕ). b ∷ xs) c.whole; run = byte e c.run; path = c.path })
    (λ slash. record {
      first = [];
      rest = 47 ∷ (c.first ++ c.rest);
      whole = ap (λ (x : ℕ). x ∷ bs) (eqb-true b 47 slash) ∙ ap (λ (xs : List ℕ). 47 ∷ xs) c.whole;
      run = end;
      path = segment c.run c.path;
    })
    is

cut_run : {text : List ℕ} → Run path_byte text → Cut text
cut_run end = record { first = []; rest = []; whole = refl; run = end; path = none }
cut_run (byte {b} {bs} e r) = cut_at b bs (or_cases (pchar b) (eqb b 47) e) (cut_run r)
cut_run (escape {h} {l} {bs} e f r) =
    let c : Cut bs = cut_run r in
    record { first = 37 ∷ h ∷ l ∷ c.first; rest = c.rest; whole = ap (λ (xs : List ℕ). 37 ∷ h ∷ l ∷ xs) c.whole; run = escape e f c.run; path = c.path }

pub path_from_run : {text : List ℕ} → Run path_byte text → Path (47 ∷ text)
path_from_run r = let c = cut_run r in subst (λ (xs : List ℕ). Path (47 ∷ xs)) (sym c.whole) (segment c.run c.path)
