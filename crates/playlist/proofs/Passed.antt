-- What the rules say of a text that keeps them. Assumes nothing.
use Rattle.std.proofs.Common.{◌≡◌, ℕ, Bool, true, false, cond, not, ◌&&◌, ◌||◌, List, [], ◌∷◌, is_ok, Some, None, Ok, Err, Option, Result, sym, refl, ap, ◌∙◌, arith}
use Rattle.std.specs.List.{AllByRecursion}
use Rattle.std.proofs.lemmas.Bool.{false≢true, true≢false, not-false}
use Rattle.terms.specs.Faults.{Told}
use Rattle.uri.specs.Legal.{legal}
use Rattle.references.specs.Laws.{OnlyLegal}
use Rattle.references.specs.Resolution.{resolved}
use Rattle.references.proofs.Laws.{only_legal}
use Rattle.pathways.specs.Limits.{legal_id}
use Rattle.pathways.specs.Rules as rules
use Rattle.pathways.specs.Rules.{placed, verdict, and_then, judged}
use Rattle.table.proofs.Lawful.{none-further}
use Rattle.tags.specs.declared.kind.Kind.{Kind}
use Rattle.tags.specs.declared.kind.Kind.TheVariants.{Steering, Stream, Uri, Other}
use Rattle.tags.specs.Lines.{Row}
use Rattle.tags.specs.Attributes.{Found, is_quoted, unquoted, or_nothing}
use Rattle.multivariant.specs.Rules.{Rule, ServerQuoted, IdLegal, IdQuoted, UriLegal, IdKnown}
use Rattle.multivariant.specs.Tags.{is_steering, id_of, server_of, named, is_quoted_value}
use Rattle.multivariant.specs.Streams.{Served, no_tag, streams_in, streams_of, pathway_of, steering_in}
use Rattle.multivariant.specs.Offences.{stands, bad_id, bare_id, bad_server, bad_uri, is_known, if_tag, offence, or_else, first, bad_steering}
use Rattle.playlist.specs.Items.{target_of, server_text}

-- each rule is kept
pub both_kept : (a b : Result (Unit {0}) Told) → is_ok (and_then a b) ≡ true → (is_ok a ≡ true) × (is_ok b ≡ true)
both_kept (Ok x) b e = (refl, e)
both_kept (Err t) b e = absurd (false≢true e)

rule_kept : (n : ℕ) (o : Option ℕ) → is_ok (verdict n o) ≡ true → o ≡ None
rule_kept n None e = refl
rule_kept n (Some p) e = absurd (false≢true e)

pub all_kept : (rs : List rules.Rule) → is_ok (judged rs) ≡ true → AllByRecursion (λ (r : rules.Rule). r.offence ≡ None) rs
all_kept [] e = tt
all_kept (r ∷ rs) e =
    let p = both_kept (verdict r.number r.offence) (judged rs) e in
    (rule_kept r.number r.offence p.0, all_kept rs p.1)

neither : (a b : Option ℕ) → or_else a b ≡ None → (a ≡ None) × (b ≡ None)
neither None b e = (refl, e)
neither (Some p) b e = let z : ◌≡◌ {A = ℕ} 0 1 = cc in absurd (omega arith)

unmet : (b : Bool) (p : ℕ) → placed b p ≡ None → b ≡ false
unmet b p e = (none-further b p None e).0

-- a quoted value that is judged well
quoted_good : (q l : Bool) (p r : ℕ) → placed (q && not l) p ≡ None → placed (not q) r ≡ None → l ≡ true
quoted_good true l p r e f = not-false l (unmet (not l) p e)
quoted_good false l p r e f = absurd (true≢false (unmet true r f))

id_good : (r : Row) (o : Option Found) → bad_id r o ≡ None → bare_id r o ≡ None → legal_id (named o) ≡ true
id_good r None e f = refl
id_good r (Some v) e f = quoted_good (is_quoted v.text) (legal_id (unquoted v.text)) _ _ e f

-- what stands for a URI is legal
answered : (o : Option (List ℕ)) → OnlyLegal o → stands o ≡ true → legal (or_nothing o) ≡ true
answered None l e = absurd (false≢true e)
answered (Some u) l e = l

target_legal : (own reference : List ℕ) (p : ℕ) → placed (not (stands (resolved own reference))) p ≡ None → legal (target_of own reference) ≡ true
target_legal own reference p e =
    answered (resolved own reference) (only_legal own reference (resolved own reference) refl)
    (not-false (stands (resolved own reference)) (unmet (not (stands (resolved own reference))) p e))

steering-kind : (k : Kind) → is_steering k ≡ true → k ≡ Steering
steering-kind Steering e = refl
steering-kind Stream e = absurd (false≢true e)
steering-kind Uri e = absurd (false≢true e)
steering-kind Other e = absurd (false≢true e)

met : (s q : Bool) (p : ℕ) → s ≡ true → placed (s && not q) p ≡ None → q ≡ true
met true q p t e = not-false q (unmet (not q) p e)
met false q p t e = absurd (false≢true t)

-- a stream of a legal pathway that has a legal URI
pub record Good (own : List ℕ) (s : Served) : Type 0 where
  pub id : legal_id (pathway_of s) ≡ true
  pub uri : legal (target_of own s.uri.text) ≡ true

module _ (own text : List ℕ) where
  row_step : (tag r : Row) (rs : List Row) (k : Kind) → legal_id (named (id_of tag)) ≡ true
      → if_tag k (bad_id r (id_of r)) ≡ None → if_tag k (bare_id r (id_of r)) ≡ None → bad_uri own r k ≡ None
      → ((t : Row) → legal_id (named (id_of t)) ≡ true → AllByRecursion (Good own) (streams_in t rs))
      → AllByRecursion (Good own) (elim k [ Steering ↦ streams_in tag rs | Stream ↦ streams_in r rs | Uri ↦ record { tag = tag; uri = r } ∷ streams_in no_tag rs | Other ↦ streams_in tag rs ])
  row_step tag r rs Steering good e f u more = more tag good
  row_step tag r rs Stream good e f u more = more r (id_good r (id_of r) e f)
  row_step tag r rs Uri good e f u more = (record { id = good; uri = target_legal own r.text r.place u }, more no_tag refl)
  row_step tag r rs Other good e f u more = more tag good

  pub streams_good : (tag : Row) (rs : List Row) → legal_id (named (id_of tag)) ≡ true
      → first own text IdLegal rs ≡ None → first own text IdQuoted rs ≡ None → first own text UriLegal rs ≡ None → AllByRecursion (Good own) (streams_in tag rs)
  streams_good tag [] good e f u = tt
  streams_good tag (r ∷ rs) good e f u =
      let (e0, e1) = neither (offence own text IdLegal r rs) (first own text IdLegal rs) e in
      let (f0, f1) = neither (offence own text IdQuoted r rs) (first own text IdQuoted rs) f in
      let (u0, u1) = neither (offence own text UriLegal r rs) (first own text UriLegal rs) u in
      row_step tag r rs r.kind good e0 f0 u0 (λ t g. streams_good t rs g e1 f1 u1)

  -- the steering tag keeps a rule
  record Chosen (rule : Rule) (r : Row) : Type 0 where
    steers : is_steering r.kind ≡ true
    rest : List Row
    kept : offence own text rule r rest ≡ None

  chosen : (end : ℕ) (rule : Rule) (rs : List Row) → bad_steering end false rs ≡ None → first own text rule rs ≡ None → Chosen rule (steering_in rs)
  chosen end rule [] b e = absurd (true≢false (unmet true end b))
  chosen end rule (r ∷ rs) b e =
      let (here, later) = neither (offence own text rule r rs) (first own text rule rs) e in
      go (is_steering r.kind) refl here b (λ c. chosen end rule rs c later)
    where
      go : (t : Bool) → is_steering r.kind ≡ t → offence own text rule r rs ≡ None
          → cond (t && false) (Some r.place) (bad_steering end (t || false) rs) ≡ None
          → (bad_steering end false rs ≡ None → Chosen rule (steering_in rs))
          → Chosen rule (cond t r (steering_in rs))
      go true is here b more = record { steers = is; rest = rs; kept = here }
      go false is here b more = more b

  server_legal : (r : Row) (o : Option Found) → is_quoted_value o ≡ true → bad_server own r o ≡ None → legal (target_of own (server_text o)) ≡ true
  server_legal r None q e = absurd (false≢true q)
  server_legal r (Some v) q e = target_legal own (unquoted v.text) _ e

  pub steering_target : (end : ℕ) (rs : List Row) → bad_steering end false rs ≡ None → first own text ServerQuoted rs ≡ None → first own text UriLegal rs ≡ None
      → legal (target_of own (server_text (server_of (steering_in rs)))) ≡ true
  steering_target end rs b q u = go (steering_in rs) (chosen end ServerQuoted rs b q) (chosen end UriLegal rs b u)
    where
      go : (r : Row) → Chosen ServerQuoted r → Chosen UriLegal r → legal (target_of own (server_text (server_of r))) ≡ true
      go r c d =
          server_legal r (server_of r) (met (is_steering r.kind) (is_quoted_value (server_of r)) r.place c.steers c.kept)
          (sym (ap (bad_uri own r) (steering-kind r.kind d.steers)) ∙ d.kept)

  pub steering_known : (end : ℕ) (rs : List Row) → bad_steering end false rs ≡ None → first own text IdKnown rs ≡ None → is_known (streams_of text) (id_of (steering_in rs)) ≡ true
  steering_known end rs b k = go (steering_in rs) (chosen end IdKnown rs b k)
    where
      go : (r : Row) → Chosen IdKnown r → is_known (streams_of text) (id_of r) ≡ true
      go r c = met (is_steering r.kind) (is_known (streams_of text) (id_of r)) r.place c.steers c.kept
