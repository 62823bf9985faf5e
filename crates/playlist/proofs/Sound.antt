-- What follows from a playlist's having passed the check. Assumes nothing.
use Rattle.std.proofs.Common.{◌≡◌, ℕ, ◌≤◌, Bool, true, false, cond, List, [], ◌∷◌, map, length, is_ok, Some, None, Option, sym, refl, ap, ◌∙◌, subst, ⊎_elim, arith}
use Rattle.std.specs.List.{AllByRecursion}
use Rattle.std.proofs.ByRecursion.{All-map, All-weaker}
use Rattle.std.proofs.lemmas.Slice.Eq.{bytes_eq-Decides}
use Rattle.std.proofs.lemmas.List.{length-map}
use Rattle.std.proofs.lemmas.Bool.{false≢true, or_left, or_cases, cond-true}
use Rattle.uri.specs.Legal.{legal}
use Rattle.uri.proofs.Fragments.{legal-whole, no_fragment}
use Rattle.pathways.specs.declared.dialect.Dialect.{Dialect}
use Rattle.pathways.specs.Meaning.{ids}
use Rattle.pathways.specs.Limits.{legal_id, Different, LawfulPathway, Lawful, Described}
use Rattle.pathways.specs.Rules.{Rule, judged, and_then}
use Rattle.tags.specs.Lines.{rows_of}
use Rattle.tags.specs.Attributes.{Found, unquoted}
use Rattle.multivariant.specs.Rules.{ServerQuoted, UriLegal}
use Rattle.multivariant.specs.Tags.{server_of, id_of}
use Rattle.multivariant.specs.Streams.{Served, no_tag, streams_of, pathway_of, is_of, has_stream, count_of}
use Rattle.multivariant.specs.Offences.{is_known, first, bad_steering, overrun, bad_count}
use Rattle.multivariant.specs.Checks.{outer, form, sense, checked}
use Rattle.playlist.specs.Items.{item_of, items_of, steering_of, foremost, is_among, in_order, target_of, members_of, pathway_for, pathways_of, server_text}
use Rattle.playlist.specs.Playlists.{pathways_in, steering_uri}
use Rattle.playlist.proofs.Answering.{count_is}
use Rattle.playlist.proofs.Passed.{both_kept, all_kept, Good, streams_good, steering_target, steering_known}
use Rattle.playlist.proofs.Orders.{itself, some-counted, count_items, few_streams, all_order, order_different, order_grows, all_own, few-pathways}

-- the pathways of good streams
module _ (own : List ℕ) where
  id-legal : (id : List ℕ) (ss : List Served) → AllByRecursion (Good own) ss → has_stream id ss ≡ true → legal_id id ≡ true
  id-legal id [] good e = absurd (false≢true e)
  id-legal id (s ∷ ss) good e = ⊎_elim
      (λ here. subst (λ (i : List ℕ). legal_id i ≡ true) ((bytes_eq-Decides (pathway_of s) id).0 here) good.0.id)
      (λ later. id-legal id ss good.1 later)
      (or_cases (is_of id s) (has_stream id ss) e)

  members-legal : (id : List ℕ) (ss : List Served) → AllByRecursion (Good own) ss → AllByRecursion (λ (u : List ℕ). legal u ≡ true) (members_of own id (map item_of ss))
  members-legal id [] good = tt
  members-legal id (s ∷ ss) good = go (is_of id s) (members-legal id ss good.1)
    where
      go : (b : Bool) → AllByRecursion (λ (u : List ℕ). legal u ≡ true) (members_of own id (map item_of ss))
          → AllByRecursion (λ (u : List ℕ). legal u ≡ true) (cond b (target_of own s.uri.text ∷ members_of own id (map item_of ss)) (members_of own id (map item_of ss)))
      go true more = (good.0.uri, more)
      go false more = more

  pathway_lawful : (ss : List Served) → overrun 0 [] ss ≡ None → AllByRecursion (Good own) ss → (id : List ℕ) → has_stream id ss ≡ true → LawfulPathway (pathway_for own (map item_of ss) id)
  pathway_lawful ss counted good id e =
      let long : length (members_of own id (map item_of ss)) ≡ count_of id ss = count_is own id (map item_of ss) ∙ count_items id ss in
      record {
        id = id-legal id ss good e;
        some = omega (arith, long, some-counted id ss e);
        few = omega (arith, long, few_streams id 0 [] ss counted (omega arith));
        uris = members-legal id ss good;
      }

ids_of : (own : List ℕ) (ss : List Served) (order : List (List ℕ)) → ids (pathways_of own (map item_of ss) order) ≡ order
ids_of own ss [] = refl
ids_of own ss (x ∷ xs) = ap (λ (l : List (List ℕ)). x ∷ l) (ids_of own ss xs)

-- an order that begins with a pathway of a stream
module _ (own sid : List ℕ) (ss : List Served) (counted : overrun 0 [] ss ≡ None) (good : AllByRecursion (Good own) ss) (has : has_stream sid ss ≡ true) where
  abbrev order : List (List ℕ)
  order = in_order (sid ∷ []) (map item_of ss)

  lawful_from : Lawful (pathways_of own (map item_of ss) order)
  lawful_from =
      let long = length-map order (pathway_for own (map item_of ss)) in
      record {
        some = omega (arith, long, order_grows (sid ∷ []) (map item_of ss));
        few = omega (arith, long, few-pathways sid ss counted has);
        different = subst Different (sym (ids_of own ss order)) (order_different (sid ∷ []) (map item_of ss) (tt, tt));
        each = All-map LawfulPathway (pathway_for own (map item_of ss)) order
            (All-weaker (λ (id : List ℕ). has_stream id ss ≡ true) (λ (id : List ℕ). LawfulPathway (pathway_for own (map item_of ss) id)) (pathway_lawful own ss counted good) order
            (all_order (λ (id : List ℕ). has_stream id ss ≡ true) (sid ∷ []) ss (has, tt) (all_own ss)));
      }

  few_from : length (pathways_of own (map item_of ss) order) ≤ 16
  few_from = omega (arith, length-map order (pathway_for own (map item_of ss)), few-pathways sid ss counted has)

-- the order begins with the pathway that is named, or else with that of the first stream
module _ (P : List (List ℕ) → Type 0) where
  by_foremost : (end : ℕ) (ss : List Served) (o : Option Found) → bad_count end ss ≡ None → is_known ss o ≡ true
      → ((sid : List ℕ) → overrun 0 [] ss ≡ None → has_stream sid ss ≡ true → P (in_order (sid ∷ []) (map item_of ss))) → P (in_order (foremost o) (map item_of ss))
  by_foremost end [] o b k f = let z : ◌≡◌ {A = ℕ} 0 1 = cc in absurd (omega arith)
  by_foremost end (s ∷ ss) None b k f =
      subst (λ (l : List (List ℕ)). P (in_order l (map item_of ss)))
      (cond-true (is_among (pathway_of s) (pathway_of s ∷ [])) (pathway_of s ∷ []) (pathway_of s ∷ pathway_of s ∷ []) (or_left (is_of (pathway_of s) s) false (itself (pathway_of s))))
      (f (pathway_of s) b (or_left (is_of (pathway_of s) s) (has_stream (pathway_of s) ss) (itself (pathway_of s))))
  by_foremost end (s ∷ ss) (Some v) b k f = f (unquoted v.text) b k

module _ (own text : List ℕ) (sound : is_ok (checked own text) ≡ true) where
  halves : (is_ok (judged (form own text)) ≡ true) × (is_ok (judged (sense own text)) ≡ true)
  halves =
      both_kept (judged (form own text)) (judged (sense own text))
      (both_kept (judged (outer own text)) (and_then (judged (form own text)) (judged (sense own text))) sound).1

  form-kept : AllByRecursion (λ (r : Rule). r.offence ≡ None) (form own text)
  form-kept = all_kept (form own text) halves.0

  sense-kept : AllByRecursion (λ (r : Rule). r.offence ≡ None) (sense own text)
  sense-kept = all_kept (sense own text) halves.1

  steering-kept : bad_steering (length text) false (rows_of text) ≡ None
  steering-kept = form-kept.1.1.1.0

  server_kept : first own text ServerQuoted (rows_of text) ≡ None
  server_kept = form-kept.1.1.1.1.0

  uris-kept : first own text UriLegal (rows_of text) ≡ None
  uris-kept = sense-kept.1.1.0

  good : AllByRecursion (Good own) (streams_of text)
  good = streams_good own text no_tag (rows_of text) refl sense-kept.0 sense-kept.1.0 uris-kept

  known : is_known (streams_of text) (id_of (steering_of text)) ≡ true
  known = steering_known own text (length text) (rows_of text) steering-kept sense-kept.1.1.1.1.0

  pub sound_lawful : Lawful (pathways_in own text)
  sound_lawful =
      by_foremost (λ (order : List (List ℕ)). Lawful (pathways_of own (items_of text) order)) (length text) (streams_of text) (id_of (steering_of text)) sense-kept.1.1.1.0 known
      (λ sid counted has. lawful_from own sid (streams_of text) counted good has)

  few : length (pathways_in own text) ≤ 16
  few =
      by_foremost (λ (order : List (List ℕ)). length (pathways_of own (items_of text) order) ≤ 16) (length text) (streams_of text) (id_of (steering_of text)) sense-kept.1.1.1.0 known
      (λ sid counted has. few_from own sid (streams_of text) counted good has)

  target : legal (target_of own (server_text (server_of (steering_of text)))) ≡ true
  target = steering_target own text (length text) (rows_of text) steering-kept server_kept uris-kept

  pub sound_described : (dialect : Dialect) → Described (record { dialect = dialect; steering = steering_uri own text; pathways = pathways_in own text }) (pathways_in own text)
  sound_described dialect =
      record {
        same = refl;
        few = few;
        steering = legal-whole (target_of own (server_text (server_of (steering_of text)))) target;
        whole = no_fragment (target_of own (server_text (server_of (steering_of text))));
      }
