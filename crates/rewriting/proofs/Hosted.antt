-- The parts of a legal URI with another host, and its promises. Assumes nothing.
use Rattle.std.proofs.Common.{◌≡◌, ℕ, ◌≤◌, true, leb, List, [], ◌∷◌, ◌++◌, length, Some, Option, sym, refl, ap, ◌∙◌, append_assoc}
use Rattle.std.proofs.lemmas.Bool.{le-leb, and_from}
use Rattle.std.specs.Option.{option_map}
use Rattle.terms.specs.Texts.{bounded}
use Rattle.uri.specs.Cuts.{before, behind, marked}
use Rattle.uri.specs.Splits.{Split, split}
use Rattle.uri.specs.Legal.{is_host, legal_parts, legal}
use Rattle.uri.specs.Grammar.{Uri}
use Rattle.uri.proofs.Free.{Free, before-marked, behind-marked}
use Rattle.uri.proofs.Sound.{derived}
use Rattle.uri.proofs.Complete.{host_free, port_part, inner_part, query_part, fragment_part, put, put_is, put_split, put_legal}
use Rattle.rewriting.specs.Hosts.{with_authority, hosted, with_host}
use Rattle.rewriting.specs.Laws.{NewHost, SameButHost, HostAlone, HostLegal}
use Rattle.rewriting.proofs.Promises.{answered}

module _ (host uri : List ℕ) (good : legal uri ≡ true) (named : is_host host ≡ true) where
  u : Uri uri
  u = derived uri good

  abbrev port : Option (List ℕ)
  port = (port_part uri u).part

  -- the parts of the URI with a host
  abbrev parts : List ℕ → Split
  parts name =
      record {
        scheme = Some u.scheme;
        authority = Some (name ++ marked 58 port);
        path = marked 47 (inner_part uri u).0;
        query = (query_part uri u).part;
        fragment = (fragment_part uri u).part;
      }

  split_put : (name : List ℕ) → is_host name ≡ true → split (put uri u name) ≡ parts name
  split_put name is = let c = put_split uri u name is in cc

  split_old : split uri ≡ parts u.host
  split_old = ap split (put_is uri u) ∙ split_put u.host u.host_is

  colons : Free 58 u.host
  colons = host_free 58 u.host refl u.host_is

  new_is : with_host host uri ≡ put uri u host
  new_is =
      ap (λ (p : Split). hosted host uri p p.authority) split_old
      ∙ ap (λ (o : Option (List ℕ)). with_authority (parts u.host) (host ++ marked 58 o)) (behind-marked colons port)
      ∙ ap (λ (xs : List ℕ). (xs ++ marked 63 (query_part uri u).part) ++ marked 35 (fragment_part uri u).part)
      (append_assoc u.scheme (58 ∷ []) (47 ∷ 47 ∷ ((host ++ marked 58 port) ++ marked 47 (inner_part uri u).0)))

  split_new : split (with_host host uri) ≡ parts host
  split_new = ap split new_is ∙ split_put host named

  host_new : option_map (before 58) (split (with_host host uri)).authority ≡ Some host
  host_new = ap (λ (p : Split). option_map (before 58) p.authority) split_new ∙ ap Some (before-marked (host_free 58 host refl named) port)

  port_of : (name : List ℕ) → is_host name ≡ true → option_map (behind 58) (parts name).authority ≡ Some port
  port_of name is = ap Some (behind-marked (host_free 58 name refl is) port)

  same_but_host : SameButHost (split (with_host host uri)) (split uri)
  same_but_host =
      record {
        scheme = ap (λ (p : Split). p.scheme) split_new ∙ sym (ap (λ (p : Split). p.scheme) split_old);
        port =
            ap (λ (p : Split). option_map (behind 58) p.authority) split_new
            ∙ port_of host named
            ∙ sym (ap (λ (p : Split). option_map (behind 58) p.authority) split_old ∙ port_of u.host u.host_is);
        path = ap (λ (p : Split). p.path) split_new ∙ sym (ap (λ (p : Split). p.path) split_old);
        query = ap (λ (p : Split). p.query) split_new ∙ sym (ap (λ (p : Split). p.query) split_old);
        fragment = ap (λ (p : Split). p.fragment) split_new ∙ sym (ap (λ (p : Split). p.fragment) split_old);
      }

  host-legal : length (with_host host uri) ≤ 512 → legal (with_host host uri) ≡ true
  host-legal short =
      and_from (leb (length (with_host host uri)) 512) (legal_parts (split (with_host host uri))) (le-leb (length (with_host host uri)) 512 short)
      (ap (λ (xs : List ℕ). legal_parts (split xs)) new_is ∙ put_legal uri u host named)

module _ (n : ℕ) (host uri : List ℕ) (answer : Option (List ℕ)) (is : answer ≡ bounded n (with_host host uri)) where
  pub new_host : NewHost host uri answer
  new_host good named =
      answered n (with_host host uri) answer (λ text. option_map (before 58) (split text).authority ≡ Some host) is (host_new host uri good named)

  pub host_alone : HostAlone host uri answer
  host_alone good named = answered n (with_host host uri) answer (λ text. SameButHost (split text) (split uri)) is (same_but_host host uri good named)

  pub stays_legal : HostLegal host uri answer
  stays_legal good named = answered n (with_host host uri) answer (λ text. length text ≤ 512 → legal text ≡ true) is (host-legal host uri good named)
