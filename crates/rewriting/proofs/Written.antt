-- What was written, part by part, is the new text. Assumes nothing.
use Rattle.std.proofs.Common.{◌≡◌, ℕ, List, [], ◌++◌, Some, Option, sym, ap, ◌∙◌, append_assoc}
use Rattle.terms.specs.Texts.{bounded}
use Rattle.terms.specs.Drafts.{extended}
use Rattle.terms.proofs.Drafts.{extended-bounded}
use Rattle.uri.specs.Splits.{Split, split}
use Rattle.rewriting.specs.Hosts.{rehosted, with_authority, hosted, with_host}

-- five parts, one behind the other
pub five_written :
    (n : ℕ) (s a p q f : List ℕ) → extended n (extended n (extended n (extended n (extended n (Some []) s) a) p) q) f ≡ bounded n (((s ++ (a ++ p)) ++ q) ++ f)
five_written n s a p q f = simp extended-bounded (ap (λ (l : List ℕ). bounded n ((l ++ q) ++ f)) (append_assoc s a p))

-- the parts of a text with another host make it
pub host_written :
    (n : ℕ) (uri host owner : List ℕ) (p : Split) → p ≡ split uri → p.authority ≡ Some owner
    → bounded n (with_authority p (rehosted host owner)) ≡ bounded n (with_host host uri)
host_written n uri host owner p parts there =
    ap (λ (o : Option (List ℕ)). bounded n (hosted host uri p o)) (sym there) ∙ ap (λ (q : Split). bounded n (hosted host uri q q.authority)) parts
