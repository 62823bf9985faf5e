-- What a set of pathways and a description mean. Assumes nothing.
use Rattle.std.specs.Prelude.{ℕ, List, [], map}
use Rattle.pathways.specs.declared.dialect.Dialect.{Dialect}

-- a pathway: its ID, and the URIs of its members
pub record Pathway : Type 0 where
  pub id : List ℕ
  pub members : List (List ℕ)

-- what stands for a pathway past the last
abbrev pub nowhere : Pathway
nowhere = record { id = []; members = [] }

abbrev pub ids : List Pathway → List (List ℕ)
ids ps = map (λ p. p.id) ps

-- a description: its pathways in the order that holds before any manifest
pub record Meaning : Type 0 where
  pub dialect : Dialect
  pub steering : List ℕ
  pub pathways : List Pathway
