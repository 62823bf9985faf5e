-- What the questions answer, and what they leave in the buffer. A number past the last is turned down by 8, a short buffer by 7.
-- Assumes nothing.
use Rattle.std.specs.Prelude.{ℕ, cond, List, [], length, Some, None, Ok, Err, Option, Result, nat_lt, slice_index_or}
use Rattle.terms.specs.declared.layer.Layer.TheVariants.{Set}
use Rattle.terms.specs.Faults.{Told}
use Rattle.terms.specs.Replies.{Reply, copied, refused}
use Rattle.pathways.specs.Meaning.{Pathway, nowhere}

-- the pathway of a number, where there is one
abbrev pub numbered : List Pathway → ℕ → Option Pathway
numbered ps n = cond (nat_lt n (length ps)) (Some (slice_index_or ps n nowhere)) None

abbrev pub id_of : Option Pathway → Option (List ℕ)
id_of None = None
id_of (Some p) = Some p.id

abbrev pub members_of : Option Pathway → Option ℕ
members_of None = None
members_of (Some p) = Some (length p.members)

-- the member of a number, where there is one
abbrev pub member_of : Option Pathway → ℕ → Option (List ℕ)
member_of None m = None
member_of (Some p) m = cond (nat_lt m (length p.members)) (Some (slice_index_or p.members m [])) None

-- a text that is there is copied; where there is none, the number is turned down
abbrev pub handed_out : Option (List ℕ) → List ℕ → Reply
handed_out None old = refused 8 Set old
handed_out (Some text) old = copied text Set old

abbrev pub counted : Option ℕ → Result ℕ Told
counted None = Err (record { number = 8; place = 0; layer = Set })
counted (Some n) = Ok n

abbrev pub id_reply : List Pathway → ℕ → List ℕ → Reply
id_reply ps n old = handed_out (id_of (numbered ps n)) old

abbrev pub members_reply : List Pathway → ℕ → Result ℕ Told
members_reply ps n = counted (members_of (numbered ps n))

abbrev pub member_reply : List Pathway → ℕ → ℕ → List ℕ → Reply
member_reply ps n m old = handed_out (member_of (numbered ps n) m) old
