-- References and rewritten URIs, worked out byte by byte. Assumes nothing.
use Rattle.std.specs.Prelude.{◌≡◌, ℕ, List, Some, None, codes}
use Rattle.references.specs.Resolution.{resolved}
use Rattle.rewriting.specs.Parameters.{set_to}
use Rattle.rewriting.specs.Hosts.{with_host}

-- the base of RFC 3986's examples
abbrev pub base : List ℕ
base = codes "http://a/b/c/d;p?q"

-- more `..` than the base has directories stop at the root
abbrev pub RootIsKept : Type 0
RootIsKept = resolved base (codes "../../../g") ≡ Some (codes "http://a/g")

-- a scheme without an authority makes no URI, even where it is the base's
abbrev pub SchemeAloneIsIllegal : Type 0
SchemeAloneIsIllegal = resolved base (codes "http:g") ≡ None

-- another host, then two parameters in ascending order of their names: one is added, one is replaced, and the rest stays
abbrev pub MemberIsRewritten : Type 0
MemberIsRewritten =
    set_to (codes "token") (codes "9") (set_to (codes "k") (codes "5") (with_host (codes "b.example") (codes "https://d.example/v?token=1&z=2#t")))
    ≡ codes "https://b.example/v?token=9&z=2&k=5#t"
