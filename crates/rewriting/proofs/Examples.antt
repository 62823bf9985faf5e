-- Worked examples of parameters that are set and of a host that is replaced. Assumes nothing.
use Rattle.std.proofs.Common.{◌≡◌, codes, refl}
use Rattle.rewriting.specs.Parameters.{set_to}
use Rattle.rewriting.specs.Hosts.{with_host}

two_set : set_to (codes "k") (codes "5") (set_to (codes "token") (codes "9") (codes "https://d.example/v?token=1&z=2#t")) ≡ codes "https://d.example/v?token=9&z=2&k=5#t"
two_set = refl

repeated : set_to (codes "a") (codes "9") (codes "//h/?a&b=a=1&a=2&ab=3&A=4&a=") ≡ codes "//h/?a=9&b=a=1&ab=3&A=4"
repeated = refl

empty_parts : set_to (codes "k") (codes "5") (codes "http://h?&") ≡ codes "http://h?&&k=5"
empty_parts = refl

empty_query : set_to (codes "k") (codes "5") (codes "http://h?") ≡ codes "http://h?k=5"
empty_query = refl

no_query : set_to (codes "k") (codes "5") (codes "http://h/p#f?k=1") ≡ codes "http://h/p?k=5#f?k=1"
no_query = refl

port-kept : with_host (codes "cdn.example") (codes "https://d.example:8443/v?u=http://d.example#d.example") ≡ codes "https://cdn.example:8443/v?u=http://d.example#d.example"
port-kept = refl

no_authority : with_host (codes "cdn.example") (codes "v/d.example?x") ≡ codes "v/d.example?x"
no_authority = refl
