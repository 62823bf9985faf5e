-- The parts that the code hands out, as texts. Assumes nothing.
use Rattle.std.specs.Option.{option_map}
use Rattle.uri.specs.declared.parts.Parts.{Parts}
use Rattle.uri.specs.Splits.{Split}

abbrev pub texts : Parts → Split
texts p =
    record {
      scheme = option_map (λ x. x.now) p.scheme;
      authority = option_map (λ x. x.now) p.authority;
      path = p.path.now;
      query = option_map (λ x. x.now) p.query;
      fragment = option_map (λ x. x.now) p.fragment;
    }
