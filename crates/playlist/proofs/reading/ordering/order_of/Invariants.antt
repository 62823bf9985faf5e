use Rattle.std.proofs.Common.{◌≡◌, map, drop, vec_items}
use Rattle.std.specs.Option.{option_map}
use Rattle.multivariant.specs.Views.{item}
use Rattle.playlist.specs.Items.{in_order, only}
use Rattle.playlist.proofs.reading.ordering.order_of.Given as goal

abbrev pub invariant-loop-entry : goal.invariant-loop-entry
invariant-loop-entry l =
    in_order (only (option_map (λ x. x.now) l.fn.first)) (map item l.index)
    ≡ in_order (map (λ x. x.now) (vec_items l.order)) (map item (drop l.entry-index l.index))
