use Rattle.std.proofs.Common.{◌≡◌, List, Some, None, rules, ap, ◌∙◌}
use Rattle.playlist.specs.Items.{Item, items_of, order_of}
use Rattle.playlist.specs.Lookups.{count_in, count_for}
use Rattle.playlist.proofs.Answering.{members_by}
use Rattle.playlist.proofs.reading.Playlist.members_at.Goals as goal

pub returns-in_err-id : goal.returns-in_err-id
returns-in_err-id c =
    let text = c.args.self.now.text.now in
    let none : c.from_residual.result ≡ None = search rules in
    none ∙ ap (count_for (items_of text)) c.in_err-id.ensures.id ∙ members_by c.args.self.now.own.now (items_of text) (order_of text) c.args.number

pub returns : goal.returns
returns c =
    let text = c.args.self.now.text.now in
    ap Some (c.count_streams.ensures ∙ ap (λ (items : List Item). count_in c.in_ok-id.id.now items) c.streams.ensures)
    ∙ ap (count_for (items_of text)) c.in_ok-id.ensures.id
    ∙ members_by c.args.self.now.own.now (items_of text) (order_of text) c.args.number
