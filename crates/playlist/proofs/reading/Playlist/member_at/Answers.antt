use Rattle.std.proofs.Common.{◌≡◌, ℕ, List, None, Option, rules, ap, ◌∙◌}
use Rattle.std.specs.Option.{option_map}
use Rattle.terms.specs.Texts.{content}
use Rattle.playlist.specs.Items.{Item, items_of, order_of}
use Rattle.playlist.specs.Lookups.{uri_in, uri_for, target_for}
use Rattle.playlist.proofs.Answering.{member_by}
use Rattle.playlist.proofs.reading.Playlist.member_at.Goals as goal

pub returns-in_err-id : goal.returns-in_err-id
returns-in_err-id c =
    let own = c.args.self.now.own.now in
    let text = c.args.self.now.text.now in
    let none : c.from_residual.result ≡ None = search rules in
    ap (option_map content) none
    ∙ ap (λ (o : Option (List ℕ)). target_for own (uri_for (items_of text) c.args.member o)) c.in_err-id.ensures.id
    ∙ member_by own (items_of text) (order_of text) c.args.number c.args.member c.in_err-id.ensures.lawful.each

pub returns-in_err-nth_uri : goal.returns-in_err-nth_uri
returns-in_err-nth_uri c =
    let own = c.args.self.now.own.now in
    let text = c.args.self.now.text.now in
    let none : c.from_residual-in_err-nth_uri.result ≡ None = search rules in
    ap (option_map content) none
    ∙ ap (target_for own) (c.in_err-nth_uri.ensures ∙ ap (λ (items : List Item). uri_in c.in_ok-id.id.now c.args.member items) c.streams.ensures)
    ∙ ap (λ (o : Option (List ℕ)). target_for own (uri_for (items_of text) c.args.member o)) c.in_ok-id.ensures.id
    ∙ member_by own (items_of text) (order_of text) c.args.number c.args.member c.in_ok-id.ensures.lawful.each

pub returns : goal.returns
returns c =
    let own = c.args.self.now.own.now in
    let text = c.args.self.now.text.now in
    c.resolve.ensures.value
    ∙ ap (target_for own) (c.in_ok-nth_uri.ensures ∙ ap (λ (items : List Item). uri_in c.in_ok-id.id.now c.args.member items) c.streams.ensures)
    ∙ ap (λ (o : Option (List ℕ)). target_for own (uri_for (items_of text) c.args.member o)) c.in_ok-id.ensures.id
    ∙ member_by own (items_of text) (order_of text) c.args.number c.args.member c.in_ok-id.ensures.lawful.each
