use Rattle.determinize_core.proofs.Common.{Ok}
use Rattle.determinize_find.proofs.Common.{drop-append-le, rules, Some, ◌++◌, ◌≡◌}
use Rattle.determinize_find.proofs.leftmost.TwoSearches.{all_bytes}
use Rattle.determinize_find.proofs.streams.Rests.{byte_before-append}
use Rattle.determinize_find.proofs.streams.Steps.{fed_kept}
use Rattle.determinize_find.proofs.pieces.Pieces.keep.Goals as goal

pub returns-in_default-feed-clause-fed : goal.returns-in_default-feed-clause-fed
returns-in_default-feed-clause-fed g c nfa list =
    let items : c.extend_from_slice.new.self.items ≡ c.self.inside.kept.items ++ c.args.block.now = search rules in
    rw (← c.self.view_is, items)
    (fed_kept nfa _ c.args.block.now (Some c.feed.new.scan) list (all_bytes c.args.block.now c.type_inv.block))

pub returns-in_default-feed-clause-searching : goal.returns-in_default-feed-clause-searching
returns-in_default-feed-clause-searching g c searching =
    let items : c.extend_from_slice.new.self.items ≡ c.self.inside.kept.items ++ c.args.block.now = search rules in
    let within = c.self.invariant.within in
    let ok : c.feed.result ≡ Ok tt = search rules in
    let fed = rw ok at c.feed.ensures.fed in
    rw (items, byte_before-append _ c.args.block.now _ within, drop-append-le _ _ c.args.block.now within)
    (fed _ _ (rw (← c.self.view_is, c.in-Some.is) at searching))

pub returns-in_default-clause-fed : goal.returns-in_default-clause-fed
returns-in_default-clause-fed g c nfa list =
    let items : c.extend_from_slice.new.self.items ≡ c.self.inside.kept.items ++ c.args.block.now = search rules in
    rw (← c.self.view_is, items)
    (fed_kept nfa _ c.args.block.now c.self.inside.scan list (all_bytes c.args.block.now c.type_inv.block))
