use Rattle.determinize_lazy.proofs.{ap, arith, cache, cursor_value, has_read, IsPieceRead, last_match-within}
use Rattle.determinize_lazy.proofs.{later-within, later_by, left_whole, length, length-map, map, option_map, option_or, rules, scan-piece, Scanned, Some, ◌+◌, ◌∙◌, ◌≡◌, ◌≤◌}
use Rattle.determinize_lazy.proofs.lazy.LazyDfa.feed.Goals.{After-rest}
use Rattle.determinize_lazy.proofs.lazy.LazyDfa.feed.Goals as goal

-- the piece is read from the state of the scan
state : (g : _) (c : After-rest g)
    → cursor_value c.args.self.now.states c.in_ok-start.start ≡ c.args.scan.now.state
state g c = c.in_ok-start.ensures.value ∙ ap (λ (s : Scanned). s.state) c.scan.view_is

read : (g : _) (c : After-rest g) → IsPieceRead (cache c.args.self.now) c.args.scan.now.state c.args.piece.now
    (record { state = c.rest.inside.state; last = c.rest.inside.last; read = c.rest.inside.read })
read g c = rw c.rest.view_is (rw (state g c) at c.in_ok-rest.ensures.read)

pub or_later-scan-inside-requires : goal.or_later-scan-inside-requires
or_later-scan-inside-requires g c =
    let r = read g (goal.at.or_later-scan-inside-requires g c).After-rest in
    let sum : c.scan.inside.read + length c.args.piece.now ≤ 18446744073709551615 = search rules in
    later-within _ (length c.args.piece.now) _ c.rest.inside.last (rw (r.last, ← length-map c.args.piece.now Some)
    (last_match-within c.args.self.now.nfa c.args.self.now.kind c.args.scan.now.state (map Some c.args.piece.now)))
    (omega (arith, sum))

pub returns-clause-fed : goal.returns-clause-fed
returns-clause-fed g c start behind bytes is =
    let r = read g (goal.at.returns-clause-fed g c).After-rest in
    let sum : c.in-Some.read ≡ c.scan.inside.read + length c.args.piece.now = search rules in
    scan-piece is c.args.piece.now r.last r.state
    (c.or_later-scan-inside.ensures
    ∙ ap (λ (s : Scanned). option_or (option_map (later_by s.read) c.rest.inside.last) s.last) c.scan.view_is)
    (sum ∙ ap (λ (s : Scanned). s.read + length c.args.piece.now) c.scan.view_is)

pub returns-clause-cache : goal.returns-clause-cache
returns-clause-cache g c =
    let left = rw (state g (goal.at.returns-clause-cache g c).After-rest) at c.in_ok-rest.ensures.left in
    has_read c.cursor_of.ensures.sound (left_whole _ left.after left.grows)
