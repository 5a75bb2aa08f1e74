use Rattle.determinize_lazy.proofs.{ap, cursor_value, cut_off-first, cut_off-whole, has_read, lazy-known, LazyValue, left_whole, read_err, walked-next, ◌∙◌, ◌≡◌}
use Rattle.determinize_lazy.proofs.Common.{step}
use Rattle.determinize_lazy.proofs.lazy.LazyDfa.next.Goals.{In_ok-walker-inside}
use Rattle.determinize_lazy.proofs.lazy.LazyDfa.next.Goals as goal

pub returns-in_err-next-clause-cache : goal.returns-in_err-next-clause-cache
returns-in_err-next-clause-cache g c = read_err c.from_residual-in_err-next.ensures.0 (cut_off-first
    (rw (c.in_ok-cursor.ensures.value ∙ c.walker.view_is) at c.in_err-next.ensures.failed)) c.in_err-next.ensures.grows

pub returns-in_err-walker-inside-clause-resolve : goal.returns-in_err-walker-inside-clause-resolve
returns-in_err-walker-inside-clause-resolve g c r = rw c.in_ok-next.ensures.grows.nfa r

pub returns-in_err-walker-inside-clause-cache : goal.returns-in_err-walker-inside-clause-cache
returns-in_err-walker-inside-clause-cache g c = read_err c.from_residual-in_err-walker-inside.ensures.0 (cut_off-whole
    (rw (c.in_ok-cursor.ensures.value ∙ c.walker.view_is) at c.in_ok-next.ensures.after)) c.in_ok-next.ensures.grows

-- the walker takes the step
stepped : (g : _) (c : In_ok-walker-inside g) → c.in_ok-walker-inside.field-0
    ≡ step c.args.self.now.nfa c.args.self.now.kind c.args.walker.now c.args.unit
stepped g c = c.in_ok-walker-inside.ensures
    ∙ ap (λ (x : LazyValue). cursor_value x.states c.in_ok-next.next) c.self.view_is ∙ c.in_ok-next.ensures.value
    ∙ ap (λ v. step c.args.self.now.nfa c.args.self.now.kind v c.args.unit)
    (c.in_ok-cursor.ensures.value ∙ c.walker.view_is)

pub returns-clause-value : goal.returns-clause-value
returns-clause-value g c = stepped g (goal.at.returns-clause-value g c).In_ok-walker-inside

pub returns-clause-walked : goal.returns-clause-walked
returns-clause-walked g c start index text at here =
    walked-next c.args.self.now.nfa c.args.self.now.kind start text index at here
    (stepped g (goal.at.returns-clause-walked g c).In_ok-walker-inside)

pub returns-clause-resolve : goal.returns-clause-resolve
returns-clause-resolve g c _ = rw (c.in_ok-walker-inside.ensures, ← c.self.view_is) (lazy-known c.self.invariant
    c.self.view_is c.in_ok-next.next c.in_ok-next.ensures.ready).resolve

pub returns-clause-cache : goal.returns-clause-cache
returns-clause-cache g c = has_read c.cursor_of.ensures.sound (left_whole _
    (rw (c.in_ok-cursor.ensures.value ∙ c.walker.view_is) at c.in_ok-next.ensures.after)
    c.in_ok-next.ensures.grows)
