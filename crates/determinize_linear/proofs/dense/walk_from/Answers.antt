use Rattle.std.proofs.Common.{◌≡◌, ◌<◌, ◌∙◌, None, Option, Some, ap, arith, length, sym, true}
use Rattle.determinize_below.specs.Semantics.{Nfa, before_at}
use Rattle.determinize_below.specs.declared.search.HalfMatch.{HalfMatch}
use Rattle.determinize_engine.proofs.Texts.{unit-last}
use Rattle.determinize_linear.specs.Private.Following.{IsWalkable, following}
use Rattle.determinize_linear.specs.Private.Found.{IsFoundAt}
use Rattle.determinize_linear.specs.Private.Walks.{IsWalked, WalkValue}
use Rattle.determinize_linear.proofs.walks.Longest.{found_of_walk}
use Rattle.determinize_linear.proofs.walks.Walked.{ends_before, has_walked, none_past, walked_all, walked_more}
use Rattle.determinize_linear.proofs.dense.walk_from.Given.{Over}
use Rattle.determinize_linear.proofs.dense.walk_from.Goals.{After-len, After-step}
use Rattle.determinize_linear.proofs.dense.walk_from.Goals as goal

can : (g : Over) (c : After-len g) → IsWalkable c.new-walk.result.dfa c.args.marks.now c.args.text.now
    c.new-walk.result.at
can g c = rw c.new-walk.ensures.value c.requires.walkable

pub walk_bytes-requires-clause-below : goal.walk_bytes-requires-clause-below
walk_bytes-requires-clause-below g c = rw c.new-walk.ensures.value
    (c.requires.walkable.rows.starts true (before_at c.args.text.now c.args.from) c.new-walk.ensures.behind)

-- the last match that is listed after the start of the walk is the one to find
last_found : (g : Over) (c : After-len g) (found : Option HalfMatch)
    → found ≡ following c.new-walk.result.dfa.table c.args.text.now c.new-walk.result.at c.new-walk.result.row
    → (nfa : Nfa) → g.D.Automaton.is_of c.args.dfa.now nfa
    → IsFoundAt nfa (g.D.Automaton.stored c.args.dfa.now).kind c.args.text.now c.args.from found
last_found g c found is nfa of =
    let e = c.new-walk.ensures in
    rw (is, e.value)
    (found_of_walk nfa (g.D.Automaton.stored c.args.dfa.now) c.args.text.now c.args.from (e.means nfa of)
    c.requires.within e.behind c.len.ensures.units)

pub returns-then-walk-len-clause-found : goal.returns-then-walk-len-clause-found
returns-then-walk-len-clause-found g c =
    let l = (goal.at.returns-then-walk-len-clause-found g c).After-len in
    let at : c.walk.inside.at ≡ c.walk_bytes.new.walk.at = ap (λ (w : WalkValue). w.at) c.walk.view_is in
    let none = c.walk_bytes.ensures.ends (omega (arith, at, c.if-walk-len.true, c.len.ensures.value)) in
    last_found g l c.found.result
    (c.found.ensures ∙ walked_all c.args.text.now c.new-walk.result c.args.marks.now (can g l)
    (g.C.Counter.total c.args.counter.now) c.walk_bytes.new.marks c.walk_bytes.new.walk 1 _
    c.walk_bytes.ensures.walked none)

-- the walk with its last step
last : (g : Over) (c : After-step g) → IsWalked c.args.text.now c.new-walk.result c.args.marks.now
    c.walk_bytes.new.marks c.step.new.self 2 (g.C.Counter.total c.args.counter.now)
    (g.C.Counter.total c.count.new.self)
last g c =
    let at : c.walk.inside.at ≡ c.walk_bytes.new.walk.at = ap (λ (w : WalkValue). w.at) c.walk.view_is in
    let end : c.walk_bytes.new.walk.at ≡ length c.args.text.now.bytes
    = omega (arith, at, c.if-walk-len.false, c.len.ensures.value, c.walk_bytes.ensures.within) in
    walked_more c.args.text.now c.new-walk.result c.args.marks.now (rw c.new-walk.ensures.value c.requires.walkable)
    (g.C.Counter.total c.args.counter.now) c.walk_bytes.new.marks c.walk_bytes.new.walk 1 _
    c.walk_bytes.ensures.walked c.ahead.result c.step.new.self c.step.result c.step.ensures
    (g.C.Counter.total c.count.new.self)
    (unit-last c.args.text.now c.walk_bytes.new.walk.at end ∙ ap Some (sym c.ahead.ensures)) c.len.ensures.units
    c.walk_bytes.ensures.within c.count.ensures.most

none : (g : Over) (c : After-step g) → following c.new-walk.result.dfa.table c.args.text.now c.step.new.self.at
    c.step.new.self.row ≡ None
none g c =
    let at : c.walk.inside.at ≡ c.walk_bytes.new.walk.at = ap (λ (w : WalkValue). w.at) c.walk.view_is in
    none_past c.args.text.now c.new-walk.result c.args.marks.now (rw c.new-walk.ensures.value c.requires.walkable)
    (g.C.Counter.total c.args.counter.now) c.walk_bytes.new.marks c.step.new.self 2 _
    (last g c) (omega (arith, at, c.if-walk-len.false, c.len.ensures.value, c.step.ensures.at))

pub returns-then-walk-len-clause-counted : goal.returns-then-walk-len-clause-counted
returns-then-walk-len-clause-counted g c = λ k.
    let at : c.walk.inside.at ≡ c.walk_bytes.new.walk.at = ap (λ (w : WalkValue). w.at) c.walk.view_is in
    let start : c.new-walk.result.at ≡ c.args.from = ap (λ (w : WalkValue). w.at) c.new-walk.ensures.value in
    let walked = c.walk_bytes.ensures.walked in
    let more = c.walk_bytes.ensures.more (omega (arith, at, c.if-walk-len.true, c.len.ensures.value, walked.passed)) in
    rw c.found.ensures (omega (
      arith,
      start,
      c.walk_bytes.ensures.counted k,
      ends_before c.args.from c.walk_bytes.new.walk.at c.walk_bytes.new.walk.found (rw start at more)
          (rw start at walked.followed.order) (rw start at walked.passed),
    ))

pub returns-clause-found : goal.returns-clause-found
returns-clause-found g c =
    let s = (goal.at.returns-clause-found g c).After-step in
    let l = (goal.at.returns-clause-found g c).After-len in
    last_found g l c.found-2.result
    (c.found-2.ensures ∙ walked_all c.args.text.now c.new-walk.result c.args.marks.now (can g l)
    (g.C.Counter.total c.args.counter.now) c.walk_bytes.new.marks c.step.new.self 2 _
    (last g s) (none g s))

pub returns-clause-walked : goal.returns-clause-walked
returns-clause-walked g c =
    let s = (goal.at.returns-clause-walked g c).After-step in
    let l = (goal.at.returns-clause-walked g c).After-len in
    rw c.found-2.ensures (rw c.new-walk.ensures.value at
    (has_walked c.args.text.now c.new-walk.result c.args.marks.now (can g l)
    (g.C.Counter.total c.args.counter.now) c.walk_bytes.new.marks c.step.new.self 2 _
    (last g s) (none g s) (omega arith)))

pub returns-clause-counted : goal.returns-clause-counted
returns-clause-counted g c = λ k.
    let s = (goal.at.returns-clause-counted g c).After-step in
    let at : c.walk.inside.at ≡ c.walk_bytes.new.walk.at = ap (λ (w : WalkValue). w.at) c.walk.view_is in
    let start : c.new-walk.result.at ≡ c.args.from = ap (λ (w : WalkValue). w.at) c.new-walk.ensures.value in
    let more : c.args.from < c.step.new.self.at
    = omega (arith, at, c.if-walk-len.false, c.len.ensures.value, c.step.ensures.at, c.requires.within) in
    rw c.found-2.ensures (omega (
      arith,
      start,
      c.step.ensures.at,
      c.count.ensures.counted k,
      c.walk_bytes.ensures.counted k,
      ends_before c.args.from c.step.new.self.at c.step.new.self.found more
          (rw start at (last g s).followed.order) (rw start at (last g s).passed),
    ))
