use Rattle.std.specs.Option.{is_some}
use Rattle.std.proofs.Common.{rules, ◌≡◌, ◌+◌, ◌<◌, ◌∙◌, ◌++◌, ◌∷◌, ℕ, Bool, List, Some, [], ap, arith, false, length}
use Rattle.std.proofs.Common.{refl, reverse, slice_get, subst, sym, true}
use Rattle.std.proofs.lemmas.List.{length-append, length-reverse}
use Rattle.std.proofs.lemmas.Option.{get_or_from_slice_get}
use Rattle.determinize_below.specs.Edges.{is_match, is_match_node, pattern_in}
use Rattle.determinize_below.specs.Node.{node_of}
use Rattle.determinize_below.specs.Semantics.{Fail, Match, Node, choices, state_at}
use Rattle.determinize_below.specs.declared.search.HalfMatch.{HalfMatch}
use Rattle.determinize_find.specs.Private.BestAt.{IsBestAt, from_index}
use Rattle.determinize_linear.specs.Private.Left.{left, most_choices}
use Rattle.determinize_linear.specs.Private.Paid.{IsPaid}
use Rattle.determinize_linear.specs.Private.Marks.{is_marked, with_mark, without_marks}
use Rattle.determinize_linear.specs.Private.Spent.{HasPlaces, IsSpent}
use Rattle.determinize_linear.proofs.search.Counted.{counted_entered, counted_here, counted_none, counted_skipped}
use Rattle.determinize_linear.proofs.search.Counted.{counted_start}
use Rattle.determinize_linear.proofs.search.Left.{left_marked, paid_match}
use Rattle.determinize_linear.proofs.search.Marks.{places_with, places_without, with_mark-marked}
use Rattle.determinize_linear.proofs.search.Matches.{best_match, best_nothing}
use Rattle.determinize_linear.proofs.search.Pending.{run_steps}
use Rattle.determinize_linear.proofs.search.UnderWay.{IsTop, IsUnderWay, begun, ended, entered, fewer_held, fewer_new}
use Rattle.determinize_linear.proofs.search.UnderWay.{on_top, pushed, skipped, spent_after, stopped}
use Rattle.determinize_linear.proofs.linear.search_from.Goals as goal

pub loop-at-init : goal.loop-at-init
loop-at-init g c =
    let items : c.push.new.self.items ≡ (c.args.from, c.args.nfa.now.start_anchored) ∷ [] = c.in_ok-push.ensures.items
    ∙ ap (λ (l : List (ℕ × ℕ)). l ++ (c.args.from, c.start_anchored.result) ∷ []) c.clear.ensures.items
    ∙ ap (λ (s : ℕ). (c.args.from, s) ∷ []) c.start_anchored.ensures.value in
    let start : c.args.nfa.now.start_anchored < length c.args.nfa.now.states
    = omega (arith, c.start_anchored.ensures.value, c.start_anchored.ensures.resolves) in
    record {
      way = subst
          (λ (l : List (ℕ × ℕ)). IsUnderWay c.args.nfa.now c.args.text.now c.args.from c.args.visited.now (reverse l))
          (sym items) (begun c.args.nfa.now c.requires.accepted c.args.text.now c.args.from c.args.visited.now
          c.requires.within start c.requires.spent);
      places = c.requires.places;
      paid = omega (arith, ap (λ (l : List (ℕ × ℕ)). length l) items);
      counted = λ k. rw items
          (counted_start (g.C.Counter.total c.args.counter.now) c.args.from c.args.nfa.now.start_anchored);
    }

pub returns-in-Match-clause-best : goal.returns-in-Match-clause-best
returns-in-Match-clause-best g c =
    let t : IsTop c.args.nfa.now c.args.text.now c.args.from c.loop-at.visited (reverse c.loop-at.stack.items)
    (c.in-Some.at, c.in-Some.id) (reverse c.pop.new.self.items)
    = on_top c.args.nfa.now c.args.text.now c.args.from c.loop-at.visited c.loop-at.stack.items c.pop.new.self.items
    (c.in-Some.at, c.in-Some.id) c.in-Some.ensures.items c.loop-at.invariant.way c.loop-at.invariant.places in
    let here : slice_get c.args.nfa.now.states c.in-Some.id ≡ Some (node_of c.state.result.now) = search rules in
    let node : state_at c.args.nfa.now c.in-Some.id ≡ Match c.in-Match.pattern_id
    = get_or_from_slice_get c.args.nfa.now.states c.in-Some.id (Match c.in-Match.pattern_id) Fail
    (rw c.in-Match.is at here) in
    subst (λ (h : HalfMatch). IsBestAt c.args.nfa.now c.args.text.now c.args.from (Some (from_index c.args.from h)))
    (sym c.new.ensures)
    (best_match c.args.nfa.now c.requires.accepted c.args.text.now c.args.from (c.in-Some.at, c.in-Some.id)
    c.in-Match.pattern_id (stopped c.args.nfa.now c.requires.accepted c.args.text.now c.args.from c.loop-at.visited
    (c.in-Some.at, c.in-Some.id) (reverse c.pop.new.self.items) t.way
    (ap (λ n. is_some (pattern_in n)) node)) node)

pub returns-in-Match-clause-places : goal.returns-in-Match-clause-places
returns-in-Match-clause-places g c =
    let t : IsTop c.args.nfa.now c.args.text.now c.args.from c.loop-at.visited (reverse c.loop-at.stack.items)
    (c.in-Some.at, c.in-Some.id) (reverse c.pop.new.self.items)
    = on_top c.args.nfa.now c.args.text.now c.args.from c.loop-at.visited c.loop-at.stack.items c.pop.new.self.items
    (c.in-Some.at, c.in-Some.id) c.in-Some.ensures.items c.loop-at.invariant.way c.loop-at.invariant.places in
    subst (λ (rows : List (List Bool)). HasPlaces c.args.nfa.now c.args.text.now rows) (sym c.clear-in-Match.ensures)
    (places_without c.args.nfa.now c.args.text.now c.loop-at.visited c.in-Some.at t.row c.loop-at.invariant.places)

pub returns-in-Match-clause-spent : goal.returns-in-Match-clause-spent
returns-in-Match-clause-spent g c =
    let t : IsTop c.args.nfa.now c.args.text.now c.args.from c.loop-at.visited (reverse c.loop-at.stack.items)
    (c.in-Some.at, c.in-Some.id) (reverse c.pop.new.self.items)
    = on_top c.args.nfa.now c.args.text.now c.args.from c.loop-at.visited c.loop-at.stack.items c.pop.new.self.items
    (c.in-Some.at, c.in-Some.id) c.in-Some.ensures.items c.loop-at.invariant.way c.loop-at.invariant.places in
    subst (λ (rows : List (List Bool)). IsSpent c.args.nfa.now c.args.text.now c.new.result.offset rows)
    (sym c.clear-in-Match.ensures)
    (subst (λ (k : ℕ). IsSpent c.args.nfa.now c.args.text.now k (without_marks c.loop-at.visited c.in-Some.at))
    (sym (ap (λ (h : HalfMatch). h.offset) c.new.ensures))
    (spent_after c.args.nfa.now c.requires.accepted c.args.text.now c.args.from c.loop-at.visited
    (c.in-Some.at, c.in-Some.id) (reverse c.pop.new.self.items) t.way t.row))

pub returns-in-Match-clause-paid : goal.returns-in-Match-clause-paid
returns-in-Match-clause-paid g c =
    let t : IsTop c.args.nfa.now c.args.text.now c.args.from c.loop-at.visited (reverse c.loop-at.stack.items)
    (c.in-Some.at, c.in-Some.id) (reverse c.pop.new.self.items)
    = on_top c.args.nfa.now c.args.text.now c.args.from c.loop-at.visited c.loop-at.stack.items c.pop.new.self.items
    (c.in-Some.at, c.in-Some.id) c.in-Some.ensures.items c.loop-at.invariant.way c.loop-at.invariant.places in
    let popped : length c.loop-at.stack.items ≡ length c.pop.new.self.items + 1
    = ap (λ (l : List (ℕ × ℕ)). length l) c.in-Some.ensures.items
    ∙ length-append c.pop.new.self.items ((c.in-Some.at, c.in-Some.id) ∷ []) in
    subst (λ (e : ℕ). IsPaid (λ k. left c.args.nfa.now c.args.text.now k c.clear-in-Match.new.self)
    (most_choices c.args.nfa.now) (left c.args.nfa.now c.args.text.now c.args.from c.args.visited.now) c.args.from e 1
    (g.C.Counter.total c.args.counter.now) (g.C.Counter.total c.count.new.self))
    (sym (ap (λ (h : HalfMatch). h.offset) c.new.ensures))
    (paid_match c.args.nfa.now c.args.text.now c.args.from c.in-Some.at c.args.visited.now c.loop-at.visited
    c.clear-in-Match.new.self (g.C.Counter.total c.loop-at.counter) (length c.loop-at.stack.items)
    (g.C.Counter.total c.args.counter.now) (g.C.Counter.total c.count.new.self) c.clear-in-Match.ensures t.row
    t.way.falls.0 (omega arith) c.count.ensures.most c.loop-at.invariant.paid)

pub returns-in-Match-clause-counted : goal.returns-in-Match-clause-counted
returns-in-Match-clause-counted g c = λ k.
    let t : IsTop c.args.nfa.now c.args.text.now c.args.from c.loop-at.visited (reverse c.loop-at.stack.items)
    (c.in-Some.at, c.in-Some.id) (reverse c.pop.new.self.items)
    = on_top c.args.nfa.now c.args.text.now c.args.from c.loop-at.visited c.loop-at.stack.items c.pop.new.self.items
    (c.in-Some.at, c.in-Some.id) c.in-Some.ensures.items c.loop-at.invariant.way c.loop-at.invariant.places in
    omega (
      arith,
      c.count.ensures.counted k,
      ap (λ (h : HalfMatch). h.offset) c.new.ensures,
      counted_here _ _ _ (c.in-Some.at, c.in-Some.id) (reverse c.pop.new.self.items)
          (rw t.top at (c.loop-at.invariant.counted k)),
    )

pub loop-at-smaller-in-Continue-branch-2 : goal.loop-at-smaller-in-Continue-branch-2
loop-at-smaller-in-Continue-branch-2 g c =
    let t : IsTop c.args.nfa.now c.args.text.now c.args.from c.loop-at.visited (reverse c.loop-at.stack.items)
    (c.in-Some.at, c.in-Some.id) (reverse c.pop.new.self.items)
    = on_top c.args.nfa.now c.args.text.now c.args.from c.loop-at.visited c.loop-at.stack.items c.pop.new.self.items
    (c.in-Some.at, c.in-Some.id) c.in-Some.ensures.items c.loop-at.invariant.way c.loop-at.invariant.places in
    let new : is_marked c.loop-at.visited (c.in-Some.at, c.in-Some.id) ≡ false = search rules in
    let more : c.insert.new.self ≡ with_mark c.loop-at.visited c.in-Some.at c.in-Some.id = search rules in
    let items : c.push_choices.new.stack.items
    ≡ c.pop.new.self.items ++ reverse (choices c.args.nfa.now c.args.text.now (c.in-Some.at, c.in-Some.id))
    = search rules in
    let after : reverse c.push_choices.new.stack.items
    ≡ run_steps c.args.nfa.now c.args.text.now (c.in-Some.at, c.in-Some.id) ++ reverse c.pop.new.self.items
    = pushed c.pop.new.self.items c.push_choices.new.stack.items
    (choices c.args.nfa.now c.args.text.now (c.in-Some.at, c.in-Some.id)) items in
    fewer_new c.args.nfa.now c.requires.accepted c.args.text.now c.loop-at.visited c.insert.new.self
    (c.in-Some.at, c.in-Some.id) (reverse c.loop-at.stack.items) (reverse c.pop.new.self.items)
    (reverse c.push_choices.new.stack.items) t.top t.row t.mark more after new

pub loop-at-preserved-in-Continue-branch-2 : goal.loop-at-preserved-in-Continue-branch-2
loop-at-preserved-in-Continue-branch-2 g c =
    let t : IsTop c.args.nfa.now c.args.text.now c.args.from c.loop-at.visited (reverse c.loop-at.stack.items)
    (c.in-Some.at, c.in-Some.id) (reverse c.pop.new.self.items)
    = on_top c.args.nfa.now c.args.text.now c.args.from c.loop-at.visited c.loop-at.stack.items c.pop.new.self.items
    (c.in-Some.at, c.in-Some.id) c.in-Some.ensures.items c.loop-at.invariant.way c.loop-at.invariant.places in
    let here : slice_get c.args.nfa.now.states c.in-Some.id ≡ Some (node_of c.state.result.now) = search rules in
    let kind : is_match_node (node_of c.state.result.now) ≡ false = search rules in
    let plain : is_match c.args.nfa.now c.in-Some.id ≡ false = ap (λ (n : Node). is_match_node n)
    (get_or_from_slice_get c.args.nfa.now.states c.in-Some.id (node_of c.state.result.now) Fail here) ∙ kind in
    let new : is_marked c.loop-at.visited (c.in-Some.at, c.in-Some.id) ≡ false = search rules in
    let more : c.insert.new.self ≡ with_mark c.loop-at.visited c.in-Some.at c.in-Some.id = search rules in
    let items : c.push_choices.new.stack.items
    ≡ c.pop.new.self.items ++ reverse (choices c.args.nfa.now c.args.text.now (c.in-Some.at, c.in-Some.id))
    = search rules in
    let after : reverse c.push_choices.new.stack.items
    ≡ run_steps c.args.nfa.now c.args.text.now (c.in-Some.at, c.in-Some.id) ++ reverse c.pop.new.self.items
    = pushed c.pop.new.self.items c.push_choices.new.stack.items
    (choices c.args.nfa.now c.args.text.now (c.in-Some.at, c.in-Some.id)) items in
    record {
      way = subst (λ (l : List (ℕ × ℕ)). IsUnderWay c.args.nfa.now c.args.text.now c.args.from c.insert.new.self l)
          (sym after)
          (subst (λ (rows : List (List Bool)). IsUnderWay c.args.nfa.now c.args.text.now c.args.from rows
          (run_steps c.args.nfa.now c.args.text.now (c.in-Some.at, c.in-Some.id) ++ reverse c.pop.new.self.items))
          (sym more)
          (entered c.args.nfa.now c.requires.accepted c.args.text.now c.args.from c.loop-at.visited
          (c.in-Some.at, c.in-Some.id) (reverse c.pop.new.self.items) t.way t.row t.mark new plain));
      places = subst (λ (rows : List (List Bool)). HasPlaces c.args.nfa.now c.args.text.now rows) (sym more)
          (places_with c.args.nfa.now c.args.text.now c.loop-at.visited c.in-Some.at c.in-Some.id t.row
          c.loop-at.invariant.places);
      paid =
          let pushed : length c.push_choices.new.stack.items ≡ length c.pop.new.self.items
          + length (choices c.args.nfa.now c.args.text.now (c.in-Some.at, c.in-Some.id))
          = ap (λ (l : List (ℕ × ℕ)). length l) items ∙ length-append c.pop.new.self.items _
          ∙ ap (λ (n : ℕ). length c.pop.new.self.items + n)
          (length-reverse (choices c.args.nfa.now c.args.text.now (c.in-Some.at, c.in-Some.id))) in
          let popped : length c.loop-at.stack.items ≡ length c.pop.new.self.items + 1
          = ap (λ (l : List (ℕ × ℕ)). length l) c.in-Some.ensures.items
          ∙ length-append c.pop.new.self.items ((c.in-Some.at, c.in-Some.id) ∷ []) in
          omega (
            arith,
            c.count.ensures.most,
            c.loop-at.invariant.paid,
            pushed,
            popped,
            left_marked c.args.nfa.now c.args.text.now c.args.from c.loop-at.visited (c.in-Some.at, c.in-Some.id)
                t.way.falls.0 t.way.falls.1 t.way.falls.2 t.row t.mark new,
            ap (λ (rows : List (List Bool)). left c.args.nfa.now c.args.text.now c.args.from rows) more,
          );
      counted = λ k. rw (c.count.ensures.counted k, after) (counted_entered _ _ _ (c.in-Some.at, c.in-Some.id)
          (reverse c.pop.new.self.items) (rw t.top at (c.loop-at.invariant.counted k)) c.args.nfa.now c.args.text.now);
    }

pub loop-at-smaller : goal.loop-at-smaller
loop-at-smaller g c =
    let t : IsTop c.args.nfa.now c.args.text.now c.args.from c.loop-at.visited (reverse c.loop-at.stack.items)
    (c.in-Some.at, c.in-Some.id) (reverse c.pop.new.self.items)
    = on_top c.args.nfa.now c.args.text.now c.args.from c.loop-at.visited c.loop-at.stack.items c.pop.new.self.items
    (c.in-Some.at, c.in-Some.id) c.in-Some.ensures.items c.loop-at.invariant.way c.loop-at.invariant.places in
    let old : is_marked c.loop-at.visited (c.in-Some.at, c.in-Some.id) ≡ true = search rules in
    let same : c.insert.new.self ≡ with_mark c.loop-at.visited c.in-Some.at c.in-Some.id = search rules in
    let more : c.insert.new.self ≡ c.loop-at.visited
    = same ∙ with_mark-marked c.loop-at.visited c.in-Some.at c.in-Some.id old in
    fewer_held c.args.nfa.now c.requires.accepted c.args.text.now c.loop-at.visited c.insert.new.self
    (c.in-Some.at, c.in-Some.id) (reverse c.loop-at.stack.items) (reverse c.pop.new.self.items)
    (reverse c.pop.new.self.items) t.top more refl old

pub loop-at-preserved : goal.loop-at-preserved
loop-at-preserved g c =
    let t : IsTop c.args.nfa.now c.args.text.now c.args.from c.loop-at.visited (reverse c.loop-at.stack.items)
    (c.in-Some.at, c.in-Some.id) (reverse c.pop.new.self.items)
    = on_top c.args.nfa.now c.args.text.now c.args.from c.loop-at.visited c.loop-at.stack.items c.pop.new.self.items
    (c.in-Some.at, c.in-Some.id) c.in-Some.ensures.items c.loop-at.invariant.way c.loop-at.invariant.places in
    let old : is_marked c.loop-at.visited (c.in-Some.at, c.in-Some.id) ≡ true = search rules in
    let same : c.insert.new.self ≡ with_mark c.loop-at.visited c.in-Some.at c.in-Some.id = search rules in
    let more : c.insert.new.self ≡ c.loop-at.visited
    = same ∙ with_mark-marked c.loop-at.visited c.in-Some.at c.in-Some.id old in
    record {
      way = subst (λ (rows : List (List Bool)). IsUnderWay c.args.nfa.now c.args.text.now c.args.from rows
          (reverse c.pop.new.self.items)) (sym more)
          (skipped c.args.nfa.now c.requires.accepted c.args.text.now c.args.from c.loop-at.visited
          (c.in-Some.at, c.in-Some.id) (reverse c.pop.new.self.items) t.way old);
      places = subst (λ (rows : List (List Bool)). HasPlaces c.args.nfa.now c.args.text.now rows) (sym more)
          c.loop-at.invariant.places;
      paid =
          let popped : length c.loop-at.stack.items ≡ length c.pop.new.self.items + 1
          = ap (λ (l : List (ℕ × ℕ)). length l) c.in-Some.ensures.items
          ∙ length-append c.pop.new.self.items ((c.in-Some.at, c.in-Some.id) ∷ []) in
          omega (
            arith,
            c.count.ensures.most,
            c.loop-at.invariant.paid,
            popped,
            ap (λ (rows : List (List Bool)). left c.args.nfa.now c.args.text.now c.args.from rows) more,
          );
      counted = λ k. rw (c.count.ensures.counted k) (counted_skipped _ _ _ (c.in-Some.at, c.in-Some.id)
          (reverse c.pop.new.self.items) (rw t.top at (c.loop-at.invariant.counted k)));
    }

pub returns-clause-best : goal.returns-clause-best
returns-clause-best g c =
    let none : reverse c.loop-at.stack.items ≡ [] = search rules in
    let way : IsUnderWay c.args.nfa.now c.args.text.now c.args.from c.loop-at.visited []
    = subst (λ (l : List (ℕ × ℕ)). IsUnderWay c.args.nfa.now c.args.text.now c.args.from c.loop-at.visited l) none
    c.loop-at.invariant.way in
    best_nothing c.args.nfa.now c.requires.accepted c.args.text.now c.args.from
    (ended c.args.nfa.now c.requires.accepted c.args.text.now c.args.from c.loop-at.visited way).0

pub returns-clause-spent : goal.returns-clause-spent
returns-clause-spent g c =
    let none : reverse c.loop-at.stack.items ≡ [] = search rules in
    let way : IsUnderWay c.args.nfa.now c.args.text.now c.args.from c.loop-at.visited []
    = subst (λ (l : List (ℕ × ℕ)). IsUnderWay c.args.nfa.now c.args.text.now c.args.from c.loop-at.visited l) none
    c.loop-at.invariant.way in
    (ended c.args.nfa.now c.requires.accepted c.args.text.now c.args.from c.loop-at.visited way).1

pub returns-clause-counted : goal.returns-clause-counted
returns-clause-counted g c = λ k.
    let none : reverse c.loop-at.stack.items ≡ [] = search rules in
    counted_none _ _ c.args.from (rw none at (c.loop-at.invariant.counted k))
