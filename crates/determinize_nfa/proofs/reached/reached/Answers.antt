use Rattle.determinize_nfa.proofs.Common.{List, None, Some, [], ap, arith, each_passes, get_or, length, node_of, refl}
use Rattle.determinize_nfa.proofs.Common.{rules, slice_get, slice_get-get_or, sym, ℕ, ◌<◌, ◌∙◌, ◌≡◌}
use Rattle.std.proofs.lemmas.Option.{slice_get_past}
use Rattle.determinize_below.specs.Members.{Members}
use Rattle.determinize_nfa.proofs.reversing.FoundStates.{found_all, found_index, found_more, found_start}
use Rattle.determinize_nfa.specs.Private.Closed.{visited}
use Rattle.determinize_nfa.proofs.reached.reached.Goals as goal

-- the state with an index
read : {xs ids : List ℕ} {i x : ℕ} → xs ≡ ids → x ≡ get_or xs i x → i < length ids → slice_get ids i ≡ Some x
read {ids = ids} {i = i} {x = x} e is l = slice_get-get_or ids i x l ∙ ap Some (sym (rw e at is))

pub loop-index-init : goal.loop-index-init
loop-index-init g c =
    let below : c.args.nfa.now.start_anchored < length c.args.nfa.now.states = search rules in
    let start : ◌≡◌ {A = Members} c.insert.new.self
    record { ids = visited [] c.args.nfa.now.start_anchored; capacity = length c.args.nfa.now.states }
    = rw (
      c.insert.ensures.after,
      c.insert.ensures.new,
      c.in_ok-found.ensures,
      c.len.ensures.count,
      c.start_anchored.ensures.value,
    ) refl in
    record { capacity = rw start refl; found = rw start (found_start c.args.nfa.now below) }

pub state-requires : goal.state-requires
state-requires g c =
    let is = read c.as_slice.ensures.ids c.index-as_slice-index.is
    (omega (arith, c.loop-index-test.true, c.len-in-loop-index.ensures)) in
    (found_index c.args.nfa.now _ _ _ c.loop-index.invariant.found is).1

pub visit_targets-requires : goal.visit_targets-requires
visit_targets-requires g c =
    let passed = each_passes c.args.nfa.now c.state.ensures.accepted c.index-as_slice-index.result
    (node_of c.state.result.now) c.state.ensures.state in
    record { resolves = rw c.loop-index.invariant.capacity passed.resolves; whole = passed.whole }

pub overflow_add-index : goal.overflow_add-index
overflow_add-index g c =
    let is = read c.as_slice.ensures.ids c.index-as_slice-index.is
    (omega (arith, c.loop-index-test.true, c.len-in-loop-index.ensures)) in
    let low = found_index c.args.nfa.now _ _ _ c.loop-index.invariant.found is in
    omega (arith, low.0, c.len.ensures.limit, c.len.ensures.count)

pub loop-index-smaller : goal.loop-index-smaller
loop-index-smaller g c =
    let is = read c.as_slice.ensures.ids c.index-as_slice-index.is
    (omega (arith, c.loop-index-test.true, c.len-in-loop-index.ensures)) in
    let low = found_index c.args.nfa.now _ _ _ c.loop-index.invariant.found is in
    omega (arith, low.0)

pub loop-index-preserved : goal.loop-index-preserved
loop-index-preserved g c =
    let is = read c.as_slice.ensures.ids c.index-as_slice-index.is
    (omega (arith, c.loop-index-test.true, c.len-in-loop-index.ensures)) in
    record {
      capacity = ap (λ (m : Members). m.capacity) c.visit_targets.ensures ∙ c.loop-index.invariant.capacity;
      found = rw c.visit_targets.ensures
          (found_more c.args.nfa.now c.state.ensures.accepted _ _ _ (node_of c.state.result.now)
          c.loop-index.invariant.found is c.state.ensures.state);
    }

pub returns-clause-closed : goal.returns-clause-closed
returns-clause-closed g c =
    let none : slice_get c.loop-index.found.ids c.loop-index.index ≡ None
    = slice_get_past c.loop-index.found.ids c.loop-index.index
    (omega (arith, c.loop-index-test.false, c.len-in-loop-index.ensures)) in
    found_all c.args.nfa.now c.loop-index.found.ids c.loop-index.index c.loop-index.invariant.found none
