use Rattle.determinize_dense.proofs.Common.{dfa_value, map, rules, same_from_all_zip, ◌≡◌}
use Rattle.determinize_dense.proofs.Lists.{map-copied}
use Rattle.determinize_dense.proofs.dfa.Dfa+ref+NFA+N+A.to_rows.Goals.{In_ok-clone-2}
use Rattle.determinize_dense.proofs.dfa.Dfa+ref+NFA+N+A.to_rows.Goals as goal

-- the copy is seen as the DFA
copied : (g : _) (c : In_ok-clone-2 g) → dfa_value c.self.inside.nfa.now c.self.inside.match_kind
    c.in_ok-clone.field-0 c.in_ok-entries.field-0.items c.self.inside.starts
    (map (λ list. list.items) c.in_ok-clone-2.field-0.items) ≡ c.args.self.now
copied g c =
    let classes : c.in_ok-clone.field-0 ≡ c.self.inside.classes = search rules in
    let entries = rw (← c.self.view_is) at c.in_ok-entries.ensures in
    let lists = map-copied (λ list. list.items) _
    (λ x y copy. same_from_all_zip _ x.items y.items copy.0 (λ a b e. e)) c.self.inside.patterns.items
    c.in_ok-clone-2.field-0.items c.in_ok-clone-2.ensures.cases.0 in
    rw (classes, entries, lists) c.self.view_is

pub invariant_of-result : goal.invariant_of-result
invariant_of-result g c = rw (copied g (goal.at.invariant_of-result g c).In_ok-clone-2)
    (rw c.self.view_is at c.self.invariant.stored.dfa)

pub returns : goal.returns
returns g c = copied g (goal.at.returns g c).In_ok-clone-2
