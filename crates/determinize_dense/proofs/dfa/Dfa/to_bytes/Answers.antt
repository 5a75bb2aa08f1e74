use Rattle.determinize_dense.proofs.Common.{arith, refl}
use Rattle.determinize_dense.proofs.Writing.{whole_of, written}
use Rattle.determinize_dense.proofs.dfa.Dfa.to_bytes.Goals as goal

pub push_rows-requires : goal.push_rows-requires
push_rows-requires g c = omega (arith, c.alphabet_len-columns.ensures.count)

pub returns-clause-file : goal.returns-clause-file
returns-clause-file g c = rw (← c.self.view_is) (rw (c.head.ensures.head, ← c.self.view_is)
    at (written c.head.result _ _ _ _ _ (rw c.new-bytes.ensures.items at c.in_ok-push_words.ensures)
    c.in_ok-push_classes.ensures c.in_ok-push_words-2.ensures
    (rw (c.as_slice.ensures.value, c.alphabet_len-columns.ensures.count) at c.in_ok-push_rows.ensures)
    (rw c.as_slice-2.ensures.value at c.in_ok-push_ends.ensures.ends)
    (rw c.as_slice-3.ensures.value at c.in_ok-push_lists.ensures.lists)))

pub returns-clause-whole : goal.returns-clause-whole
returns-clause-whole g c =
    rw (← c.self.view_is) (whole_of _ c.self.inside.classes c.self.invariant.stored.dfa
    c.alphabet_len-columns.ensures.sound refl refl (rw (← c.self.view_is) at c.head.ensures.terminator)
    (rw c.as_slice-2.ensures.value at c.in_ok-push_ends.ensures.few)
    (rw c.as_slice-3.ensures.value at c.in_ok-push_lists.ensures.ids))

pub returns-clause-means : goal.returns-clause-means
returns-clause-means g c = rw (← c.self.view_is) c.self.invariant.stored.dfa.tells

pub returns-clause-accepted : goal.returns-clause-accepted
returns-clause-accepted g c = rw (← c.self.view_is) c.self.invariant.stored.dfa.accepted
