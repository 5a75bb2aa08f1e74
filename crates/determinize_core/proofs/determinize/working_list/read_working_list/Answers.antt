use Rattle.determinize_core.proofs.Common.{[], ap, arith, byte_of, Members, refl, ℕ, ◌≡◌}
use Rattle.std.proofs.lemmas.Result.{on_ok_weaker}
use Rattle.determinize_core.proofs.step.ReopenedClosure.{closed_list, closed_tries, reopened_list, reopened_tries}
use Rattle.determinize_core.proofs.determinize.working_list.read_working_list.Goals as goal

-- a cleared set has no ids
cleared : {set : Members} {n : ℕ} → set ≡ record { ids = []; capacity = n } → set.ids ≡ []
cleared e = ap (λ (m : Members). m.ids) e

pub returns-clause-ok : goal.returns-clause-ok
returns-clause-ok g c =
    rw (
      ← reopened_list c.in-Some.ensures.some (cleared c.clear-2.ensures) refl,
      ← c.in_ok-reopen.ensures.list,
      ← c.iter-ids.ensures.ids,
    ) c.read_states-2.ensures.ok

pub returns-in_err-reopen-clause-bounded : goal.returns-in_err-reopen-clause-bounded
returns-in_err-reopen-clause-bounded g c = λ h.
    rw (reopened_tries c.in-Some.ensures.some (cleared c.clear-2.ensures) refl) at (c.reopen.ensures.bounded h)

pub returns-clause-counted : goal.returns-clause-counted
returns-clause-counted g c = λ h.
    on_ok_weaker c.read_states-2.result
    (λ read. rw (reopened_tries c.in-Some.ensures.some (cleared c.clear-2.ensures) refl)
    at (c.in_ok-reopen.ensures.counted h))
    c.read_states-2.ensures.ok

pub returns-clause-bounded : goal.returns-clause-bounded
returns-clause-bounded g c = λ h.
    rw (reopened_tries c.in-Some.ensures.some (cleared c.clear-2.ensures) refl) at (c.reopen.ensures.bounded h)

pub read_states-requires : goal.read_states-requires
read_states-requires g c = record {
  number = c.requires.number;
  can = tt;
  ends = tt;
  accepted = c.reopened_under.ensures.accepted;
  resolve = rw c.iter_nfa_state_ids-ids.ensures c.requires.resolve;
  empty = cleared c.clear.ensures;
  capacity = rw c.clear.ensures c.requires.scratch.first_room;
  stack = c.requires.scratch.empty;
  unread = c.requires.unread;
  unrecorded = c.requires.unrecorded;
}

pub returns-in_default-clause-ok : goal.returns-in_default-clause-ok
returns-in_default-clause-ok g c =
    rw (
      closed_list c.args.nfa.now c.args.state.now (byte_of c.args.unit) c.in_default.ensures.none,
      ← c.iter_nfa_state_ids-ids.ensures,
    ) c.read_states.ensures.ok

pub returns-in_default-clause-counted : goal.returns-in_default-clause-counted
returns-in_default-clause-counted g c = λ h.
    on_ok_weaker c.read_states.result
    (λ read. omega (
      arith,
      closed_tries c.args.nfa.now c.args.state.now (byte_of c.args.unit) c.in_default.ensures.none,
    ))
    c.read_states.ensures.ok

pub returns-in_default-clause-bounded : goal.returns-in_default-clause-bounded
returns-in_default-clause-bounded g c = λ h. omega arith
