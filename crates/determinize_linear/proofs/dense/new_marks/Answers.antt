use Rattle.std.proofs.Common.{◌≡◌, ◌*◌, ◌+◌, ◌≤◌, ◌∙◌, ◌&&◌, ℕ, Bool, Err, IfOk, None, Ok, Result, ap, arith, length, sym}
use Rattle.std.proofs.Common.{true}
use Rattle.std.specs.Prelude.{All, nat_lt}
use Rattle.std.proofs.lemmas.Bool.{true≢false}
use Rattle.std.proofs.lemmas.Result.{IfOk-weaker}
use Rattle.ordered_reach.proofs.Cases.{by_test}
use Rattle.determinize_below.specs.Private.Sparse.{has_bit}
use Rattle.determinize_below.specs.Semantics.{Text}
use Rattle.determinize_below.specs.Truth.{IsUnit}
use Rattle.determinize_core.specs.Chain.{units}
use Rattle.determinize_dense.specs.Automaton.{HasRowsIn}
use Rattle.determinize_dense.specs.Bytes.{Stored}
use Rattle.determinize_dense.specs.Reading.{IsDead}
use Rattle.determinize_linear.specs.Private.Following.{IsWalkable}
use Rattle.determinize_linear.specs.Private.RowMarks.{RowMarks, bit_of, is_set}
use Rattle.determinize_linear.proofs.walks.Followed.{following-dead}
use Rattle.determinize_linear.proofs.walks.Unset.{first_row, unset_most}
use Rattle.determinize_linear.proofs.dense.new_marks.Goals as goal

-- with the marks of row 0, if it is dead, a walk may begin anywhere
dead_set : (dfa : Stored) (text : Text) (positions columns : ℕ) (is_dead : Bool) {E : Type 0} (made : Result RowMarks E)
    → HasRowsIn dfa → (is_dead ≡ true → IsDead dfa.table 0) → All IsUnit (units text)
    → positions ≡ length text.bytes + 1 → columns ≡ dfa.table.class_count + 1
    → IfOk made (λ m. positions ≤ 64 * (columns * m.span))
    → IfOk made (λ m. length m.words ≡ length dfa.table.patterns * (columns * m.span))
    → IfOk made (λ m. (i : ℕ) → has_bit m.words i ≡ (is_dead && nat_lt i (64 * (columns * m.span))))
    → IfOk made (λ m. (k : ℕ) → IsWalkable dfa m text k)
dead_set dfa text positions columns is_dead (Err e) rows dead are n c room words first = tt
dead_set dfa text positions columns is_dead (Ok m) rows dead are n c room words first = λ k. record {
  rows = rows;
  bits = record { room = rw (n, c) at room; words = rw c at words };
  none = λ at row l p b e. by_test is_dead
      (λ t. let z : row ≡ 0 = first_row dfa.table m (rw (t, c) at first) at row e in
      rw z (following-dead dfa.table text at 0 are (dead t)))
      (λ f. absurd (true≢false (sym e ∙ rw f at (first (bit_of m at (row * (dfa.table.class_count + 1)))))));
}

pub new-requires-clause-rows : goal.new-requires-clause-rows
new-requires-clause-rows g c = omega (arith, c.len-2.ensures.value, c.len-2.ensures.rows.starts true None tt)

pub returns-clause-walkable : goal.returns-clause-walkable
returns-clause-walkable g c =
    dead_set (g.D.Automaton.stored c.args.dfa.now) c.args.text.now _ _ c.is_dead_state-is_dead.result c.new.result
    c.len-2.ensures.rows c.is_dead_state-is_dead.ensures c.len.ensures.units
    (ap (λ (n : ℕ). n + 1) c.len.ensures.value) c.columns.ensures c.new.ensures.room
    (rw c.len-2.ensures.value at c.new.ensures.words)
    c.new.ensures.first

pub returns-clause-few : goal.returns-clause-few
returns-clause-few g c = IfOk-weaker c.new.result _ _ (λ marks n. unset_most
    (is_set (g.D.Automaton.stored c.args.dfa.now).table marks) (length c.args.text.now.bytes + 1)
    (length (g.D.Automaton.stored c.args.dfa.now).table.patterns)) c.new.ensures.room
