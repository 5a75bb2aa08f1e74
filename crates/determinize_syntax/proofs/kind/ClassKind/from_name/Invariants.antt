use Rattle.determinize_syntax.proofs.Common.{◌<◌, ◌≡◌, ClassKind, Some, codes, name_of, slice_get, ℕ}
use Rattle.determinize_syntax.proofs.kind.ClassKind.from_name.Given as goal

abbrev pub invariant-loop-kind : goal.invariant-loop-kind
invariant-loop-kind l =
    (i : ℕ) (k : ClassKind) → i < l.kind-index → slice_get l.kind-items i ≡ Some k → l.fn.name ≡ codes (name_of k) → ⊥
