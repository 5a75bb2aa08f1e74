-- What the exit of a `?` returns.
-- Main statements: if_err_and.
-- Used by: `NFA::from_parts`, and functions of the crates above.
-- Idea: the result is an error, so what holds of any error holds of this one.
use Rattle.std.specs.Prelude.{IfErr, IsErrAnd}
use Rattle.std.proofs.Common.{Err, Ok, Result}

pub if_err_and : {T E : Type 0} (r : Result T E) (P Q : E → Type 0) → ((e : E) → P e → Q e) → IsErrAnd r P → IfErr r Q
if_err_and (Ok x) P Q f h = tt
if_err_and (Err e) P Q f h = f e h
