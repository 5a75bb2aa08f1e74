use Rattle.determinize_dense.proofs.Common.{arith, Bool, List, subst, [], ℕ, ◌+◌, ◌-◌, ◌∷◌, ◌≡◌}
use Rattle.determinize_dense.proofs.Staying.{each-at}
use Rattle.determinize_dense.specs.Private.Scans.{IsStaying}
use Rattle.determinize_dense.proofs.rows.Rows.all_leaving.Goals as goal

pub returns : goal.returns
returns g c k other few =
    let d = c.args.self.now.table in
    let first = c.args.first in
    let zero : first ≡ first + 0 = omega arith in
    let whole : k - 0 ≡ k = omega arith in
    let at = each-at (λ (i : ℕ) (set : List Bool). IsStaying d (first + i) set) 0
    (c.leaving.result ∷ c.leaving-2.result ∷ c.leaving-3.result ∷ c.leaving-4.result ∷ c.leaving-5.result
    ∷ c.leaving-6.result ∷ c.leaving-7.result ∷ c.leaving-8.result ∷ []) (
      subst (λ r. IsStaying d r c.leaving.result) zero c.leaving.ensures,
      (
        c.leaving-2.ensures,
        (
          c.leaving-3.ensures,
          (
            c.leaving-4.ensures,
            (
              c.leaving-5.ensures,
              (c.leaving-6.ensures, (c.leaving-7.ensures, (c.leaving-8.ensures, tt))),
            ),
          ),
        ),
      ),
    )
    k other (omega arith) few in
    rw whole at at
