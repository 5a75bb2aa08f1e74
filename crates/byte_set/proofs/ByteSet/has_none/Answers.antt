use Rattle.std.proofs.Common.{◌≡◌, ℕ, ◌+◌, get_or, sym, arith, ap, ◌∙◌, ⊎_elim}
use Rattle.std.proofs.lemmas.Bool.{cases_lt, eq-eqb, eqb-true, false≢true}
use Rattle.byte_set.proofs.ByteSet.has_none.Goals as goal

pub returns : goal.returns
returns c =
    let text = c.args.text.now in
    let run = c.run_of_few.ensures in
    let few = run.few in
    let exact = λ (k : ℕ). c.tables.ensures (get_or text k 0) (c.type_inv.text k).fits in (
      λ whole.
          let all : c.run_of_few.result ≡ 16 = eqb-true _ _ whole in
          λ k low high. sym (exact k) ∙ run.none k low (omega arith),
      λ none. ⊎_elim (λ less.
          let at = c.args.from + c.run_of_few.result in
          absurd (false≢true (sym (none at (omega arith) (omega arith)) ∙ sym (exact at) ∙ run.found less)))
          (λ more. eq-eqb _ _ (omega arith)) (cases_lt c.run_of_few.result 16),
    )
