use Rattle.determinize_dense.proofs.Common.{arith, Err, Ok, Result, rules, ℕ, ◌<◌, ◌∙◌, ◌≡◌, ◌≤◌}
use Rattle.determinize_dense.proofs.Building.{more-as, err-as}
use Rattle.determinize_dense.proofs.Pigeonhole.{each_count_is_one}
use Rattle.determinize_dense.proofs.dfa.Dfa.build.Goals as goal

pub returns-in_err-rows-clause-many : goal.returns-in_err-rows-clause-many
returns-in_err-rows-clause-many g c = λ same.
    more-as c.in_ok-builder.ensures.nfa c.in_ok-builder.ensures.kind c.in_ok-builder.ensures.limit
    (c.in_err-rows.ensures.many (err-as same (search rules)))

not-more : {count limit least : ℕ} → least < count → count ≤ limit → limit ≡ least → ⊥
not-more more few same = omega arith

not-err : {A E : Type 0} {x : A} {e : E} → ◌≡◌ {A = Result A E} (Ok x) (Err e) → ⊥
not-err same = cc

pub returns : goal.returns
returns g c =
    let built = c.in_ok-rows.ensures.built in
    let states = rw (c.in_ok-builder.ensures.nfa, c.in_ok-builder.ensures.kind) at built.states in
    record {
      nfa = c.in_ok-arranged.ensures.nfa ∙ built.nfa ∙ c.in_ok-builder.ensures.nfa;
      kind = c.in_ok-arranged.ensures.kind ∙ built.kind ∙ c.in_ok-builder.ensures.kind;
      means = c.in_ok-arranged.ensures.means;
      states = rw c.in_ok-arranged.ensures.rows states;
      few = rw (c.in_ok-arranged.ensures.rows, ← c.in_ok-builder.ensures.limit) built.few;
      many = search rules;
      more = λ more. absurd (not-more ((each_count_is_one (g.R.AsNfa.nfa c.args.nfa) c.args.match_kind _ _ states).1
          more) built.few c.in_ok-builder.ensures.limit);
      zero = λ none. absurd (not-err (c.in_ok-builder.ensures.zero none));
    }
