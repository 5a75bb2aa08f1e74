use Rattle.determinize_find.proofs.Common.{None, rules, Yes, ◌≡◌}
use Rattle.std.proofs.lemmas.Bool.Decides.{Decides-eqb, Decides-like}
use Rattle.determinize_find.proofs.leftmost.TwoSearches.{full_none, full_some}
use Rattle.determinize_find.proofs.regex.Regex.is_full_match.Goals as goal

pub returns-in_default-clause-found : goal.returns-in_default-clause-found
returns-in_default-clause-found g c =
    let whole : c.anchored-range.result ≡ record c.args.input.now { anchored = Yes } = search rules in
    let none : c.in_ok-begin.field-0 ≡ None = search rules in
    rw (← c.self.view_is) (
      λ e. cc,
      λ m. absurd (full_none c.self.invariant c.args.input.now c.input_law.ensures.within
          (rw (whole, none, c.self.invariant.kind_backward) at c.in_ok-begin.ensures.search) m),
    )

pub returns-clause-found : goal.returns-clause-found
returns-clause-found g c =
    let whole : c.anchored-range.result ≡ record c.args.input.now { anchored = Yes } = search rules in
    let start : c.start-2.result ≡ c.args.input.now.start = search rules in
    let is = full_some c.self.invariant c.args.input.now c.input_law.ensures.within c.in-Some.begin
    (rw (whole, c.in-Some.is, c.self.invariant.kind_backward) at c.in_ok-begin.ensures.search) in
    rw (start, ← c.self.view_is) (Decides-like _ is.0 is.1 (Decides-eqb _ _))
