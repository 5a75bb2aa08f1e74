use Rattle.determinize_regex.proofs.Common.{arith, length, mul-le-mul_right, refl, ◌*◌, ◌+◌, ◌∙◌, ◌≤◌}
use Rattle.determinize_find.specs.Regexes.{RegexValue as Searched}
use Rattle.determinize_lazy.specs.MostBytes.{most_bytes}
use Rattle.determinize_nfa.specs.Reversal.{most_states}
use Rattle.determinize_regex.specs.RegexBytes.{regex_bytes}
use Rattle.determinize_regex.proofs.regex.Regex.memory_usage.Goals as goal

pub returns-clause-cached : goal.returns-clause-cached
returns-clause-cached g c =
    let f = c.forward.ensures in
    let b = c.backward.ensures in
    rw (← c.self.view_is) record {
      forward = _;
      backward = _;
      reverse = c.self.inside.search.backward;
      is_reverse = rw b.nfa at b.reverse;
      of_forward = record { cache = c.forward.result.now; over = f.nfa; most = f.limit; is = refl };
      of_backward =
          record { cache = c.backward.result.now; over = b.nfa; most = b.limit ∙ c.self.invariant.limits; is = refl };
      sum = c.cached_memory_usage.ensures.value;
    }

pub returns-clause-most : goal.returns-clause-most
returns-clause-most g c =
    let s : Searched = c.self.inside.search in
    let f = c.forward.ensures in
    let b = c.backward.ensures in
    let most : c.cached_memory_usage.result
    ≤ most_bytes s.limit s.nfa + s.limit * (1138 + 10 * length s.backward.states)
    = rw (b.limit, b.nfa, f.limit, f.nfa, c.self.invariant.limits, c.self.invariant.pattern)
    at c.cached_memory_usage.ensures.most in
    let less : (1138 + 10 * length s.backward.states) * s.limit ≤ (1138 + 10 * most_states s.nfa) * s.limit =
    mul-le-mul_right s.limit (omega (arith, c.self.invariant.size)) in
    rw (← c.self.view_is)
    (let all : c.cached_memory_usage.result ≤ regex_bytes s.limit s.nfa = omega (arith, most, less) in all)
