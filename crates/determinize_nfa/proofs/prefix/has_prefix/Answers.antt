use Rattle.determinize_nfa.proofs.Common.{false≢true, node_of, rules}
use Rattle.determinize_nfa.proofs.prefixes.Parts.{Decides-alone, not_any, skip_within}
use Rattle.determinize_nfa.proofs.prefix.has_prefix.Goals as goal

pub state-requires-2 : goal.state-requires-2
state-requires-2 g c = skip_within c.args.nfa.now c.start_unanchored-start.result c.in-BinaryUnion.alt1
    c.in-BinaryUnion.alt2 (node_of c.state.result.now) c.start_unanchored-start.ensures.value c.state.ensures.state
    (search rules) c.state.ensures.accepted

pub returns-then-not-is_any_byte : goal.returns-then-not-is_any_byte
returns-then-not-is_any_byte g c = (
  λ h. absurd (false≢true h),
  λ h. absurd (not_any c.args.nfa.now c.start_unanchored-start.result c.in-BinaryUnion.alt1 c.in-BinaryUnion.alt2
      (node_of c.state.result.now) c.start_unanchored-start.ensures.value c.state.ensures.state (search rules)
      (node_of c.state-2.result.now) c.is_any_byte.result c.state-2.ensures.state c.is_any_byte.ensures
      c.if-not-is_any_byte.true h),
)

pub returns : goal.returns
returns g c = Decides-alone c.args.nfa.now c.start_unanchored-start.result c.in-BinaryUnion.alt1
    c.in-BinaryUnion.alt2 (node_of c.state.result.now) c.start_unanchored-start.ensures.value c.state.ensures.state
    (search rules) (node_of c.state-2.result.now) c.is_any_byte.result c.state-2.ensures.state c.is_any_byte.ensures
    c.leads_alone.result c.if-not-is_any_byte.false (search rules) c.leads_alone.ensures
