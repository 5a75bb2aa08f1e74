use Rattle.determinize_core.proofs.Common.{[], AllResolve, byte_of, ◌≡◌}
use Rattle.determinize_core.proofs.step.FirstReading.{IsReading, kept_of}
use Rattle.determinize_core.proofs.determinize.reading.read_states.Given as goal

abbrev pub invariant-loop-id : goal.invariant-loop-id
invariant-loop-id g l = record {
  reading : IsReading l.nfa (byte_of l.unit) l.initial.builder l.builder l.kept.ids l.stack.items;
  whole : kept_of l.nfa l.match_kind (byte_of l.unit) l.kept.ids (g.I.Ids.left l.id-iterator)
      ≡ kept_of l.nfa l.match_kind (byte_of l.unit) [] (g.I.Ids.left l.fn.ids);
  capacity : l.kept.capacity ≡ l.initial.kept.capacity;
  left : AllResolve l.nfa (g.I.Ids.left l.id-iterator);
}
