use Rattle.determinize_core.proofs.Common.{length, units, ◌≡◌, ◌≤◌}
use Rattle.std.specs.Option.{IfSome, option_or}
use Rattle.std.specs.Prelude.{drop}
use Rattle.determinize_core.specs.Walk.{last_listed}
use Rattle.determinize_dense.specs.Reading.{lists_along}
use Rattle.determinize_stored.specs.Reading.{last_along}
use Rattle.determinize_stored.proofs.stored.StoredDfa.search_text.Given as goal

abbrev pub invariant-loop-index : goal.invariant-loop-index
invariant-loop-index l = record {
  last : option_or (last_listed l.index (lists_along l.fn.self.table l.row (drop l.index (units l.fn.text)))) l.found
      ≡ last_along l.fn.self l.fn.is_anchored l.fn.text;
  within : IfSome l.found (λ m. m.offset ≤ length l.fn.text.bytes);
}
