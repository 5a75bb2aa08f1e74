use Rattle.std.proofs.Common.{◌≡◌, ◌+◌, ◌++◌, ◌∙◌, ◌∷◌, [], ap, arith, get_or, take}
use Rattle.std.proofs.lemmas.List.{map-append, take_all, take_more}
use Rattle.determinize_pattern.proofs.compiled.FirstClasses.{within_more}
use Rattle.determinize_pattern.specs.Classes.{pairs}
use Rattle.determinize_pattern.specs.declared.class.ClassBytesRange.{ClassBytesRange}
use Rattle.determinize_pattern.proofs.first_class.past_class.Goals as goal

pub loop-range-preserved : goal.loop-range-preserved
loop-range-preserved c =
    let items = c.ranges-range-items.result.now in
    let index = c.loop-range.range-index in
    let r = get_or items index (record { start = 0; end = 0 }) in
    let longer : pairs (take (index + 1) items) ≡ pairs (take index items) ++ (r.start, r.end) ∷ [] =
    ap pairs (take_more items index (record { start = 0; end = 0 }) c.loop-range-test.true)
    ∙ map-append (λ (s : ClassBytesRange). (s.start, s.end)) (take index items) (r ∷ []) in
    rw (longer, c.max-past.ensures) (within_more c.args.low c.loop-range.past r.start r.end (pairs (take index items))
    c.loop-range.invariant c.if-range-past.false)

pub returns-then-past-low : goal.returns-then-past-low
returns-then-past-low c =
    rw (take_all c.loop-range.range-index c.ranges-range-items.result.now (omega arith), c.ranges-range-items.ensures)
    at c.loop-range.invariant
