use Rattle.determinize_pattern.proofs.levels.Weights.{fewer_at_end, fewer_inside, fewer_outside, fewer_steps}
use Rattle.determinize_pattern.proofs.pattern.Pattern.drop.Goals as goal

pub loop-part-smaller-in-Some-into_parts : goal.loop-part-smaller-in-Some-into_parts
loop-part-smaller-in-Some-into_parts c =
    rw c.in-Some-pop.ensures.items
    (fewer_inside _ _ c.in-Some-pop.part c.loop-part.around c.push_reserved.new.self c.push_reserved.ensures.items
    c.in-Some-into_parts.ensures.size)

pub loop-part-smaller-in_default-into_parts : goal.loop-part-smaller-in_default-into_parts
loop-part-smaller-in_default-into_parts c =
    rw c.in-Some-pop.ensures.items (fewer_steps _ c.in-Some-pop.part c.loop-part.around)

pub loop-part-smaller-in-Some-pop-2 : goal.loop-part-smaller-in-Some-pop-2
loop-part-smaller-in-Some-pop-2 c =
    fewer_outside _ _ c.in-Some-pop-2.next c.loop-part.around
    (rw c.in-Some-pop-2.ensures.items at c.in-Some-into_parts-2.ensures.around)

pub loop-part-smaller : goal.loop-part-smaller
loop-part-smaller c =
    let ends = c.in-None-pop.ensures in
    fewer_at_end _ _ c.loop-part.around _ (rw ends.cases.0 at ends.rest) c.in-Some-into_parts-2.ensures.around
