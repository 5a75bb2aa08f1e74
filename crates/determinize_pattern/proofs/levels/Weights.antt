-- The weights of patterns: each step of the loop of `drop` leaves fewer.
-- Main statements: fewer_steps, fewer_inside, fewer_outside, fewer_at_end.
-- Used by: the proof of `drop`.
-- Idea: each part is counted twice, once until it is taken and once until the loop is out of it.
use Rattle.std.proofs.Common.{◌≡◌, ◌∙◌, ◌++◌, ◌+◌, ◌*◌, ◌<◌, ℕ, Global, List, Vec, [], ◌∷◌, ap, arith, map, suc, sym}
use Rattle.determinize_pattern.specs.Private.Dropping.{Weight, left_around, node_weight, sizes, steps_left, weight, weight_of_all}
use Rattle.determinize_pattern.specs.declared.pattern.Pattern.{Pattern, Pattern-F, fold-roll-Pattern, fold_out-Pattern}
use Rattle.determinize_pattern.specs.declared.pattern.Pattern.TheVariants as patterns

pub weight_concat : (subs : Vec Pattern Global)
    → weight (patterns.Concat subs) ≡ weight_of_all (map weight subs.items)
weight_concat subs = ap weight (sym (patterns.rolls-Concat subs))
    ∙ fold-roll-Pattern Weight node_weight (Pattern-F.Concat subs)

some_node_size : (f : Pattern-F Weight) → 0 < (node_weight f).size
some_node_size Pattern-F.Empty = omega arith
some_node_size (Pattern-F.Literal bytes) = omega arith
some_node_size (Pattern-F.Class ranges) = omega arith
some_node_size (Pattern-F.Look look) = omega arith
some_node_size (Pattern-F.Repetition min max greedy sub) = omega arith
some_node_size (Pattern-F.Capture sub) = omega arith
some_node_size (Pattern-F.Concat subs) = omega arith
some_node_size (Pattern-F.Alternation subs) = omega arith

pub some_size : (p : Pattern) → 0 < (weight p).size
some_size p = rw (fold_out-Pattern Weight node_weight p) (some_node_size _)

pub sizes_push : (ps : List Pattern) (p : Pattern)
    → sizes (map weight (ps ++ p ∷ [])) ≡ sizes (map weight ps) + (weight p).size
sizes_push [] p = omega arith
sizes_push (q ∷ ps) p = omega (arith, sizes_push ps p)

pub left_push : (ps : List Pattern) (p : Pattern)
    → left_around (map weight (ps ++ p ∷ [])) ≡ 2 * sizes (map weight ps) + (weight p).around
left_push [] p = omega arith
left_push (q ∷ []) p = omega arith
left_push (q ∷ r ∷ ps) p = omega (arith, left_push (r ∷ ps) p)

-- a part without parts is freed
pub fewer_steps : (ps : List Pattern) (p around : Pattern) → steps_left ps around < steps_left (ps ++ p ∷ []) around
fewer_steps ps p around = omega (arith, sizes_push ps p, some_size p)

-- a part with parts becomes the list, and the other parts are around it
pub fewer_inside : (ps inner : List Pattern) (p around : Pattern) (outer : Vec Pattern Global)
    → outer.items ≡ ps ++ around ∷ [] → sizes (map weight inner) < (weight p).size
    → steps_left inner (patterns.Concat outer) < steps_left (ps ++ p ∷ []) around
fewer_inside ps inner p around outer e h =
    let held : (weight (patterns.Concat outer)).around ≡ suc (left_around (map weight outer.items))
    = ap (λ w. w.around) (weight_concat outer) in
    let left : left_around (map weight outer.items) ≡ 2 * sizes (map weight ps) + (weight around).around
    = ap (λ xs. left_around (map weight xs)) e ∙ left_push ps around in
    omega (arith, held, left, sizes_push ps p, h)

-- the list that was around is the list again, but for its last part
pub fewer_outside : (ps parts : List Pattern) (next around : Pattern)
    → left_around (map weight (ps ++ next ∷ [])) < (weight around).around
    → steps_left ps next < steps_left parts around
fewer_outside ps parts next around h = omega (arith, left_push ps next, h)

-- nothing is around the list that is left
pub fewer_at_end : (ps parts : List Pattern) (around : Pattern) (n : ℕ) → ps ≡ [] → n < (weight around).around
    → steps_left ps patterns.Empty < steps_left parts around
fewer_at_end ps parts around n none h =
    let empty : (weight patterns.Empty).around ≡ 0
    = ap (λ p. (weight p).around) (sym patterns.rolls-Empty)
    ∙ ap (λ w. w.around) (fold-roll-Pattern Weight node_weight Pattern-F.Empty) in
    rw none (omega (arith, empty, h))
