-- How much is left to do when a pattern is dropped.
use Rattle.std.specs.Prelude.{ℕ, ◌+◌, ◌*◌, List, [], ◌∷◌, map, suc}
use Rattle.determinize_pattern.specs.declared.pattern.Pattern.{Pattern}
use Rattle.determinize_pattern.specs.declared.pattern.Pattern.TheOpen.{Pattern-F}
use Rattle.determinize_pattern.specs.declared.pattern.Pattern.TheFolds.{fold-Pattern}

-- how many patterns are in a pattern, itself too; and how much is left to do after a part of it,
-- if the last of the other parts is what is around it
pub record Weight : Type 0 where
  pub size : ℕ
  pub around : ℕ

-- the sum of the sizes
abbrev pub sizes : List Weight → ℕ
sizes [] = 0
sizes (w ∷ ws) = w.size + sizes ws

-- what is left to do after a part, if these are the other parts, and what is around them the last
abbrev pub left_around : List Weight → ℕ
left_around [] = 0
left_around (w ∷ []) = w.around
left_around (w ∷ v ∷ ws) = 2 * w.size + left_around (v ∷ ws)

-- the weight of a pattern with these parts
abbrev pub weight_of_all : List Weight → Weight
weight_of_all ws = record { size = suc (sizes ws); around = suc (left_around ws) }

-- one level, with the weight of each part in its place
abbrev pub node_weight : Pattern-F Weight → Weight
node_weight Pattern-F.Empty = record { size = 1; around = 0 }
node_weight (Pattern-F.Literal bytes) = record { size = 1; around = 0 }
node_weight (Pattern-F.Class ranges) = record { size = 1; around = 0 }
node_weight (Pattern-F.Look look) = record { size = 1; around = 0 }
node_weight (Pattern-F.Repetition min max greedy sub) =
    record { size = suc sub.value.size; around = sub.value.around }
node_weight (Pattern-F.Capture sub) =
    record { size = suc sub.value.size; around = sub.value.around }
node_weight (Pattern-F.Concat subs) = weight_of_all subs.items
node_weight (Pattern-F.Alternation subs) = weight_of_all subs.items

-- the weight of a pattern
abbrev pub weight : Pattern → Weight
weight = fold-Pattern Weight node_weight

-- how many steps are left at most, with these parts and what is around them
abbrev pub steps_left : List Pattern → Pattern → ℕ
steps_left parts around = 2 * sizes (map weight parts) + (weight around).around
