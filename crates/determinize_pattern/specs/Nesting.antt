-- How deep patterns are nested.
use Rattle.std.specs.Prelude.{ℕ, List, [], ◌∷◌, map, max, suc}
use Rattle.determinize_pattern.specs.declared.pattern.Pattern.{Pattern}
use Rattle.determinize_pattern.specs.declared.pattern.Pattern.TheOpen.{Pattern-F}
use Rattle.determinize_pattern.specs.declared.pattern.Pattern.TheFolds.{fold-Pattern}

-- the greatest of the numbers, and 0 if there is none
abbrev pub greatest : List ℕ → ℕ
greatest [] = 0
greatest (n ∷ ns) = max n (greatest ns)

-- one level, with the depth of each part in its place
abbrev pub node_depth : Pattern-F ℕ → ℕ
node_depth Pattern-F.Empty = 0
node_depth (Pattern-F.Literal bytes) = 0
node_depth (Pattern-F.Class ranges) = 0
node_depth (Pattern-F.Look look) = 0
node_depth (Pattern-F.Repetition min max greedy sub) = suc sub.value
node_depth (Pattern-F.Capture sub) = suc sub.value
node_depth (Pattern-F.Concat subs) = suc (greatest subs.items)
node_depth (Pattern-F.Alternation subs) = suc (greatest subs.items)

-- how many levels of parts a pattern has below it: `a` has none, and `(a+)` has two
abbrev pub depth : Pattern → ℕ
depth = fold-Pattern ℕ node_depth

-- the depth of the deepest of the patterns
abbrev pub deepest : List Pattern → ℕ
deepest patterns = greatest (map depth patterns)
