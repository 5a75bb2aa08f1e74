-- Texts of patterns that clear the flag `u`.
use Rattle.std.specs.Prelude.{◌&&◌, ◌||◌, ℕ, Bool, List, [], ◌∷◌, false}
use Rattle.determinize_syntax.specs.Words.{◌∈◌}

-- `u` is among the letters of flags at the front
abbrev pub has_u : List ℕ → Bool
has_u [] = false
has_u (c ∷ t) = c ∈ "u" || (c ∈ "imsRU" && has_u t)

-- the flags at the front clear `u`, as `i-su`
abbrev pub clears_u : List ℕ → Bool
clears_u [] = false
clears_u (c ∷ t) = (c ∈ "-" && has_u t) || (c ∈ "imsRUu" && clears_u t)

-- the text begins with `?` and flags that clear `u`
abbrev pub group_clears_u : List ℕ → Bool
group_clears_u [] = false
group_clears_u (c ∷ t) = c ∈ "?" && clears_u t

-- somewhere in the text a `(?` is followed by flags that clear `u`, as in `a(?-u:b)`
abbrev pub clears_unicode : List ℕ → Bool
clears_unicode [] = false
clears_unicode (c ∷ t) = (c ∈ "(" && group_clears_u t) || clears_unicode t
