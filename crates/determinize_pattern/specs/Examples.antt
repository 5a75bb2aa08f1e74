-- Patterns of loops whose body may read nothing, as examples of the ends.
use Rattle.std.specs.Prelude.{ℕ, List, None, Option, [], ◌∷◌, false, slice_get, true}
use Rattle.determinize_below.specs.Semantics.{between}
use Rattle.determinize_below.specs.declared.look.Look.TheVariants.{WordAscii, WordAsciiNegate}
use Rattle.determinize_pattern.specs.Meaning.{Byte, Empty, Look, Or, Plus, Re, Then, ends}
use Rattle.determinize_pattern.specs.Patterns.{at_least, optional}

-- the end of the preferred match of the whole text from its start
abbrev pub first_end : List ℕ → Re → Option ℕ
first_end bytes re = slice_get (ends 10 (between None bytes None) re 0) 0

-- the patterns `a` and `b`
abbrev pub letter_a : Re
letter_a = Byte ((97, 97) ∷ [])

abbrev pub letter_b : Re
letter_b = Byte ((98, 98) ∷ [])

-- the texts `aa`, `ab`, `aab` and `abb`
abbrev pub text_aa : List ℕ
text_aa = 97 ∷ 97 ∷ []

abbrev pub text_ab : List ℕ
text_ab = 97 ∷ 98 ∷ []

abbrev pub text_aab : List ℕ
text_aab = 97 ∷ 97 ∷ 98 ∷ []

abbrev pub text_abb : List ℕ
text_abb = 97 ∷ 98 ∷ 98 ∷ []

-- `(a|)*`
abbrev pub a_or_nothing : Re
a_or_nothing = at_least true 0 (Or letter_a Empty)

-- `(|a)+`
abbrev pub nothing_or_a : Re
nothing_or_a = Plus true (Or Empty letter_a)

-- `(a*)*`
abbrev pub star_of_star : Re
star_of_star = at_least true 0 (at_least true 0 letter_a)

-- `(a??)*`
abbrev pub star_of_lazy : Re
star_of_lazy = at_least true 0 (optional false letter_a)

-- `(\b|a)*`
abbrev pub boundary_or_a : Re
boundary_or_a = at_least true 0 (Or (Look WordAscii) letter_a)

-- `(a*|b)+`
abbrev pub star_or_b : Re
star_or_b = Plus true (Or (at_least true 0 letter_a) letter_b)

-- `(a|b*?)*`
abbrev pub a_or_lazy_star : Re
a_or_lazy_star = at_least true 0 (Or letter_a (at_least false 0 letter_b))

-- `(a?b??)+`
abbrev pub a_then_lazy_b : Re
a_then_lazy_b = Plus true (Then (optional true letter_a) (optional false letter_b))

-- `(a*?)*\B`
abbrev pub lazy_star_inside : Re
lazy_star_inside = Then (at_least true 0 (at_least false 0 letter_a)) (Look WordAsciiNegate)

-- `(a??)*\B`
abbrev pub star_of_lazy_inside : Re
star_of_lazy_inside = Then star_of_lazy (Look WordAsciiNegate)
