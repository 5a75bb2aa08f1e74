-- Texts that are read one after the other.
-- Main statements: spells_one_more, rejects_at.
-- Used by: `parse_all`.
-- Idea: the texts so far, and the next one, are those up to the place after it.
use Rattle.determinize_regex.proofs.Common.{AreSpelled, get_or, IsRejected, length, List, map, map-append, meaning}
use Rattle.determinize_regex.proofs.Common.{slice_get-get_or, slice_get-map, take, take-map, take_more, [], ℕ, ◌++◌, ◌+◌, ◌<◌, ◌∷◌, ◌≡◌}
use Rattle.determinize_pattern.specs.declared.pattern.Pattern.{Pattern}
use Rattle.determinize_regex.specs.Spelled.{IsErrorOf, one_more}
use Rattle.determinize_regex.specs.declared.error.Error.TheVariants.{Parse}
use Rattle.determinize_syntax.specs.Spells.{SpellsUnder}
use Rattle.determinize_syntax.specs.declared.error.ParseError.{ParseError}
use Rattle.determinize_syntax.specs.declared.flags.Flags.{Flags}

module _ {T : Type 0} (bytes : T → List ℕ) (flags : Flags) where
  pub spells_one_more : (patterns all : List Pattern) (pattern : Pattern) (texts : List T) (i : ℕ) (d : T)
      → i < length texts → all ≡ patterns ++ pattern ∷ []
      → AreSpelled flags (map meaning patterns) (map bytes (take i texts))
      → SpellsUnder flags (meaning pattern) (bytes (get_or texts i d))
      → AreSpelled flags (map meaning all) (map bytes (take (i + 1) texts))
  spells_one_more patterns all pattern texts i d inside is so_far next =
      rw (is, map-append meaning patterns (pattern ∷ []), take_more texts i d inside, map-append bytes (take i texts) _)
      (one_more _ _ _ _ so_far next)

  -- the error of the first text that is rejected
  pub rejects_at : (patterns : List Pattern) (texts : List T) (i : ℕ) (d : T) (e : ParseError) → i < length texts
      → AreSpelled flags (map meaning patterns) (map bytes (take i texts))
      → IsErrorOf flags e (bytes (get_or texts i d)) → IsRejected flags (map bytes texts) (Parse i e)
  rejects_at patterns texts i d e inside so_far error = record {
    before = (map meaning patterns, rw (take-map bytes i texts) so_far);
    text = rw (slice_get-map bytes texts i, slice_get-get_or texts i d inside) error;
  }
