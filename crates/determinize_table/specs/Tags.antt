-- What a search asks of a state, and how it is stored.
use Rattle.std.specs.Prelude.{ℕ, Bool, ◌-◌, ◌%◌, ◌&&◌, ◌||◌, is_some, None, Some, Option, cond, nat_eq, nat_le, not}
use Rattle.std.specs.Prelude.{option_map, slice_get}
use Rattle.determinize_below.specs.declared.search.HalfMatch.{HalfMatch}
use Rattle.determinize_core.specs.Value.{Value, is_nonempty}
use Rattle.determinize_table.specs.declared.tag.LastMatch.{LastMatch}
use Rattle.determinize_table.specs.declared.tag.TheConstants.{DEAD}

-- the first pattern of a state, and whether the state is dead
pub record Tag : Type 0 where
  pub pattern : Option ℕ
  pub is_dead : Bool

-- the first pattern that a value lists, and whether it records no NFA states, so that it is dead
abbrev pub tag_of : Value → Tag
tag_of v = record { pattern = slice_get v.patterns 0; is_dead = not (is_nonempty v.states) }

-- a pattern in a number: one more than it, or zero for none
abbrev pub packed_pattern : ℕ → Option ℕ
packed_pattern n = cond (nat_eq n 0) None (Some (n - 1))

-- a tag in a number: the highest of 32 bits for a dead state, the pattern in the others
abbrev pub tag_in : ℕ → Tag
tag_in n = record { pattern = packed_pattern (n % DEAD); is_dead = nat_le DEAD n }

-- whether a search ends at a state with this tag
abbrev pub is_last_tag : Bool → Tag → Bool
is_last_tag earliest tag = (earliest && is_some tag.pattern) || tag.is_dead

-- the match of a pattern that ends at an offset
abbrev pub match_at : ℕ → Option ℕ → Option HalfMatch
match_at offset pattern = option_map (λ p. record { pattern = p; offset = offset }) pattern

-- the match that a state reports which is entered after n units: it ends before the last of them,
-- so a state at the start reports none
abbrev pub match_reported : ℕ → Option ℕ → Option HalfMatch
match_reported read pattern = cond (nat_eq read 0) None (match_at (read - 1) pattern)

-- the match that a search has found
abbrev pub match_of : LastMatch → Option HalfMatch
match_of l = match_reported l.read (tag_in l.tag.bits).pattern
