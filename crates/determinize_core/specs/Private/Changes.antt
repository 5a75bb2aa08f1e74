-- Changes of a value that single private calls make.
use Rattle.std.specs.Prelude.{ℕ, List}
use Rattle.determinize_state.specs.Value.{Value}

-- the value with these patterns
abbrev pub with_patterns : Value → List ℕ → Value
with_patterns value patterns = record value { patterns = patterns }
