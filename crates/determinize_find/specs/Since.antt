-- The rest of a text, which is a definition of `determinize_nfa`.
pub use Rattle.determinize_nfa.specs.Runs.{since}
