-- Runs from any position, and the leftmost match, which are definitions of `determinize_nfa`.
pub use Rattle.determinize_nfa.specs.Leftmost.{IsLeftmost, IsLeftmostMatch, NothingFrom}
pub use Rattle.determinize_nfa.specs.Runs.{AcceptsFrom, IsRunFrom}
