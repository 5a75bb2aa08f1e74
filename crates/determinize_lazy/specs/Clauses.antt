-- The names that the clauses of this crate have in common: of the crates below, and of this one.
pub use Rattle.determinize_below.specs.ByteClasses.{AreClassesOf, Classes}
pub use Rattle.determinize_below.specs.Nfa.{AllResolve, IsAccepted}
pub use Rattle.determinize_below.specs.Search.{is_done}
pub use Rattle.determinize_below.specs.Semantics.{between}
pub use Rattle.determinize_core.specs.Chain.{future, units}
pub use Rattle.determinize_core.specs.Step.{start_value, step}
pub use Rattle.determinize_core.specs.Value.{dead, is_nonempty}
pub use Rattle.determinize_core.specs.WholeWalk.{IsWalk}
pub use Rattle.determinize_engine.specs.Lists.{ListsAtEnd}
pub use Rattle.determinize_engine.specs.Scans.{IsScan}
pub use Rattle.determinize_engine.specs.Searches.{has_start, HasMatch, IsSearch, IsSearchResult, start_for, text_of}
pub use Rattle.determinize_lazy.specs.Cache.{cache, classes_from, EachWalkComputesFew, empty_cache, Grows, step_of}
pub use Rattle.determinize_lazy.specs.CachedSearches.{HasRead, HasSearched, HasSearchedIn}
pub use Rattle.determinize_lazy.specs.Marks.{AreMarked, AreSomeMarked, HasMatchOf}
pub use Rattle.determinize_lazy.specs.MostBytes.{most_bytes}
pub use Rattle.determinize_lazy.specs.Scanning.{EndsBefore, IsFoundBeforeLast, IsFoundInEach, IsSettledIn}
pub use Rattle.determinize_lazy.specs.Walkers.{IsWalkedTo}
pub use Rattle.determinize_lazy.specs.WorkedRows.{AreWorkedRows}
pub use Rattle.determinize_start.specs.StartSlots.{slot_number}
pub use Rattle.determinize_table.specs.CacheBytes.{cache_bytes}
pub use Rattle.determinize_table.specs.Cursors.{cursor_value, IsCursor}
pub use Rattle.determinize_table.specs.Table.{empty, is_cached, IsTable}
pub use Rattle.determinize_table.specs.Tags.{tag_in, tag_of}
