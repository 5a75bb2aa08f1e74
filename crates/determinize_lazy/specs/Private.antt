-- What private functions promise each other, and what is true of every cache: no public contract
-- cites these definitions.
pub use Rattle.determinize_engine.specs.Private.Later.{later_by}
pub use Rattle.determinize_lazy.specs.declared.cached.CachedPosition.{CachedPosition}
pub use Rattle.determinize_lazy.specs.declared.search.Position.{Position}
pub use Invariant.*
pub use Listed.*
pub use Searched.*
pub use Starts.*
pub use Steps.*
pub mod Invariant
pub mod Listed
pub mod Searched
pub mod Starts
pub mod Steps
