-- The names of groups in what was read, and the errors that depend on what was read.
use Rattle.std.specs.Prelude.{◌≡◌, ◌<◌, ◌≤◌, ◌+◌, ◌++◌, ℕ, All, Bool, false, true}
use Rattle.determinize_syntax.specs.Limits.{HasNameTwice, bracketed, openings}
use Rattle.determinize_syntax.specs.Spells.{Bytes}
use Rattle.determinize_syntax.specs.Words.{is_name}
use Rattle.determinize_syntax.specs.declared.error.ErrorKind.{ErrorKind}
use Rattle.determinize_syntax.specs.declared.error.ErrorKind.TheVariants.{GroupNameDuplicate, NestLimitExceeded}
use Rattle.determinize_syntax.specs.declared.error.Rejection.{Rejection}
use Rattle.determinize_syntax.specs.declared.group.Context.{Context}
use Rattle.determinize_syntax.specs.declared.parser.TheConstants.{NEST_LIMIT}

-- the error does not depend on the text before its place
abbrev pub is_local : ErrorKind → Bool
is_local GroupNameDuplicate = false
is_local NestLimitExceeded = false
is_local kind = true

-- the name opens a group in what was read
abbrev pub HasName : Bytes → Bytes → Type 0
HasName read name = (front back : Bytes) × (is_name name ≡ true)
    × (read ≡ front ++ bracketed name ++ back)

-- the text is what was read, in which each of the names opens a group, and what is still to read
abbrev pub HasNames : Bytes → Context → Bytes → Type 0
HasNames text context s = (read : Bytes) × (text ≡ read ++ s)
    × All (λ name. HasName read name.now) context.names.keys

-- of the text a, b is still to read: groups and operators are at most as deep in what was read as
-- it has bytes with which they begin, and the names of its groups were added
pub record Passes (old : Context) (a : Bytes) (depth : ℕ) (new : Context) (b : Bytes) : Type 0 where
  pub deep : depth + openings b ≤ openings a
  pub named : (text : Bytes) → HasNames text old a → HasNames text new b

-- an error at a limit is right where a is still to read, and `levels` levels are left
pub record IsRight (levels : ℕ) (old : Context) (a : Bytes) (e : Rejection) : Type 0 where
  pub nested : e.kind ≡ NestLimitExceeded → levels ≤ NEST_LIMIT → levels < openings a
  pub twice : e.kind ≡ GroupNameDuplicate → (text : Bytes) → HasNames text old a → HasNameTwice text
