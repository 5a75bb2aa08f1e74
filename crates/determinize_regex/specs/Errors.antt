-- Errors from the patterns of a regex.
use Rattle.std.specs.Prelude.{Bool, cond, false, true}
use Rattle.std.specs.declared.io.ErrorKind.{ErrorKind as IoKind}
use Rattle.std.specs.declared.io.ErrorKind.TheVariants as io
use Rattle.determinize_below.specs.declared.nfa.BuildError.TheVariants.{OutOfMemory as NoMemory}
use Rattle.determinize_pattern.specs.declared.nfa.CompileError.TheVariants.{Build}
use Rattle.determinize_regex.specs.declared.error.Error.{Error}
use Rattle.determinize_regex.specs.declared.error.Error.TheVariants.{Compile, Parse}
use Rattle.determinize_syntax.specs.declared.error.ErrorKind.{ErrorKind}
use Rattle.determinize_syntax.specs.declared.error.ErrorKind.TheVariants.{OutOfMemory}

-- whether a text was rejected since an allocation failed
abbrev pub is_memory : ErrorKind → Bool
is_memory OutOfMemory = true
is_memory kind = false

-- whether the error is that of an allocation
abbrev pub is_out_of_memory : Error → Bool
is_out_of_memory (Parse index e) = is_memory e.kind
is_out_of_memory (Compile (Build NoMemory)) = true
is_out_of_memory (Compile e) = false

-- the kind of the `io::Error` that it becomes
abbrev pub io_kind : Error → IoKind
io_kind e = cond (is_out_of_memory e) io.OutOfMemory io.InvalidInput
