use Rattle.determinize_below.proofs.nfa.BuildErrorDisplay.fmt.Goals as goal

pub returns-in-TooManyStates : goal.returns-in-TooManyStates
returns-in-TooManyStates g c = record {
  writes = λ plain ok. rw c.in-TooManyStates.is (c.write_str.ensures.writes plain ok);
  styled = tt;
}

pub returns-in-UnresolvedStart : goal.returns-in-UnresolvedStart
returns-in-UnresolvedStart g c = record {
  writes = λ plain ok. rw c.in-UnresolvedStart.is (c.write_str-in-UnresolvedStart.ensures.writes plain ok);
  styled = tt;
}

pub returns-in-UnresolvedId : goal.returns-in-UnresolvedId
returns-in-UnresolvedId g c = record {
  writes = λ plain ok. rw c.in-UnresolvedId.is (c.write_fault.ensures plain ok);
  styled = tt;
}

pub returns-in-BadSparse : goal.returns-in-BadSparse
returns-in-BadSparse g c = record {
  writes = λ plain ok. rw c.in-BadSparse.is (c.write_fault-in-BadSparse.ensures plain ok);
  styled = tt;
}

pub returns-in-BadDense : goal.returns-in-BadDense
returns-in-BadDense g c = record {
  writes = λ plain ok. rw c.in-BadDense.is (c.write_fault-in-BadDense.ensures plain ok);
  styled = tt;
}

pub returns-in-RepeatedPattern : goal.returns-in-RepeatedPattern
returns-in-RepeatedPattern g c = record {
  writes = λ plain ok. rw c.in-RepeatedPattern.is (c.write_fault-in-RepeatedPattern.ensures plain ok);
  styled = tt;
}

pub returns-in-NotPatchable : goal.returns-in-NotPatchable
returns-in-NotPatchable g c = record {
  writes = λ plain ok. rw c.in-NotPatchable.is (c.write_fault-in-NotPatchable.ensures plain ok);
  styled = tt;
}

pub returns-in-OutOfMemory : goal.returns-in-OutOfMemory
returns-in-OutOfMemory g c = record {
  writes = λ plain ok. rw c.in-OutOfMemory.is (c.write_str-in-OutOfMemory.ensures.writes plain ok);
  styled = tt;
}
