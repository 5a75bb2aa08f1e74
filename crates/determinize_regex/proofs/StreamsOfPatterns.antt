-- A search in pieces over an NFA of patterns, in words of the patterns.
-- Main statements: stream_of, fed_of, front_fed_of, finished_of, keeps_of, found_in.
-- Used by: the calls of `Stream`.
-- Idea: the matches of the runs are those of the patterns, so what keeps the list of the one keeps that of the other.
use Rattle.determinize_regex.proofs.Common.{AreMatches, AreMatchesOf, arith, Asked, before, by_test, from, IsAccepted}
use Rattle.determinize_regex.proofs.Common.{IsFed, IsFinished, IsFoundInBlock, IsFrontFed, IsRegex, IsStream, KeepsFew}
use Rattle.determinize_regex.proofs.Common.{List, Match, meanings, Nfa, None, Option, place, RegexValue, Some, Streamed, value_of, whole, ℕ, ◌++◌, ◌↔◌, ◌≡◌}
use Rattle.determinize_find.proofs.matches.InputMatches.{each_input_has_matches}
use Rattle.determinize_pattern.specs.declared.pattern.Pattern.{Pattern}
use Rattle.determinize_regex.specs.Streams.{IsFedOf, IsFinishedOf, IsFoundInBlockOf, IsFrontFedOf, IsStreamOf, KeepsFewOf, StreamValue}
use Rattle.determinize_regex.proofs.FoundOfPatterns.{each_matches_are_of}

-- a match that ended where the search begins ended at the place
before_is : (s : Streamed) (last : ℕ) → before s ≡ Some last → last ≡ place s
before_is s last e = by_test s.is_after
    (λ y. let same : Some (place s) ≡ Some last = rw y at e in cc)
    (λ n. let none : None ≡ Some last = rw n at e in cc)

module _ {patterns : List Pattern} {nfa : Nfa} {limit : ℕ} (is : IsRegex (value_of patterns nfa limit))
    (accepted : IsAccepted nfa) where
  abbrev regex : RegexValue
  regex = value_of patterns nfa limit

  abbrev value : Streamed → StreamValue
  value s = record { regex = regex; pieces = s }

  -- the matches of the runs are those of the patterns
  matches_are : (asked : Asked) (last : Option ℕ) (ms : List Match)
      → AreMatches nfa asked last ms ↔ AreMatchesOf nfa.terminator (meanings regex) asked last ms
  matches_are = each_matches_are_of (meanings regex) nfa is.means is.prefix

  pub stream_of : (s : Streamed) (text : List ℕ) (given : List Match) → IsStream nfa text given s
      → IsStreamOf (value s) text given
  stream_of s text given h = record {
    read = h.read;
    kept = h.kept;
    first = λ more small.
        let rest = each_input_has_matches nfa accepted (from (whole (text ++ more)) (place s)) (before s) (omega arith)
        (before_is s) in
        (rest.0, (matches_are (whole (text ++ more)) None (given ++ rest.0)).0 (h.matches more small rest.0 rest.1));
    others = λ more small ms m. (matches_are (whole (text ++ more)) None (given ++ ms)).0
        (h.matches more small ms ((matches_are (from (whole (text ++ more)) (place s)) (before s) ms).1 m));
  }

  stream_by_runs : (s : Streamed) (text : List ℕ) (given : List Match) → IsStreamOf (value s) text given
      → IsStream nfa text given s
  stream_by_runs s text given h = record {
    read = h.read;
    kept = h.kept;
    matches = λ more small ms m. (matches_are (whole (text ++ more)) None (given ++ ms)).1
        (h.others more small ms ((matches_are (from (whole (text ++ more)) (place s)) (before s) ms).0 m));
  }

  pub fed_of : {old new : Streamed} {more : List ℕ} {list after : List Match} → IsFed nfa old new more list after
      → IsFedOf (value old) (value new) more list after
  fed_of h = record {
    found = h.found;
    added = h.added;
    read = h.read;
    keeps = h.keeps;
    stream = λ text given is_old. stream_of _ _ _ (h.stream text given (stream_by_runs _ text given is_old));
  }

  pub front_fed_of : {old new : Streamed} {piece rest : List ℕ} {found : List Match}
      → IsFrontFed nfa old new piece rest found → IsFrontFedOf (value old) (value new) piece rest found
  front_fed_of h = record { front = h.front; cut = h.cut; fed = fed_of h.fed }

  pub finished_of : {s : Streamed} {list after : List Match} → IsFinished nfa s list after
      → IsFinishedOf (value s) list after
  finished_of h = record {
    found = h.found;
    added = h.added;
    kept = h.kept;
    all = λ text given is_old.
        (matches_are (whole text) None (given ++ h.found)).0 (h.all text given (stream_by_runs _ text given is_old));
  }

  pub keeps_of : {s : Streamed} → KeepsFew nfa s → KeepsFewOf (value s)
  keeps_of few = record { means = is.means; apart = is.apart; few = few }

  pub found_in : {old new : Streamed} {piece rest : List ℕ} {m : Match} → IsFoundInBlock nfa old new piece rest m
      → IsFoundInBlockOf (value old) (value new) piece rest m
  found_in h = record {
    now = value h.now;
    block = h.block;
    small = h.small;
    first = front_fed_of h.first;
    few = keeps_of h.few;
    last = fed_of h.last;
  }
