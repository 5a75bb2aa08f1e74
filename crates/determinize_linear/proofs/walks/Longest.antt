-- What the rows after an anchored start list last is, under `All`, the longest match that begins there.
-- Main statements: found_of_walk.
-- Used by: `walk_from`.
-- Idea: the walk from a position is that over the rest of the text (Rest), whose last match is the farthest one.
use Rattle.std.proofs.Common.{◌≡◌, ◌≤◌, ◌+◌, ◌-◌, ◌∙◌, ℕ, List, None, Option, Some, [], ◌∷◌, ap, arith, length}
use Rattle.std.proofs.Common.{refl, subst, sym, true}
use Rattle.std.specs.Prelude.{All as Each, option_map}
use Rattle.determinize_below.specs.Nfa.{IsAccepted}
use Rattle.determinize_below.specs.Semantics.{Nfa, Text, before_at}
use Rattle.determinize_below.specs.Truth.{IsUnit}
use Rattle.determinize_below.specs.declared.search.HalfMatch.{HalfMatch}
use Rattle.determinize_below.specs.declared.search.MatchKind.TheVariants.{All}
use Rattle.determinize_core.specs.Chain.{chain, units}
use Rattle.determinize_core.specs.LastMatch.{IsFarthestMatch, last_match, lists_of}
use Rattle.determinize_core.specs.Walk.{last_listed}
use Rattle.determinize_core.proofs.walk.Farthest.{each_last_is_farthest}
use Rattle.determinize_dense.specs.Dfa.{IsDfaOf}
use Rattle.determinize_dense.specs.Automaton.{IsStoredOf, first_row}
use Rattle.determinize_dense.specs.Bytes.{Stored}
use Rattle.determinize_dense.specs.Table.{Table, start_row}
use Rattle.determinize_nfa.specs.Runs.{since}
use Rattle.determinize_state.specs.Value.{Value}
use Rattle.determinize_linear.specs.Private.Following.{following}
use Rattle.determinize_linear.specs.Private.Found.{IsFoundAt, IsLongestAt, earlier}
use Rattle.determinize_linear.proofs.walks.Preferred.{best_of_walk}
use Rattle.determinize_linear.proofs.walks.Rest.{later, rest_along, rest_listed, rest_lists}

-- the last match of values is the last that their lists show
last_of : (values : List Value) (lists : List (List ℕ)) → [] ∷ lists ≡ lists_of values
    → last_match values ≡ last_listed 0 lists
last_of [] lists e = absurd (cc)
last_of (v ∷ vs) lists e = let is : lists ≡ lists_of vs = cc in rw is refl

back : (k : ℕ) (o : Option HalfMatch) → option_map (earlier k) (option_map (later k) o) ≡ o
back k None = refl
back k (Some m) =
    let e : k + m.offset - k ≡ m.offset = omega arith in
    ap (λ n. Some record { pattern = m.pattern; offset = n }) e

-- the last match that follows the anchored start at a position
longest_of_walk : (nfa : Nfa) (text : Text) (k : ℕ) (d : Table) → IsAccepted nfa → IsDfaOf nfa All d
    → k ≤ length text.bytes → IsUnit (before_at text k) → Each IsUnit (units text)
    → IsLongestAt nfa text k (following d text k (start_row nfa d true (before_at text k)))
longest_of_walk nfa text k d accepted means l behind all =
    let Farthest : Option HalfMatch → Type 0 = λ o. IsFarthestMatch nfa nfa.start_anchored (since text k) o in
    let along = rest_along nfa d text k l All accepted means behind all in
    let farthest : Farthest (last_listed 0 (rest_lists nfa d text k l))
    = subst Farthest (last_of (chain nfa All nfa.start_anchored (since text k)) _ along.walk)
    (each_last_is_farthest nfa accepted nfa.start_anchored (since text k)) in
    subst Farthest (sym (ap (λ o. option_map (earlier k) o) (rest_listed nfa d text k l)
    ∙ back k (last_listed 0 (rest_lists nfa d text k l)))) farthest

-- what it is under each match kind
pub found_of_walk : (nfa : Nfa) (dfa : Stored) (text : Text) (k : ℕ) → IsAccepted nfa × IsStoredOf nfa dfa
    → k ≤ length text.bytes → IsUnit (before_at text k) → Each IsUnit (units text)
    → IsFoundAt nfa dfa.kind text k (following dfa.table text k (first_row dfa true (before_at text k)))
found_of_walk nfa dfa text k of l behind all = rw of.1.terminator record {
  preferred = λ e. best_of_walk nfa text k dfa.table of.0 (rw e at of.1.means) l behind all;
  longest = λ e. longest_of_walk nfa text k dfa.table of.0 (rw e at of.1.means) l behind all;
}
