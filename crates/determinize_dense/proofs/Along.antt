-- What follows a row, and the lists of the rows along a text.
-- Main statements: range_first, start_is, lists_along-done, lists_along-more, last_listed-done, last_listed-more,
-- last_listed-dead, along_text.
-- Used by: `reading`, `overlapping`, Inputs, and the searches of `determinize_linear` and `determinize_stored`.
-- Idea: the row after each beginning of the units lists what the value after it lists.
use Rattle.determinize_dense.proofs.Common.{add-one, after_at, All, All-cons, All-head, All-nil, All-tail, all_read}
use Rattle.determinize_dense.proofs.Common.{Anchored, arith, Bool, chain, chain-first, chain_leftmost, chain_of_all}
use Rattle.determinize_dense.proofs.Common.{drop, drop_all, drop_more, ended_at, future, get_or_from_slice_get}
use Rattle.determinize_dense.proofs.Common.{is_anchored, IsAccepted, IsDead, IsDfaOf, IsUnit, IsWalkOfAll, last_listed}
use Rattle.determinize_dense.proofs.Common.{length, length-drop, length-map, length-map-range_with_len, List}
use Rattle.determinize_dense.proofs.Common.{lists_along, lists_of, ListsAlong, MatchKind, Nfa, None, Option, option_or}
use Rattle.determinize_dense.proofs.Common.{patterns_at, range_with_len, refl, row_after, row_over, slice_get}
use Rattle.determinize_dense.proofs.Common.{slice_get_within, Some, start_for, start_in, start_row, start_value, step}
use Rattle.determinize_dense.proofs.Common.{suc, Table, Text, units, Value, value_after, [], ℕ, ◌+◌, ◌-◌, ◌<◌, ◌∷◌, ◌≡◌}
use Rattle.determinize_dense.proofs.Common.{◌≤◌}
use Rattle.determinize_core.proofs.walk.WalkValues.{length-chain}
use Rattle.determinize_below.specs.declared.search.Anchored.TheVariants.{No, Pattern, Yes}

-- the numbers from one up to another are that number, and those from the next one
pub range_first : (a b : ℕ) → a < b → range_with_len a (b - a) ≡ a ∷ range_with_len (a + 1) (b - (a + 1))
range_first a b h = let count : b - a ≡ suc (b - (a + 1)) = omega arith in rw count

-- the state from which a search starts
pub start_is : (nfa : Nfa) (a : Anchored) → start_in nfa (is_anchored a) ≡ start_for nfa a
start_is nfa No = refl
start_is nfa Yes = refl
start_is nfa (Pattern p) = refl

length_along : (d : Table) (r : ℕ) (us : List (Option ℕ)) → length (lists_along d r us) ≡ length us
length_along d r [] = refl
length_along d r (u ∷ us) = rw (length_along d (row_over d r u) us)

module _ (d : Table) (r n : ℕ) where
  -- no list is left where no unit is, and over one unit more the first one is that of the next row
  pub lists_along-done : (us : List (Option ℕ)) → length us ≤ n → lists_along d r (drop n us) ≡ []
  lists_along-done us all = rw (drop_all n us all)

  pub lists_along-more : (us : List (Option ℕ)) (u : Option ℕ) → slice_get us n ≡ Some u → lists_along d r (drop n us)
      ≡ patterns_at d (row_over d r u) ∷ lists_along d (row_over d r u) (drop (n + 1) us)
  lists_along-more us u at = rw (drop_more us n u (slice_get_within us n u at), get_or_from_slice_get us n u u at)

  -- the number of lists that are left is that of the units
  pub lists_left : (text : Text) → length (lists_along d r (drop n (units text))) ≡ length text.bytes + 1 - n
  lists_left text = omega (
    arith,
    length_along d r (drop n (units text)),
    length-drop n (units text),
    length-map-range_with_len (after_at text) 0 (suc (length text.bytes)),
  )

  -- so no match is left where no unit is, and over one unit more the first one is that of the next row
  pub last_listed-done : (us : List (Option ℕ)) → length us ≤ n → last_listed n (lists_along d r (drop n us)) ≡ None
  last_listed-done us all = rw (lists_along-done us all)

  pub last_listed-more : (us : List (Option ℕ)) (u : Option ℕ) → slice_get us n ≡ Some u
      → last_listed n (lists_along d r (drop n us))
      ≡ option_or (last_listed (n + 1) (lists_along d (row_over d r u) (drop (n + 1) us)))
      (ended_at n (patterns_at d (row_over d r u)))
  last_listed-more us u at = rw (lists_along-more us u at, add-one)

-- one position more, and no more
pub ruleset along = (lists_along-done, lists_along-more, all_read)

-- no match is left from a row that none follows
pub last_listed-dead : (d : Table) (us : List (Option ℕ)) (r n : ℕ) → IsDead d r → All IsUnit us
    → last_listed n (lists_along d r us) ≡ None
last_listed-dead d [] r n dead all = refl
last_listed-dead d (u ∷ us) r n dead all =
    let after = λ (more : List (Option ℕ)) (units : All IsUnit more). dead (u ∷ more)
    (All-cons IsUnit u more (All-head IsUnit u us all) units) in
    rw (last_listed-dead d us (row_over d r u) (suc n) after (All-tail IsUnit u us all), after [] (All-nil IsUnit))

-- the lists along units are those of the values, if row and value list the same after all units
lists_along-are : (nfa : Nfa) (kind : MatchKind) (d : Table) (us : List (Option ℕ)) (r : ℕ) (v : Value)
    → ((more : List (Option ℕ)) → All IsUnit more
    → patterns_at d (row_after d r more) ≡ (value_after nfa kind v more).patterns) → All IsUnit us
    → patterns_at d r ∷ lists_along d r us ≡ lists_of (future nfa kind v us)
lists_along-are nfa kind d [] r v same all = rw (same [] (All-nil IsUnit))
lists_along-are nfa kind d (u ∷ us) r v same all =
    let rest = lists_along-are nfa kind d us (row_over d r u) (step nfa kind v u)
    (λ more units. same (u ∷ more) (All-cons IsUnit u more (All-head IsUnit u us all) units))
    (All-tail IsUnit u us all) in
    rw (same [] (All-nil IsUnit), rest)

-- what a list says that is that of a walk, behind its start
along_walk : (nfa : Nfa) (kind : MatchKind) (start : ℕ) (text : Text) (lists : List (List ℕ)) → IsAccepted nfa
    → [] ∷ lists ≡ lists_of (chain nfa kind start text) → ListsAlong nfa kind start text lists
along_walk nfa kind start text lists accepted walk = record {
  count = grind (
    arith,
    length-map (chain nfa kind start text) (λ (v : Value). v.patterns),
    length-chain nfa kind start text,
  );
  walk = walk;
  all = λ k. let is : IsWalkOfAll nfa start text ([] ∷ lists) = rw (walk, k) (chain_of_all nfa accepted start text) in
      is.matches;
  leftmost = λ k. rw (walk, k) (chain_leftmost nfa accepted start text);
}

-- the lists along a text, from the row of its start, are those of the walk
pub along_text : (nfa : Nfa) (kind : MatchKind) (d : Table) → IsAccepted nfa → IsDfaOf nfa kind d → (anchored : Bool)
    (text : Text) → IsUnit text.behind → All IsUnit (units text) → (start : ℕ) → start_in nfa anchored ≡ start
    → ListsAlong nfa kind start text (lists_along d (start_row nfa d anchored text.behind) (units text))
unfolding chain
along_text nfa kind d accepted is anchored text behind all start same =
    let row : ℕ = start_row nfa d anchored text.behind in
    let are = lists_along-are nfa kind d (units text) row (start_value nfa (start_in nfa anchored) text.behind)
    (λ more after. is anchored text.behind more behind after) all in
    rw (← same) (along_walk nfa kind (start_in nfa anchored) text _ accepted
    (let first = chain-first nfa kind (start_in nfa anchored) text in cc))
