-- A walk from a position, with its marks and the number of steps.
-- Main statements: walked_start, walked_more, walked_listing, walked_mark, none_follows, none_past, walked_all,
-- has_walked, has_bit_here, ends_before, cost_some, cost_none, cost_most, steps_enough.
-- Used by: `walk_bytes`, `walk_from`, `search_from`, `find_all_with` and `Searcher::new`.
-- Idea: a step finds a match at its position, or it marks a pair, or it is the first or the last one.
use Rattle.std.proofs.Common.{◌≡◌, ◌<◌, ◌≤◌, ◌*◌, ◌+◌, ◌∙◌, ℕ, Bool, List, None, Option, Some, [], ◌∷◌, arith, false}
use Rattle.std.proofs.Common.{length, refl, slice_get, subst, suc, sym, true, zero}
use Rattle.std.proofs.lemmas.Bool.{true≢false}
use Rattle.std.specs.Option.{IfNone, IfSome, option_or}
use Rattle.std.specs.Prelude.{All}
use Rattle.std.proofs.lemmas.Option.{get_or_from_slice_get, slice_get_within}
use Rattle.determinize_below.specs.Semantics.{Text}
use Rattle.determinize_below.specs.Truth.{IsUnit}
use Rattle.determinize_below.specs.declared.search.HalfMatch.{HalfMatch}
use Rattle.determinize_core.specs.Chain.{units}
use Rattle.determinize_core.specs.LastMatch.{ended_at}
use Rattle.determinize_dense.specs.Bytes.{Stored}
use Rattle.determinize_dense.specs.Table.{Table, patterns_at, row_over}
use Rattle.determinize_engine.proofs.Texts.{all_read}
use Rattle.determinize_state.specs.Value.{is_nonempty}
use Rattle.determinize_linear.specs.Private.Following.{IsWalkable, following, steps_left, unmarked}
use Rattle.determinize_linear.specs.Private.Paid.{IsPaid, end_of}
use Rattle.determinize_linear.specs.Private.RowMarks.{HasBits, HasMark, RowMarks, bit_of, is_set}
use Rattle.determinize_linear.specs.Private.Walks.{HasStepped, HasWalked, IsWalked, WalkValue, matched}
use Rattle.determinize_linear.proofs.walks.Followed.{followed_all, followed_end, followed_mark, followed_start}
use Rattle.determinize_linear.proofs.walks.Followed.{followed_step, following-done, following-marked, following-none}
use Rattle.determinize_linear.proofs.walks.Unset.{bit_within, unset-with}

pub unit_at : (us : List (Option ℕ)) (i : ℕ) (u : Option ℕ) → All IsUnit us → slice_get us i ≡ Some u → IsUnit u
unit_at us i u all e =
    subst (λ w. IsUnit w) (get_or_from_slice_get us i u None e) (all i None (slice_get_within us i u e))

-- the same marks but for their bits
same_bits : (d : Table) (n : ℕ) (old m : RowMarks) → HasBits d n old → m.span ≡ old.span
    → length m.words ≡ length old.words → HasBits d n m
same_bits d n old m has span words = record { room = rw span has.room; words = rw (words, span) has.words }

lists_none : (ps : List ℕ) → false ≡ is_nonempty ps → ps ≡ []
lists_none ps e = grind arith

module _ (text : Text) (first : WalkValue) (old : RowMarks)
    (can : IsWalkable first.dfa old text first.at) (before : ℕ) where
  abbrev Walked : RowMarks → WalkValue → ℕ → ℕ → Type 0
  Walked m now more total = IsWalked text first old m now more before total

  more_steps : (m : RowMarks) (now : WalkValue) (some more total : ℕ) → some ≤ more → Walked m now some total
      → Walked m now more total
  more_steps m now some more total l w = record {
    dfa = w.dfa;
    followed = w.followed;
    below = w.below;
    passed = w.passed;
    within = w.within;
    span = w.span;
    words = w.words;
    cost = omega (arith, w.cost, l);
  }

  pub walked_start : first.row < length first.dfa.table.patterns → first.found ≡ None → Walked old first 0 before
  walked_start below none = record {
    dfa = refl;
    followed = rw none (followed_start first.dfa.table text old first.at first.row can.none);
    below = below;
    passed = rw none (omega arith);
    within = rw none tt;
    span = refl;
    words = refl;
    cost = rw none (omega arith);
  }

  module _ (m : RowMarks) (now : WalkValue) (more total : ℕ) (is : Walked m now more total) where
    pub bits : HasBits first.dfa.table (length text.bytes + 1) m
    bits = same_bits first.dfa.table (length text.bytes + 1) old m can.bits is.span is.words

    -- the pair where the walk is has a bit
    pub has_bit_here : now.at ≤ length text.bytes
        → bit_of m now.at (now.row * (now.dfa.table.class_count + 1)) < 64 * length m.words
    has_bit_here l =
        rw is.dfa (bit_within first.dfa.table (length text.bytes + 1) m bits now.at now.row (omega arith) is.below)

    -- a step over a unit
    module _ (u : Option ℕ) (next : WalkValue) (is_match : Bool) (step : HasStepped now u next is_match) (sum : ℕ)
        (unit : slice_get (units text) now.at ≡ Some u) (are : All IsUnit (units text)) (l : now.at ≤ length text.bytes)
        (counts : sum ≤ total + 1) where
      goes : next.row ≡ row_over first.dfa.table now.row u
      goes = rw is.dfa at step.row

      takes : next.found ≡ option_or (ended_at now.at (patterns_at first.dfa.table next.row)) now.found
      takes = rw is.dfa at step.found

      -- the steps that find no match
      abbrev extra : List ℕ → ℕ
      extra [] = 1
      extra (x ∷ xs) = 0

      stepped : (ps : List ℕ) → patterns_at first.dfa.table next.row ≡ ps → Walked m next (extra ps + more) sum
      stepped ps e = record {
        dfa = step.dfa ∙ is.dfa;
        followed = rw step.at
            (followed_step first.dfa.table text m first.at now.at now.row now.found _ is.followed
            next.row u next.found unit goes takes);
        below = rw goes (can.rows.rows now.row u is.below (unit_at (units text) now.at u are unit));
        passed = passed ps e;
        within = within ps e;
        span = is.span;
        words = is.words;
        cost = cost ps e is.cost counts;
      }
        where
          is_found : (ps : List ℕ) → patterns_at first.dfa.table next.row ≡ ps
              → next.found ≡ option_or (ended_at now.at ps) now.found
          is_found ps e = rw e at takes

          passed : (ps : List ℕ) → patterns_at first.dfa.table next.row ≡ ps
              → first.at + matched first.at next.found ≤ next.at
          passed [] e = rw (is_found [] e, step.at) (omega (arith, is.passed))
          passed (x ∷ xs) e = rw (is_found (x ∷ xs) e, step.at) (omega (arith, is.passed))

          within : (ps : List ℕ) → patterns_at first.dfa.table next.row ≡ ps
              → IfSome next.found (λ f. f.offset ≤ length text.bytes)
          within [] e = rw (is_found [] e) is.within
          within (x ∷ xs) e = rw (is_found (x ∷ xs) e) l

          cost : (ps : List ℕ) → patterns_at first.dfa.table next.row ≡ ps
              → total + unmarked first.dfa.table text m
              ≤ before + unmarked first.dfa.table text old + matched first.at now.found + more → sum ≤ total + 1
              → sum + unmarked first.dfa.table text m
              ≤ before + unmarked first.dfa.table text old + matched first.at next.found + (extra ps + more)
          cost [] e c n = rw (is_found [] e) (omega (arith, c, n))
          cost (x ∷ xs) e c n = rw (is_found (x ∷ xs) e) (omega (arith, c, n, is.passed))

      pub walked_more : Walked m next (more + 1) sum
      walked_more = least (patterns_at first.dfa.table next.row) (stepped (patterns_at first.dfa.table next.row) refl)
        where
          least : (ps : List ℕ) → Walked m next (extra ps + more) sum → Walked m next (more + 1) sum
          least [] w = more_steps m next (1 + more) (more + 1) sum (omega arith) w
          least (x ∷ xs) w = more_steps m next (0 + more) (more + 1) sum (omega arith) w

      pub walked_listing : is_match ≡ true → Walked m next more sum
      walked_listing e = go (patterns_at first.dfa.table next.row) refl (sym e ∙ rw is.dfa at step.lists)
        where
          go : (ps : List ℕ) → patterns_at first.dfa.table next.row ≡ ps
              → true ≡ is_nonempty (patterns_at first.dfa.table next.row) → Walked m next more sum
          go [] z n = absurd (true≢false (rw z at n))
          go (x ∷ xs) z n = more_steps m next (0 + more) more sum (omega arith) (stepped (x ∷ xs) z)

      -- a step that lists none, and marks its pair
      pub walked_mark : is_match ≡ false → (new : RowMarks)
          → HasMark m (bit_of m now.at (now.row * (now.dfa.table.class_count + 1))) new
          → is_set now.dfa.table m now.at now.row ≡ false → Walked new next more sum
      walked_mark e new mark free =
          let none : patterns_at first.dfa.table next.row ≡ [] = lists_none _ (sym e ∙ rw is.dfa at step.lists) in
          let w : Walked m next (1 + more) sum = stepped [] none in
          let mark : HasMark m (bit_of m now.at (now.row * (first.dfa.table.class_count + 1))) new =
          rw is.dfa at mark in
          let free : is_set first.dfa.table m now.at now.row ≡ false = rw is.dfa at free in
          record {
            dfa = w.dfa;
            followed = followed_mark first.dfa.table text m first.at next.at next.row next.found _ w.followed new now.at
                now.row bits mark (omega (arith, step.at)) l
                (rw step.at (following-none first.dfa.table text now.at now.row next.row u unit goes none));
            below = w.below;
            passed = w.passed;
            within = w.within;
            span = mark.span ∙ is.span;
            words = mark.words ∙ is.words;
            cost = omega (
              arith,
              w.cost,
              unset-with first.dfa.table (length text.bytes + 1) m new now.at now.row bits mark (omega arith) is.below
                  free,
            );
          }

    -- where no match follows
    pub none_follows : (now.at < length text.bytes → is_set now.dfa.table m now.at now.row ≡ true)
        → now.at < length text.bytes → following first.dfa.table text now.at now.row ≡ None
    none_follows ends l = following-marked first.dfa.table text m first.at now.at now.row now.found _ is.followed
        (omega arith) is.below (rw is.dfa at (ends l))

    -- and past the end of the text none does
    pub none_past : length text.bytes < now.at → following first.dfa.table text now.at now.row ≡ None
    none_past l = following-done first.dfa.table text now.at now.row (all_read text l refl)

    module _ (none : following first.dfa.table text now.at now.row ≡ None) where
      pub walked_all : now.found ≡ following first.dfa.table text first.at first.row
      walked_all = followed_all first.dfa.table text m first.at now.at now.row now.found _ is.followed none

      pub has_walked : more ≤ 2 → HasWalked first.dfa text first.at old m now.found before total
      has_walked few = record {
        order = is.followed.order;
        within = is.within;
        walkable = λ k l. record {
          rows = can.rows;
          bits = bits;
          none = λ p r i n b e. followed_end first.dfa.table text m first.at now.at now.row now.found _
              is.followed none p
              r (omega arith) n b e;
        };
        cost = omega (arith, is.cost, few);
      }

-- a walk that took a step is further on than the end of its match
pub ends_before : (from at : ℕ) (found : Option HalfMatch) → from < at → from ≤ end_of from found
    → from + matched from found ≤ at → end_of from found + 1 ≤ at
ends_before from at None a b c = omega arith
ends_before from at (Some f) a b c = omega (arith, b, c)

-- what a walk cost
module _ (dfa : Stored) (text : Text) (from : ℕ) (old m : RowMarks) (found : Option HalfMatch)
    (before total : ℕ) (is : HasWalked dfa text from old m found before total) where
  pub cost_some : IfSome found (λ f. IsPaid (steps_left dfa.table text m) 0 (steps_left dfa.table text old from) from
      f.offset 3 before total)
  cost_some = go found is.order is.within is.cost
    where
      go : (o : Option HalfMatch) → from ≤ end_of from o → IfSome o (λ f. f.offset ≤ length text.bytes)
          → total + unmarked dfa.table text m ≤ before + unmarked dfa.table text old + matched from o + 2
          → IfSome o (λ f. IsPaid (steps_left dfa.table text m) 0 (steps_left dfa.table text old from) from f.offset 3
          before total)
      go None a b c = tt
      go (Some f) a b c = record {
        low = a;
        further = λ k l. omega (arith, a, b, c);
        here = omega (arith, a, b, c);
      }

  pub cost_none : IfNone found ((k : ℕ) → from ≤ k
      → total + steps_left dfa.table text m k ≤ before + 3 + steps_left dfa.table text old from)
  cost_none = go found is.cost
    where
      go : (o : Option HalfMatch)
          → total + unmarked dfa.table text m ≤ before + unmarked dfa.table text old + matched from o + 2
          → IfNone o ((k : ℕ) → from ≤ k
          → total + steps_left dfa.table text m k ≤ before + 3 + steps_left dfa.table text old from)
      go None c = λ k l. omega (arith, c)
      go (Some f) c = tt

  pub cost_most : total ≤ before + 3 + steps_left dfa.table text old from
  cost_most = go found is.order is.within is.cost
    where
      go : (o : Option HalfMatch) → from ≤ end_of from o → IfSome o (λ f. f.offset ≤ length text.bytes)
          → total + unmarked dfa.table text m ≤ before + unmarked dfa.table text old + matched from o + 2
          → total ≤ before + 3 + steps_left dfa.table text old from
      go None a b c = omega (arith, c)
      go (Some f) a b c = omega (arith, a, b, c)

-- the steps that are left before the first match are enough
pub steps_enough : (r n : ℕ) → (n + 1) * r + (n + 1) + 3 * (n + 1) ≤ (r + 4) * (n + 2)
steps_enough r zero = omega arith
steps_enough r (suc n) = omega (arith, steps_enough r n)
